-- What a closed computation goes through in this crate: `unfolding numbers_open` opens all of it, and `word_open` what the window word is made of,
-- so that no crate above names that.
-- Assumes nothing.
use Rattle.numbers.specs.Contract.{width_of, sound_window, after, window_of, seen_by, is_empty}
use Rattle.numbers.specs.Memory.{member, next_of}
use Rattle.numbers.specs.Number.{whole, nearest, count, gap_count, number_rows}
use Rattle.numbers.specs.Window.{marked, mark_next, mark_word, sound}
use Rattle.numbers.specs.Word.{bit, set_bit, joined, split, word_of, marks_of}

-- the window word
unfoldable pub word_open : Unit {0}
unfolding bit set_bit joined split word_of marks_of
word_open = tt

-- numbers, and a plain memory of them
unfoldable pub number_open : Unit {0}
unfolding whole nearest count gap_count number_rows member next_of
number_open = tt

-- windows
unfoldable pub window_open : Unit {0}
unfolding width_of sound_window after window_of seen_by is_empty marked mark_next mark_word sound
window_open = tt

-- all of these
unfoldable pub numbers_open : Unit {0}
unfolding word_open number_open window_open
numbers_open = tt
