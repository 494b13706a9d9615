-- What the calls of the declared window answer, by the definitions of `Number` and `Window`.
-- Assumes nothing.
use Rattle.std.specs.Prelude.{ℕ, min, max, Bool, ◌&&◌, eqb, Result}
use Rattle.answers.specs.Table.{first, given}
use Rattle.answers.specs.Answer.{code_of, or_none}
use Rattle.answers.specs.declared.refusal.Refusal.{Refusal}
use Rattle.numbers.specs.Number.{nearest, number_rows}
use Rattle.numbers.specs.Word.{most, word_of, marks_of}
use Rattle.numbers.specs.Window.{marked, mark_next, mark_word, sound, gaps}
use Rattle.numbers.specs.declared.window.Rule.{Rule}
use Rattle.numbers.specs.declared.window.Window.{Window}

-- the width that the calls go by, from 1 to what the word has
unfoldable pub width_of : Rule → ℕ
width_of r = max 1 (min most r.width)

-- the window with this E and this word
unfoldable pub window_of : ℕ → ℕ → Window
window_of e m = record { next = e; marks = marks_of m }

-- nothing is marked: also the window of zeros
abbrev pub empty_window : Window
empty_window = window_of 0 0

-- nothing is marked, and nothing else is in it
unfoldable pub is_empty : Window → Bool
is_empty s = eqb s.next 0 && eqb (word_of s.marks) 0

-- which numbers are marked
unfoldable pub seen_by : Window → ℕ → Bool
seen_by s = marked s.next (word_of s.marks)

-- a state that marking can reach
unfoldable pub sound_window : Rule → Window → Bool
sound_window r s = sound (width_of r) r.limit s.next (word_of s.marks)

-- the answer to a partial number: 0 and the whole number, or the number of a refusal and 0
pub record Placed : Type 0 where
  pub answer : ℕ
  pub number : ℕ

-- what a result is, as numbers
abbrev pub as_placed : Result ℕ Refusal → Placed
as_placed r = record { answer = code_of r; number = or_none 0 r }

-- a refusal, with no number
abbrev pub no_place : ℕ → Placed
no_place why = record { answer = why; number = 0 }

-- what becomes of the number n
unfoldable pub judged : Rule → Window → ℕ → Placed
judged r s n =
    given (first (number_rows (width_of r) r.limit s.next (seen_by s) n)) (record { answer = 0; number = n }) no_place

-- what becomes of a record with these low 16 bits
unfoldable pub placed : Rule → Window → ℕ → Placed
placed r s low = judged r s (nearest s.next low)

-- the window after n is marked
unfoldable pub after : Rule → Window → ℕ → Window
after r s n =
    window_of (mark_next r.limit s.next n) (mark_word (width_of r) r.limit s.next (word_of s.marks) n)

-- the gap count
unfoldable pub gaps_of : Rule → Window → ℕ
gaps_of r s = gaps (width_of r) s.next (word_of s.marks)
