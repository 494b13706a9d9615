-- For each public function: two answers that its contract allows are one.
-- Assumes nothing.
use Prim.Native.Nat.{ℕ}
use mathlib.Core.Path.{◌≡◌, ap}
use Rattle.std.specs.Prelude.{Result}
use Rattle.answers.specs.declared.refusal.Refusal.{Refusal}
use Rattle.answers.proofs.Answer.{answer_once}
use Rattle.answers.proofs.OneAnswer.{OneAnswer, one}
use Rattle.numbers.specs.Contract.{Placed, as_placed}
use Rattle.numbers.proofs.marks.Marks.none.Reads as none
use Rattle.numbers.proofs.marks.Marks.moved.Reads as moved
use Rattle.numbers.proofs.marks.Marks.cut.Reads as cut
use Rattle.numbers.proofs.marks.Marks.set.Reads as set
use Rattle.numbers.proofs.marks.Marks.test.Reads as test
use Rattle.numbers.proofs.marks.Marks.same.Reads as same
use Rattle.numbers.proofs.marks.Marks.count.Reads as count
use Rattle.numbers.proofs.window.Window.empty.Reads as empty
use Rattle.numbers.proofs.window.Window.is_empty.Reads as is-empty
use Rattle.numbers.proofs.window.Window.sound.Reads as sound
use Rattle.numbers.proofs.window.Window.place.Reads as place
use Rattle.numbers.proofs.window.Window.judge.Reads as judge
use Rattle.numbers.proofs.window.Window.mark.Reads as mark
use Rattle.numbers.proofs.window.Window.gaps.Reads as gaps

-- two results that are the same numbers are one
pub placed_once : (x y : Result ℕ Refusal) → as_placed x ≡ as_placed y → x ≡ y
placed_once x y e = answer_once 0 x y (ap (λ (p : Placed). p.answer) e) (ap (λ (p : Placed). p.number) e)

-- ---- `Marks`

pub none_one : OneAnswer none.Post (λ κs x s. x)
none_one κs a x y s t p q = one p q

pub moved_one : OneAnswer moved.Post (λ κs x s. x)
moved_one κs a x y s t p q = one p q

pub cut_one : OneAnswer cut.Post (λ κs x s. x)
cut_one κs a x y s t p q = one p q

pub set_one : OneAnswer set.Post (λ κs x s. x)
set_one κs a x y s t p q = one p q

pub test_one : OneAnswer test.Post (λ κs x s. x)
test_one κs a x y s t p q = one p q

pub same_one : OneAnswer same.Post (λ κs x s. x)
same_one κs a x y s t p q = one p q

pub count_one : OneAnswer count.Post (λ κs x s. x)
count_one κs a x y s t p q = one p q

-- ---- `Window`

pub empty_one : OneAnswer empty.Post (λ κs x s. x)
empty_one κs a x y s t p q = one p q

pub is_empty_one : OneAnswer is-empty.Post (λ κs x s. x)
is_empty_one κs a x y s t p q = one p q

pub sound_one : OneAnswer sound.Post (λ κs x s. x)
sound_one κs a x y s t p q = one p q

pub place_one : OneAnswer place.Post (λ κs x s. x)
place_one κs a x y s t p q = placed_once x y (one p q)

pub judge_one : OneAnswer judge.Post (λ κs x s. x)
judge_one κs a x y s t p q = placed_once x y (one p q)

pub mark_one : OneAnswer mark.Post (λ κs x s. x)
mark_one κs a x y s t p q = one p q

pub gaps_one : OneAnswer gaps.Post (λ κs x s. x)
gaps_one κs a x y s t p q = one p q
