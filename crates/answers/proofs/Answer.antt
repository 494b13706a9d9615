-- An answer is what its numbers say: no refusal has the number 0, and no two have one number.
-- Assumes nothing.
use Prim.Native.Nat.{ℕ}
use mathlib.Core.Bool.{false, cond}
use borrow.Author.Tests.{eqb-false}
use mathlib.Core.List.{List, [], ◌∷◌}
use mathlib.Core.Path.{◌≡◌, refl, sym, ap, ◌∙◌}
use Rattle.std.specs.Prelude.{Result, Ok, Err, eqb}
use Rattle.answers.specs.Refusal as Number
use Rattle.answers.proofs.OneAnswer.{OneAnswer, one}
use Rattle.answers.proofs.refusal.Refusal.number.Reads as number
use Rattle.answers.proofs.refusal.Refusal.marks.Reads as marks
use Rattle.answers.proofs.refusal.code.Reads as code
use Rattle.answers.proofs.refusal.told.Reads as told
use denote.RattleType.{RattleType}
use denote.Param.Laws.{Laws, IsCopy}
use mir.Syntax.{Dict}
use Rattle.std.specs.declared.clone.Clone.{Ghosts}
use Rattle.answers.specs.Answer.{number_of, code_of, or_none}
use Rattle.answers.specs.declared.refusal.Refusal.{Refusal}
use Rattle.answers.specs.declared.refusal.Refusal.TheVariants.{State, Setting, Key, Short, Session, Length, Small, Spent, Old, Repeat, Stale, Plain, Mac, Inner, Padding, Size, Room, Held, Epochs, Wrapped, Frame, Twice, Rows, Unknown}

first_named : ℕ → List (ℕ × Refusal) → Refusal
first_named n [] = Unknown
first_named n (p ∷ ps) = cond (eqb n p.0) p.1 (first_named n ps)

refusal_of : ℕ → Refusal
refusal_of n =
    first_named n
    ((Number.state, State)
    ∷ (Number.setting, Setting)
    ∷ (Number.key, Key)
    ∷ (Number.short, Short)
    ∷ (Number.session, Session)
    ∷ (Number.length, Length)
    ∷ (Number.small, Small)
    ∷ (Number.spent, Spent)
    ∷ (Number.old, Old)
    ∷ (Number.repeat, Repeat)
    ∷ (Number.stale, Stale)
    ∷ (Number.plain, Plain)
    ∷ (Number.mac, Mac)
    ∷ (Number.inner, Inner)
    ∷ (Number.padding, Padding)
    ∷ (Number.size, Size)
    ∷ (Number.room, Room)
    ∷ (Number.held, Held)
    ∷ (Number.epochs, Epochs)
    ∷ (Number.wrapped, Wrapped)
    ∷ (Number.frame, Frame)
    ∷ (Number.twice, Twice)
    ∷ (Number.rows, Rows)
    ∷ [])

read_back : (why : Refusal) → refusal_of (number_of why) ≡ why
unfolding first_named refusal_of
read_back State = refl
read_back Setting = refl
read_back Key = refl
read_back Short = refl
read_back Session = refl
read_back Length = refl
read_back Small = refl
read_back Spent = refl
read_back Old = refl
read_back Repeat = refl
read_back Stale = refl
read_back Plain = refl
read_back Mac = refl
read_back Inner = refl
read_back Padding = refl
read_back Size = refl
read_back Room = refl
read_back Held = refl
read_back Epochs = refl
read_back Wrapped = refl
read_back Frame = refl
read_back Twice = refl
read_back Rows = refl
read_back Unknown = refl

-- no two refusals have one number
pub number_once : (a b : Refusal) → number_of a ≡ number_of b → a ≡ b
number_once a b e = sym (read_back a) ∙ ap refusal_of e ∙ read_back b

numbered : (why : Refusal) → eqb (number_of why) 0 ≡ false
numbered State = refl
numbered Setting = refl
numbered Key = refl
numbered Short = refl
numbered Session = refl
numbered Length = refl
numbered Small = refl
numbered Spent = refl
numbered Old = refl
numbered Repeat = refl
numbered Stale = refl
numbered Plain = refl
numbered Mac = refl
numbered Inner = refl
numbered Padding = refl
numbered Size = refl
numbered Room = refl
numbered Held = refl
numbered Epochs = refl
numbered Wrapped = refl
numbered Frame = refl
numbered Twice = refl
numbered Rows = refl
numbered Unknown = refl

-- no refusal has the number 0
pub number_some : (why : Refusal) → number_of why ≡ 0 → ⊥
number_some why = eqb-false (number_of why) 0 (numbered why)

-- two answers with one code that hand out the same are one
pub answer_once : {A : Type 0} (none : A) (x y : Result A Refusal) → code_of x ≡ code_of y → or_none none x ≡ or_none none y → x ≡ y
answer_once none (Ok x) (Ok y) e h = ap (λ (z : _). Ok z) h
answer_once none (Ok x) (Err b) e h = absurd (number_some b (sym e))
answer_once none (Err a) (Ok y) e h = absurd (number_some a e)
answer_once none (Err a) (Err b) e h = ap (λ (z : Refusal). Err z) (number_once a b e)

-- two answers that hand out nothing and have one code are one
pub code_once : (x y : Result (Unit {0}) Refusal) → code_of x ≡ code_of y → x ≡ y
code_once x y e = answer_once tt x y e refl

-- ---- two answers that the contract of a function allows are one

pub number_one : OneAnswer number.Post (λ κs x s. x)
number_one κs a x y s t p q = one p q

pub marks_one : OneAnswer marks.Post (λ κs x s. x)
marks_one κs a x y s t p q = one p q

pub code_one : OneAnswer code.Post (λ κs x s. x)
code_one κs a x y s t p q = one p q

-- whatever is handed out
pub told_one : (T : RattleType) (l : Laws T) (c : IsCopy T) (g : Ghosts T.Denot) (d : Dict) → OneAnswer (told.Post T l c g d) (λ κs x s. x)
told_one T l c g d κs a x y s t p q i = (one p.0 q.0 i, one p.1 q.1 i)
