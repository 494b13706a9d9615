-- T1 and T2 bite: each wrong receiver fails one or both, on a closed run, by computation; the right one fails neither.
-- Assumes nothing.
use Prim.Native.Nat.{ℕ}
use mathlib.Core.Path.{◌≡◌, refl, ap}
use mathlib.Core.Bool.{Bool, true, false, not, ◌&&◌, ◌||◌}
use mathlib.Core.List.{List, [], ◌∷◌, map, Memᴰ}
use lib.Dec.{eqb}
use borrow.Author.Tests.{eq-eqb, eqb-true}
use Rattle.channel.specs.Call.{Call, Answer}
use Rattle.promises.specs.Distinct.{Distinct, more}
use Rattle.promises.specs.Run.{all_marked}
use Rattle.promises.specs.Plain.{open_plain, plain_answers}
use Rattle.promises.specs.Ways.{Fails, Receives, right_receives, answers_in, T1, T2}
use Rattle.promises.specs.WrongReceivers.{set, iv, wrong_receivers, mark_twice}
use Rattle.promises.specs.WrongReceivers.{refuses_all, number_zero, made_up_gaps, ageless, marks_at_offer, marks_on_no, ignores_stale}
use Rattle.promises.specs.WrongReceivers.{marks_by, forgets_to_mark, marks_first, one_window, moves_round, clears_window, sees_one_key, sees_no_marks}
use Rattle.promises.proofs.Computing.{computing}
use Rattle.promises.proofs.Failing.{fails}
use Rattle.promises.proofs.Simulation as Simulation
use Rattle.promises.proofs.Once as Once

-- `unfolding wrong_ones` opens all of them
wrong_tables : Unit {0}
unfolding refuses_all number_zero made_up_gaps ageless marks_at_offer marks_on_no ignores_stale
wrong_tables = tt

wrong_ones : Unit {0}
unfolding wrong_tables marks_by forgets_to_mark marks_first one_window moves_round clears_window sees_one_key sees_no_marks
wrong_ones = tt

-- ---- T1

-- the code, the number and the gap count of a run's last answer
last_said : List Answer → ℕ × ℕ × ℕ
last_said [] = (0, 0, 0)
last_said (a ∷ []) = (a.code, a.number, a.gaps)
last_said (a ∷ b ∷ l) = last_said (b ∷ l)

-- a receiver's last answer on its run, and the plain one's
lasts : Receives × List Call → (ℕ × ℕ × ℕ) × (ℕ × ℕ × ℕ)
lasts x = (last_said (answers_in x.0 set iv x.1), last_said (plain_answers (open_plain set iv) x.1))

-- in the list's order: they differ, in the code, the number or the gap count
last_answers : map lasts wrong_receivers
    ≡ ((13, 0, 0), (0, 0, 0))
    ∷ ((0, 0, 0), (0, 1, 0))
    ∷ ((0, 0, 0), (0, 0, 1))
    ∷ ((10, 0, 0), (0, 0, 0))
    ∷ ((10, 0, 0), (0, 0, 0))
    ∷ ((0, 0, 0), (11, 0, 0))
    ∷ ((10, 0, 0), (0, 0, 0))
    ∷ ((10, 0, 0), (0, 0, 0))
    ∷ ((0, 0, 0), (9, 0, 0))
    ∷ ((0, 0, 0), (10, 0, 0))
    ∷ ((0, 0, 0), (10, 0, 0))
    ∷ ((0, 0, 0), (10, 0, 0))
    ∷ ((0, 0, 0), (10, 0, 0))
    ∷ ((0, 0, 0), (10, 0, 0))
    ∷ []
unfolding computing wrong_ones last_said lasts
last_answers = refl

abbrev same : (ℕ × ℕ × ℕ) × (ℕ × ℕ × ℕ) → Bool
same p = eqb p.0.0 p.1.0 && (eqb p.0.1 p.1.1 && eqb p.0.2 p.1.2)

same_if : (a b : ℕ × ℕ × ℕ) → a ≡ b → same (a, b) ≡ true
same_if a b e =
    rw (
      eq-eqb a.0 b.0 (ap (λ (x : ℕ × ℕ × ℕ). x.0) e),
      eq-eqb a.1 b.1 (ap (λ (x : ℕ × ℕ × ℕ). x.1) e),
      eq-eqb a.2 b.2 (ap (λ (x : ℕ × ℕ × ℕ). x.2) e),
    )

T1-same : (x : Receives × List Call) → T1 x.0 → same (lasts x) ≡ true
unfolding lasts
T1-same x t = same_if (lasts x).0 (lasts x).1 (ap last_said (t set iv x.1))

-- T1 fails of each wrong receiver
pub wrong_receivers_fail : Fails (λ x. T1 x.0) wrong_receivers
wrong_receivers_fail = fails _ lasts same T1-same wrong_receivers _ last_answers tt

-- and holds of the right one
pub right_answers : T1 right_receives
right_answers = Simulation.as_plain

-- ---- T2

-- what a receiver marks on its run
marks : Receives × List Call → List (ℕ × ℕ)
marks x = all_marked x.1 (answers_in x.0 set iv x.1)

-- in the list's order: a pair of key count and number comes twice
twice_marked : map marks mark_twice
    ≡ ((0, 100) ∷ (0, 30) ∷ (0, 30) ∷ [])
    ∷ ((0, 0) ∷ (0, 0) ∷ [])
    ∷ ((0, 0) ∷ (0, 1) ∷ (0, 1) ∷ [])
    ∷ ((0, 0) ∷ (0, 1) ∷ (0, 0) ∷ [])
    ∷ ((0, 0) ∷ (0, 0) ∷ [])
    ∷ ((0, 0) ∷ (0, 0) ∷ [])
    ∷ []
unfolding computing wrong_ones marks
twice_marked = refl

abbrev among : ℕ × ℕ → List (ℕ × ℕ) → Bool
among a [] = false
among a (x ∷ l) = (eqb a.0 x.0 && eqb a.1 x.1) || among a l

abbrev distinct : List (ℕ × ℕ) → Bool
distinct [] = true
distinct (a ∷ l) = not (among a l) && distinct l

not_among : (a : ℕ × ℕ) (l : List (ℕ × ℕ)) → (Memᴰ a l → ⊥) → among a l ≡ false
not_among a [] f = refl
not_among a (x ∷ l) f = go (eqb a.0 x.0) (eqb a.1 x.1) refl refl (not_among a l (λ m. f (Memᴰ.tail m)))
  where
    go : (b c : Bool) → eqb a.0 x.0 ≡ b → eqb a.1 x.1 ≡ c → among a l ≡ false → ((b && c) || among a l) ≡ false
    go true true p q e = absurd (f (Memᴰ.head (λ i. (eqb-true a.0 x.0 p i, eqb-true a.1 x.1 q i))))
    go true false p q e = e
    go false c p q e = e

distinct_if : (l : List (ℕ × ℕ)) → Distinct l → distinct l ≡ true
distinct_if [] d = refl
distinct_if (a ∷ l) (more fresh d) = rw (not_among a l fresh) (distinct_if l d)

T2-distinct : (x : Receives × List Call) → T2 x.0 → distinct (marks x) ≡ true
unfolding marks
T2-distinct x t = distinct_if (marks x) (t set iv x.1)

-- T2 fails of each that marks a number twice
pub mark_twice_fail : Fails (λ x. T2 x.0) mark_twice
mark_twice_fail = fails _ marks distinct T2-distinct mark_twice _ twice_marked tt

-- and holds of the right one
pub right_marks : T2 right_receives
right_marks = Once.marked_once
