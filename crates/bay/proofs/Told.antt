-- The tests of the table's own checks, in words.
-- Assumes nothing.
use Prim.Native.Nat.{ℕ, zero, suc, ◌≤◌, ◌<◌}
use mathlib.Core.Path.{◌≡◌, refl, sym}
use mathlib.Core.Logic.{◌⊎◌, inl, inr}
use mathlib.Core.Bool.{Bool, true, false, not}
use mathlib.Core.List.{List, [], ◌∷◌}
use native.Mathlib.Omega.{arith}
use lib.ListN.{length}
use Rattle.answers.specs.Reasons.{Tells, Told}
use Rattle.answers.proofs.Reasons.{told_row, told_join}
use Rattle.answers.proofs.Tests.{true_not_false, tells_true, tells_lt, tells_not, tells_or, tells_and, tells_differ}
use Rattle.record.proofs.Told.{open_told}
use Rattle.record.specs.Reasons.{open_reasons}
use Rattle.record.specs.Setting.{open_rows}
use Rattle.record.specs.declared.setting.Setting.{Setting}
use Rattle.rows.specs.Ends.{Ends, is_free, is_open, is_split, id_of}
use Rattle.controller.specs.Table.{row_at, some, has, clashes}
use Rattle.controller.specs.Doors.{Door, session, number, id_in, door_rows, new_rows}
use Rattle.bay.specs.Reasons.{Free, Open, Has, Split, Some, Clash, door_reasons, new_reasons}
use Rattle.bay.proofs.Tests.{tells_as}
use Rattle.bay.proofs.Rows.{lowest_found, some_at}
use Rattle.bay.proofs.Free.{beyond_free}
use Rattle.bay.proofs.Through.{has_told}

-- ---- of a row

pub split_told : (e : Ends) → Tells (is_split e) (Split e)
unfolding is_split
split_told e = tells_differ e.receiver.setting.session e.sender.setting.session

-- ---- of a table

pub some_told : (p : Ends → Bool) (P : Ends → Type 0) → ((e : Ends) → Tells (p e) (P e)) → (t : List Ends) → Tells (some p t) (Some P t)
some_told p P h t =
    record {
      holds = λ e. let f = lowest_found p t e in record { row = _; there = f.0; such = (h _).holds f.1 };
      fails = λ e S. go S (p (row_at t S.row)) refl e;
    }
  where
    go : (S : Some P t) (b : Bool) → p (row_at t S.row) ≡ b → some p t ≡ false → ⊥
    go S true q e = true_not_false (some_at p t S.row S.there q) e
    go S false q e = (h _).fails q S.such

-- a clash in a table is one of its first row, alone or with one behind it, or one of the rest
Behind : Ends → List Ends → Type 0
Behind e t = Split e ⊎ ((Open e × Some (Has (id_of e)) t) ⊎ Clash t)

behind_clash : (e : Ends) (t : List Ends) → Behind e t → Clash (e ∷ t)
unfolding Behind
behind_clash e t (inl s) = inr (record { row = 0; there = omega arith; such = s })
behind_clash e t (inr (inl (o, S))) =
    inl (record {
      one = 0;
      two = suc S.row;
      apart = omega arith;
      there_one = omega arith;
      there_two = omega (arith, S.there);
      open_one = o;
      open_two = S.such.0;
      same = sym S.such.1;
    })
behind_clash e t (inr (inr (inl S))) =
    inl (record {
      one = suc S.one;
      two = suc S.two;
      apart = omega (arith, S.apart);
      there_one = omega (arith, S.there_one);
      there_two = omega (arith, S.there_two);
      open_one = S.open_one;
      open_two = S.open_two;
      same = S.same;
    })
behind_clash e t (inr (inr (inr S))) = inr (record { row = suc S.row; there = omega (arith, S.there); such = S.such })

shared_behind : (e : Ends) (t : List Ends) (i j : ℕ) → (i ≡ j → ⊥) → i < suc (length t) → j < suc (length t)
    → Open (row_at (e ∷ t) i) → Open (row_at (e ∷ t) j) → id_of (row_at (e ∷ t) i) ≡ id_of (row_at (e ∷ t) j) → Behind e t
unfolding Behind
shared_behind e t zero zero n a b o p q = absurd (n refl)
shared_behind e t zero (suc j) n a b o p q = inr (inl (o, record { row = j; there = omega arith; such = (p, sym q) }))
shared_behind e t (suc i) zero n a b o p q = inr (inl (p, record { row = i; there = omega arith; such = (o, q) }))
shared_behind e t (suc i) (suc j) n a b o p q =
    inr (inr (inl (record {
      one = i;
      two = j;
      apart = omega arith;
      there_one = omega arith;
      there_two = omega arith;
      open_one = o;
      open_two = p;
      same = q;
    })))

split_behind : (e : Ends) (t : List Ends) (i : ℕ) → i < suc (length t) → Split (row_at (e ∷ t) i) → Behind e t
unfolding Behind
split_behind e t zero a s = inl s
split_behind e t (suc i) a s = inr (inr (inr (record { row = i; there = omega arith; such = s })))

clash_behind : (e : Ends) (t : List Ends) → Clash (e ∷ t) → Behind e t
clash_behind e t (inl S) = shared_behind e t S.one S.two S.apart S.there_one S.there_two S.open_one S.open_two S.same
clash_behind e t (inr S) = split_behind e t S.row S.there S.such

none_clashes : Clash [] → ⊥
none_clashes (inl S) = omega (arith, S.there_one)
none_clashes (inr S) = omega (arith, S.there)

-- two open rows share a Session ID, or a row's two differ
pub clash_told : (t : List Ends) → Tells (clashes t) (Clash t)
unfolding clashes Behind
clash_told [] = record { holds = λ e. absurd (true_not_false e refl); fails = λ e. none_clashes }
clash_told (e ∷ t) =
    tells_as (behind_clash e t) (clash_behind e t)
    (tells_or (split_told e) (tells_or (tells_and (tells_true (is_open e)) (some_told (has (id_of e)) (Has (id_of e)) (has_told (id_of e)) t)) (clash_told t)))

-- no open row has this Session ID
none_has_told : (t : List Ends) (id : ℕ) → Tells (not (some (has id) t)) (Some (Has id) t → ⊥)
none_has_told t id = tells_not (some_told (has id) (Has id) (has_told id) t)

-- the row is free, or beyond the last
no_row_told : (t : List Ends) (i : ℕ) → Tells (is_free (row_at t i)) (Free (row_at t i) ⊎ (length t ≤ i))
no_row_told t i = tells_as inl either (tells_true (is_free (row_at t i)))
  where
    either : Free (row_at t i) ⊎ (length t ≤ i) → Free (row_at t i)
    either (inl f) = f
    either (inr h) = beyond_free t i h

-- ---- the tables of checks

pub door_told : (t : List Ends) (d : Door) → Told (door_rows t d) (door_reasons t d)
unfolding door_rows
door_told t (session r) = (told_row (clash_told t), (told_row (tells_lt _ _), (told_row (none_has_told t (id_in r)), tt)))
door_told t (number i) = (told_row (clash_told t), (told_row (no_row_told t i), tt))

pub new_told : (t : List Ends) (s : Setting) → Told (new_rows t s) (new_reasons t s)
unfolding new_rows
new_told t s = (
  told_row (clash_told t),
  told_join (open_rows s) _ (open_reasons s) _ (open_told s) (
    told_row (some_told (has s.session) (Has s.session) (has_told s.session) t),
    (told_row (tells_not (some_told is_free Free (λ e. tells_true (is_free e)) t)), tt),
  ),
)
