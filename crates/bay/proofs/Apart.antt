-- No call makes two open rows share a Session ID, nor a row's two differ: so none do in a table that was empty at first, and delivery
-- reaches the one row that has the record's Session ID.
-- Assumes nothing.
use Prim.Native.Nat.{ℕ, ◌<◌}
use mathlib.Core.Path.{◌≡◌, refl, sym, ap, ◌∙◌}
use mathlib.Core.Logic.{◌≢◌, inl, inr}
use mathlib.Core.Bool.{Bool, true, false}
use mathlib.Core.List.{List, [], ◌∷◌}
use lib.Dec.{eqb}
use lib.ListN.{length, set, length-set, length-replicate}
use borrow.Author.Tests.{eqb-true, eqb-false, not-true}
use Rattle.answers.specs.Table.{first}
use Rattle.record.specs.declared.setting.Setting.{Setting}
use Rattle.rows.specs.Ends.{Ends, free_ends, is_free, id_of}
use Rattle.controller.specs.Table.{row_at, some, has, clashes}
use Rattle.controller.specs.Doors.{session, number, id_in, place}
use Rattle.controller.specs.Calls.{TableCall, enter, leave, receive, build, turn, row_to, table_after}
use Rattle.bay.specs.Reach.{target, checks_of}
use Rattle.bay.specs.Reasons.{Open, Has, Split, Clash}
use Rattle.bay.specs.TableRun.{empty_table, table_run}
use Rattle.bay.proofs.Tests.{told_false, told_true}
use Rattle.bay.proofs.Rows.{SetRow, itself, lowest_found, other, set_row, some_at}
use Rattle.bay.proofs.Free.{empty_free, not_open_free, open_there}
use Rattle.bay.proofs.Ends.{build_setting, receiver_setting, turn_setting}
use Rattle.bay.proofs.Through.{door_open, has_told, new_through}
use Rattle.bay.proofs.After.{after_either, made}
use Rattle.bay.proofs.Keeping.{same_length}
use Rattle.bay.proofs.Told.{clash_told, some_told}

-- ---- no clash

-- an open row is in the table
there : (t : List Ends) (j : ℕ) → Open (row_at t j) → j < length t
there t j o = open_there t j (not-true _ o)

-- a Session ID that a row has
pub some_has : (t : List Ends) (id j : ℕ) → Has id (row_at t j) → some (has id) t ≡ true
some_has t id j h = some_at (has id) t j (there t j h.0) (told_true (has_told id (row_at t j)) h)

module _ (t : List Ends) (fine : Clash t → ⊥) where
  -- no two open rows share a Session ID
  pub alone : (i j : ℕ) → Open (row_at t i) → Open (row_at t j) → id_of (row_at t i) ≡ id_of (row_at t j) → i ≡ j
  alone i j o p q = go (eqb i j) refl
    where
      go : (b : Bool) → eqb i j ≡ b → i ≡ j
      go true e = eqb-true i j e
      go false e =
          absurd (fine (inl (record {
            one = i;
            two = j;
            apart = eqb-false i j e;
            there_one = there t i o;
            there_two = there t j p;
            open_one = o;
            open_two = p;
            same = q;
          })))

  -- an open row's two have the same one
  pub paired : (i : ℕ) → Open (row_at t i) → (row_at t i).receiver.setting.session ≡ (row_at t i).sender.setting.session
  paired i o = go (eqb (row_at t i).receiver.setting.session (row_at t i).sender.setting.session) refl
    where
      go : (b : Bool) → eqb (row_at t i).receiver.setting.session (row_at t i).sender.setting.session ≡ b
          → (row_at t i).receiver.setting.session ≡ (row_at t i).sender.setting.session
      go true e = eqb-true _ _ e
      go false e = absurd (fine (inr (record { row = i; there = there t i o; such = eqb-false _ _ e })))

  -- delivery reaches the one row that has the record's Session ID
  pub delivers : (j : ℕ) (r : List ℕ) → Open (row_at t j) → id_of (row_at t j) ≡ id_in r → place t (session r) ≡ j
  unfolding place
  delivers j r o q =
      let f = lowest_found (has (id_in r)) t (some_has t (id_in r) j (o, q)) in
      let h = (has_told (id_in r) _).holds f.1 in
      alone _ j h.0 o (h.1 ∙ sym q)

  -- with a row set to one whose two agree and whose Session ID no other open row has, there is none either
  set_fine : (i : ℕ) (e : Ends) → i < length t → (Split e → ⊥) → (Open e → (j : ℕ) → j ≢ i → Has (id_of e) (row_at t j) → ⊥) → Clash (set t i e) → ⊥
  set_fine i e h s f (inl S) = two (set_row t i e S.one h) (set_row t i e S.two h)
    where
      two : SetRow t i e S.one → SetRow t i e S.two → ⊥
      two (itself p a) (itself q b) = S.apart (p ∙ sym q)
      two (itself p a) (other q b) = f (rw a at S.open_one) S.two q (rw b at S.open_two, rw (a, b) at (sym S.same))
      two (other p a) (itself q b) = f (rw b at S.open_two) S.one p (rw a at S.open_one, rw (a, b) at S.same)
      two (other p a) (other q b) = S.apart (alone S.one S.two (rw a at S.open_one) (rw b at S.open_two) (rw (a, b) at S.same))
  set_fine i e h s f (inr S) = one (set_row t i e S.row h)
    where
      one : SetRow t i e S.row → ⊥
      one (itself p a) = s (rw a at S.such)
      one (other p a) = fine (inr (record { row = S.row; there = rw (length-set t i e) at S.there; such = rw a at S.such }))

  -- so an open row whose ends keep their Session IDs
  renew_fine : (i : ℕ) (e : Ends) → is_free (row_at t i) ≡ false → e.receiver.setting.session ≡ (row_at t i).receiver.setting.session
      → e.sender.setting.session ≡ (row_at t i).sender.setting.session → Clash (set t i e) → ⊥
  renew_fine i e o p q =
      let here : Open (row_at t i) = rw o in
      set_fine i e (open_there t i o) (λ s. s (p ∙ paired i here ∙ sym q)) (λ a j n h. n (alone j i h.0 here (h.1 ∙ p)))

-- ---- a call, a run

made_fine : (t : List Ends) → (Clash t → ⊥) → (c : TableCall) → first (checks_of t c) ≡ 0 → Clash (set t (target t c) (made t c)) → ⊥
unfolding checks_of target made place
made_fine t fine (enter s iv iw) e =
    let E = new_through t s e in
    set_fine t fine _ _ E.there (λ n. n refl)
    (λ o j n h. (some_told (has s.session) (Has s.session) (has_told s.session) t).fails E.none_has (record { row = j; there = there t j h.0; such = h }))
made_fine t fine (leave i) e = set_fine t fine i free_ends (open_there t i (door_open t (number i) e)) (λ n. n refl) (λ o. absurd (not_open_free o))
made_fine t fine (receive d c) e =
    renew_fine t fine (place t d) _ (door_open t d e) (ap (λ (s : Setting). s.session) (receiver_setting (row_to t d).receiver c)) refl
made_fine t fine (build i app random out) e =
    renew_fine t fine i _ (door_open t (number i) e) refl (ap (λ (s : Setting). s.session) (build_setting (row_at t i).sender _ _ _))
made_fine t fine (turn i iv) e =
    renew_fine t fine i _ (door_open t (number i) e) refl (ap (λ (s : Setting). s.session) (turn_setting (row_at t i).sender iv))

-- no call makes a clash where there was none
pub call_fine : (t : List Ends) → (Clash t → ⊥) → (c : TableCall) → Clash (table_after t c) → ⊥
call_fine t fine c = after_either t c (λ (u : List Ends). Clash u → ⊥) (made_fine t fine c) fine

pub run_fine : (t : List Ends) → (Clash t → ⊥) → (cs : List TableCall) → Clash (table_run t cs) → ⊥
unfolding table_run
run_fine t fine [] = fine
run_fine t fine (c ∷ cs) = run_fine (table_after t c) (call_fine t fine c) cs

empty_fine : (n : ℕ) → Clash (empty_table n) → ⊥
empty_fine n (inl S) = not_open_free (rw (empty_free n S.one) at S.open_one)
empty_fine n (inr S) = (rw (empty_free n S.row) at S.such) refl

-- it keeps its number of rows
pub run_length : (t : List Ends) (cs : List TableCall) → length (table_run t cs) ≡ length t
unfolding table_run
run_length t [] = refl
run_length t (c ∷ cs) = run_length (table_after t c) cs ∙ same_length t c

pub length_from_empty : (n : ℕ) (cs : List TableCall) → length (table_run (empty_table n) cs) ≡ n
length_from_empty n cs = run_length (empty_table n) cs ∙ length-replicate n free_ends

-- from an empty table on there is none
pub fine_from_empty : (n : ℕ) (cs : List TableCall) → Clash (table_run (empty_table n) cs) → ⊥
fine_from_empty n cs = run_fine (empty_table n) (empty_fine n) cs

pub never_clashes : (n : ℕ) (cs : List TableCall) → clashes (table_run (empty_table n) cs) ≡ false
never_clashes n cs = told_false (clash_told _) (fine_from_empty n cs)
