-- What the view shows of a record that was built: its data.
-- Assumes nothing.
use Prim.Native.Nat.{ℕ, ◌+◌, ◌-◌, ◌≤◌}
use mathlib.Core.Bool.{Bool, true, false}
use mathlib.Core.List.{List, [], ◌++◌, append_assoc}
use mathlib.Core.Path.{◌≡◌, refl, sym, ap, ◌∙◌}
use native.Mathlib.Omega.{arith}
use lib.Dec.{eqb}
use lib.ListN.{length, take, drop, length-append, take-append-drop}
use lib.Seq.{take_at, drop_at, length-take-le}
use borrow.Author.Tests.{eqb-false, le-leb, eq-eqb}
use Rattle.octets.specs.Fields.{little}
use Rattle.octets.specs.Parts.{part}
use Rattle.octets.proofs.Endian.{field_at, little_length}
use Rattle.record.specs.declared.setting.Setting.{Setting}
use Rattle.record.specs.Setting.{auth_only, bad_setting}
use Rattle.record.specs.Header.{head_of}
use Rattle.record.specs.Shape.{head_len, mac_len, inner_len, most_length, start_of, text_end, assoc_end, data_place, data_len}
use Rattle.record.specs.View.{view_of}
use Rattle.record.specs.Write.{length_for}
use Rattle.record.proofs.Modes.{good_mode}
use Rattle.record.proofs.Heads.{head_length}
use Rattle.record.proofs.Fronts.{inner_holds, text_for, assoc_for, clear_all, text_sealed}

-- the part of a list behind its first h
pub part_behind : (head app rest : List ℕ) (h : ℕ) → length head ≡ h → part (head ++ (app ++ rest)) h (length app) ≡ app
unfolding part
part_behind head app rest h e =
    let l : length (head ++ (app ++ rest)) ≡ h + (length app + length rest) =
    length-append head (app ++ rest) ∙ omega (arith, length-append app rest) in
    let starts : h ≤ length (head ++ (app ++ rest)) = omega arith in
    let fits : length app ≤ length (head ++ (app ++ rest)) - h = omega arith in
    rw (le-leb _ _ starts, le-leb _ _ fits, drop_at head (app ++ rest) h e) (take_at app rest (length app) refl)

-- mode 0: a record whose associated data is a header and the data
pub view_clear : (s : Setting) (r plain head app : List ℕ) → auth_only s ≡ true → length head ≡ head_len s → take (assoc_end s r) r ≡ head ++ app
    → view_of s.mode (data_place s r) (data_len s r plain) r plain ≡ app
unfolding view_of data_place data_len start_of assoc_end text_end auth_only
view_clear s r plain head app a l e =
    let t : ℕ = length r - mac_len s in
    let f : take t r ≡ head ++ app = rw a at e in
    let k : t ≡ head_len s + length app =
    sym (length-take-le t r (omega arith)) ∙ ap length f ∙ length-append head app ∙ rw l in
    let w : r ≡ head ++ (app ++ drop t r) =
    sym (take-append-drop t r) ∙ ap (λ (x : List ℕ). x ++ drop t r) f ∙ append_assoc head app (drop t r) in
    let z : length r - mac_len s - head_len s ≡ length app = omega arith in
    rw (a, z) (ap (λ (x : List ℕ). part x (head_len s) (length app)) w ∙ part_behind head app (drop t r) (head_len s) l)

-- mode 1: a text that is the data's length, the data and random bytes
pub view_sealed : (s : Setting) (r app random : List ℕ) → bad_setting s ≡ false → auth_only s ≡ false
    → length_for s (length app) (length random) ≤ most_length s
    → view_of s.mode (data_place s r) (data_len s r (text_for s app random)) r (text_for s app random) ≡ app
unfolding view_of data_place data_len auth_only
view_sealed s r app random g a h =
    let k : ℕ = inner_len s in
    let m : s.mode ≤ 1 = good_mode s g in
    let z : s.mode ≡ 0 → ⊥ = eqb-false _ _ a in
    let o : eqb s.mode 1 ≡ true = eq-eqb s.mode 1 (omega arith) in
    rw (a, o, text_sealed s app random a, field_at [] k (length app) (app ++ random) (inner_holds s (length app) (length random) a h))
    (part_behind (little k (length app)) app random k (little_length k (length app)))

-- in both modes: a record with the associated data that was built, and the text that was built
pub view_built : (s : Setting) (n : ℕ) (r app random : List ℕ) → bad_setting s ≡ false → length_for s (length app) (length random) ≤ most_length s
    → take (assoc_end s r) r ≡ assoc_for s n app random
    → view_of s.mode (data_place s r) (data_len s r (text_for s app random)) r (text_for s app random) ≡ app
view_built s n r app random g h e = go (auth_only s) refl
  where
    len : ℕ
    len = length_for s (length app) (length random)

    go : (b : Bool) → auth_only s ≡ b → view_of s.mode (data_place s r) (data_len s r (text_for s app random)) r (text_for s app random) ≡ app
    go true a =
        view_clear s r (text_for s app random) (head_of s n len) app a (head_length s n len)
        (e ∙ ap (λ (x : List ℕ). head_of s n len ++ x) (clear_all s app a))
    go false a = view_sealed s r app random g a h
