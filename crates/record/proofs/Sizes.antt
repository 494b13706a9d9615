-- The sizes of a record, over the lengths of header and MAC.
-- Assumes nothing.
use Prim.Native.Nat.{ℕ, ◌+◌, ◌-◌, ◌≤◌}
use mathlib.Core.Bool.{Bool, true, false, cond}
use mathlib.Core.List.{List, ◌++◌}
use mathlib.Core.Path.{◌≡◌, refl, ap, ◌∙◌}
use native.Mathlib.Nat.{add_assoc}
use native.Mathlib.Omega.{arith}
use lib.ListN.{length, length-append}
use borrow.Author.Tests.{ltb-false, eqb-true, not-false}
use Rattle.answers.specs.Refusal as Refusal
use Rattle.answers.specs.Table.{first}
use Rattle.answers.proofs.Table.{row_passed}
use Rattle.octets.specs.Fields.{little}
use Rattle.octets.proofs.Endian.{little_length}
use Rattle.record.specs.declared.setting.Setting.{Setting}
use Rattle.record.specs.Write.{Formed}
use Rattle.record.specs.Setting.{auth_only}
use Rattle.record.specs.Shape.{head_len, mac_len, inner_len, least, total_of, start_of, text_end, assoc_end, plain_len, data_len}
use Rattle.record.specs.Header.{session_of, length_of, head_of}
use Rattle.record.specs.Read.{record_rows}
use Rattle.record.specs.Write.{body_len, length_for, text_end_for, assoc_end_for, total_for, body_of, front_of, form_of}
use Rattle.record.proofs.Forms.{form_is}
use Rattle.record.proofs.Heads.{head_length}

-- the body is as long as its form says
pub body_length : (s : Setting) (app random : List ℕ) → length (body_of s app random) ≡ body_len s (length app) (length random)
unfolding body_of body_len
body_length s app random = go (auth_only s)
  where
    go : (b : Bool) → length (cond b app (little (inner_len s) (length app) ++ app ++ random))
        ≡ cond b (length app) (inner_len s + length app + length random)
    go true = refl
    go false = simp (length-append, little_length)

-- what is written ends where the text ends
pub front_length : (s : Setting) (number : ℕ) (app random : List ℕ) → length (front_of s number app random) ≡ text_end_for s (length app) (length random)
unfolding front_of
front_length s number app random =
    length-append (head_of s number _) (body_of s app random) ∙ rw (head_length s number (length_for s (length app) (length random)), body_length s app random)

-- a record of the length that its form says: the reader's ends are the writer's
module _ (s : Setting) (p q : ℕ) (r : List ℕ) (h : length r ≡ total_for s p q) where
  pub same_text : text_end s r ≡ text_end_for s p q
  unfolding text_end
  same_text = rw h (omega arith)

  pub same_assoc : assoc_end s r ≡ assoc_end_for s p q
  unfolding assoc_end assoc_end_for start_of
  same_assoc = rw same_text

-- in mode 0 the two ends are equal, in Offer and in Build
pub ends_equal : (s : Setting) (r : List ℕ) → auth_only s ≡ true → assoc_end s r ≡ text_end s r
unfolding assoc_end
ends_equal s r a = rw a

pub ends_equal_for : (s : Setting) (p q : ℕ) → auth_only s ≡ true → assoc_end_for s p q ≡ text_end_for s p q
unfolding assoc_end_for
ends_equal_for s p q a = rw a

-- ---- a record is its header and Length bytes

-- the total that Build answers
pub total_is_length : (s : Setting) (p q : ℕ) → (form_of s p q).answer ≡ 0 → (form_of s p q).total ≡ head_len s + length_for s p q
total_is_length s p q h = ap (λ (f : Formed). f.total) (form_is s p q (form_of s p q) refl h) ∙ add_assoc (head_len s) (body_len s p q) (mac_len s)

-- a record that passes the checks 4 to 7
module _ (s : Setting) (r : List ℕ) (e : first (record_rows s r) ≡ 0) where
  -- it names the session
  pub passed_session : session_of s r ≡ s.session
  unfolding record_rows
  passed_session = eqb-true _ _ (not-false _ (row_passed Refusal.session (record_rows s r) tt e))

  -- it is its header and Length bytes
  pub passed_total : length r ≡ head_len s + length_of s r
  unfolding record_rows total_of
  passed_total = eqb-true _ _ (not-false _ (row_passed Refusal.length (record_rows s r) tt e))

  -- its Length is not too small
  pub passed_least : least s ≤ length_of s r
  unfolding record_rows
  passed_least = ltb-false _ _ (row_passed Refusal.small (record_rows s r) tt e)

  -- in mode 1 the plaintext buffer has what is between header and MAC
  pub passed_plain : auth_only s ≡ false → plain_len s r ≡ length_of s r - mac_len s
  unfolding plain_len text_end start_of
  passed_plain a = rw a (omega (arith, passed_total))

  -- in it there is room for the data length
  pub passed_inner : auth_only s ≡ false → inner_len s ≤ plain_len s r
  unfolding least
  passed_inner a = omega (arith, passed_plain a, rw a at passed_least)

  -- in mode 0 all of that is the data
  pub passed_data : (plain : List ℕ) → auth_only s ≡ true → data_len s r plain ≡ length_of s r - mac_len s
  unfolding data_len text_end start_of
  passed_data plain a = rw a (omega (arith, passed_total))
