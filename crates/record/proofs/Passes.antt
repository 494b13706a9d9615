-- What passes the checks of a record: a header with as many bytes behind it as its Length says, and a number that is none of Spent, Old and Repeat.
-- Assumes nothing.
use Prim.Native.Nat.{ℕ, ◌+◌, ◌-◌, ◌^◌, ◌≤◌, ◌<◌}
use mathlib.Core.Bool.{Bool, true, false, cond}
use mathlib.Core.List.{List, [], ◌++◌}
use mathlib.Core.Path.{◌≡◌, refl, sym, ap, ◌∙◌}
use native.Mathlib.Omega.{arith}
use lib.ListN.{length, length-append}
use borrow.Author.Tests.{le-ltb, lt-leb, eq-eqb}
use Rattle.answers.specs.Table.{first}
use Rattle.numbers.specs.Contract.{width_of}
use Rattle.numbers.specs.Number.{number_rows}
use Rattle.octets.specs.Fields.{field, little}
use Rattle.octets.proofs.Endian.{field_at, little_length}
use Rattle.record.specs.declared.setting.Setting.{Setting}
use Rattle.record.specs.Setting.{auth_only, rule_of}
use Rattle.record.specs.Header.{length_of, head_of, number_of}
use Rattle.record.specs.Read.{record_rows, place_rows}
use Rattle.record.specs.Shape.{head_len, mac_len, inner_len, most_length, least, total_of, plain_len, data_len, inner_bad}
use Rattle.record.specs.Write.{body_len, length_for}
use Rattle.record.proofs.Heads.{head_length}
use Rattle.record.proofs.Fronts.{head_session, head_total, inner_holds, text_for, text_sealed}

-- ---- 4 to 7

-- the Length of a record that is built is not too small
pub least_built : (s : Setting) (p q : ℕ) → least s ≤ length_for s p q
unfolding least body_len
least_built s p q = go (auth_only s)
  where
    go : (b : Bool) → cond b (mac_len s) (inner_len s + mac_len s) ≤ cond b p (inner_len s + p + q) + mac_len s
    go true = omega arith
    go false = omega arith

module _ (s : Setting) (n len : ℕ) (rest : List ℕ) (lr : length rest ≡ len) where
  -- a record is its header and what is behind it
  pub record_length : length (head_of s n len ++ rest) ≡ head_len s + len
  record_length = length-append (head_of s n len) rest ∙ rw (lr, head_length s n len)

  -- a header with its session, a Length that fits and is not too small, and as many bytes behind it
  pub record_passes : s.session < 2 ^ 32 → len ≤ most_length s → least s ≤ len → first (record_rows s (head_of s n len ++ rest)) ≡ 0
  unfolding record_rows total_of
  record_passes hs hl hm =
      let r : List ℕ = head_of s n len ++ rest in
      let l : length_of s r ≡ len = head_total s n len rest hl in
      let long : head_len s ≤ length r = omega (arith, record_length) in
      let exact : length r ≡ head_len s + length_of s r = rw l record_length in
      let big : least s ≤ length_of s r = rw l hm in
      rw (le-ltb _ _ long, eq-eqb _ _ (head_session s n len rest hs), eq-eqb _ _ exact, le-ltb _ _ big)

-- ---- 8 to 10

-- a number below the limit, not older than the width, and not marked
pub place_passes : (s : Setting) (e : ℕ) (seen : ℕ → Bool) (r : List ℕ) (n : ℕ) → number_of s e r ≡ n → n < s.limit
    → e - n ≤ width_of (rule_of s) → seen n ≡ false → first (place_rows s e seen r) ≡ 0
unfolding place_rows number_rows
place_passes s e seen r n h l y f = rw (h, lt-leb s.limit n l, le-ltb (width_of (rule_of s)) (e - n) y, f)

-- ---- 14

-- the data's length as it was built is no more than what is there
pub inner_passes : (s : Setting) (app random r : List ℕ) → length_for s (length app) (length random) ≤ most_length s
    → length (text_for s app random) ≡ plain_len s r → inner_bad s r (text_for s app random) ≡ false
unfolding inner_bad data_len
inner_passes s app random r h l = go (auth_only s) refl
  where
    k : ℕ
    k = inner_len s

    go : (b : Bool) → auth_only s ≡ b → inner_bad s r (text_for s app random) ≡ false
    go true a = rw a
    go false a =
        let t = text_sealed s app random a in
        let e : field (text_for s app random) 0 k ≡ length app =
        ap (λ (x : List ℕ). field x 0 k) t ∙ field_at [] k (length app) (app ++ random) (inner_holds s (length app) (length random) a h) in
        let z : plain_len s r ≡ k + (length app + length random) =
        sym l ∙ ap length t ∙ length-append (little k (length app)) (app ++ random) ∙ omega (arith, little_length k (length app), length-append app random) in
        rw (a, e) (le-ltb (plain_len s r - k) (length app) (omega arith))
