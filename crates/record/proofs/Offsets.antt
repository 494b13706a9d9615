-- Where the fields stand in a buffer that starts with the front of a record.
-- Assumes nothing.
use Prim.Native.Nat.{ℕ, ◌+◌, ◌%◌, ◌^◌, ◌≤◌, ◌<◌}
use mathlib.Core.Bool.{true, false}
use mathlib.Core.List.{List, ◌++◌, append_assoc}
use mathlib.Core.Path.{◌≡◌, refl, sym, ap, ◌∙◌}
use native.Mathlib.Omega.{arith}
use lib.ListN.{length, take, drop, length-append}
use lib.Seq.{take_at, drop_at}
use Rattle.octets.specs.Fields.{field, little}
use Rattle.octets.proofs.Endian.{field_at, little_length}
use Rattle.record.specs.declared.setting.Setting.{Setting}
use Rattle.record.specs.Setting.{auth_only, has_partial}
use Rattle.record.specs.Header.{session_of, partial_of, length_at, length_of, head_of}
use Rattle.record.specs.Shape.{head_len, inner_len, most_length}
use Rattle.record.specs.Write.{length_for, body_of, front_of}
use Rattle.record.proofs.Heads.{head_length}
use Rattle.record.proofs.Fronts.{head_session, head_partial, head_total, body_clear, body_sealed, inner_holds}

-- the part of a list behind its first k
behind : (out head part rest : List ℕ) (k : ℕ) → out ≡ head ++ (part ++ rest) → length head ≡ k → take (length part) (drop k out) ≡ part
behind out head part rest k e l = rw (e, drop_at head (part ++ rest) k l) (take_at part rest (length part) refl)

-- ---- a buffer that starts with the front of a record

module _ (s : Setting) (n : ℕ) (app random out tail : List ℕ) (e : out ≡ front_of s n app random ++ tail) where
  abbrev len : ℕ
  len = length_for s (length app) (length random)

  abbrev head : List ℕ
  head = head_of s n len

  abbrev inner : List ℕ
  inner = little (inner_len s) (length app)

  starts : out ≡ head ++ (body_of s app random ++ tail)
  unfolding front_of
  starts = e ∙ append_assoc head (body_of s app random) tail

  -- ---- the header's fields

  -- offset 0, 4 bytes: the Session ID
  pub session_row : s.session < 2 ^ 32 → field out 0 4 ≡ s.session
  unfolding session_of
  session_row h = rw starts (head_session s n len (body_of s app random ++ tail) h)

  -- offset 4, 2 bytes, where the profile has a partial number: the low 16 bits of the number
  pub low_row : has_partial s ≡ true → field out 4 2 ≡ n % 65536
  unfolding partial_of
  low_row p = rw starts (head_partial s n len (body_of s app random ++ tail) p)

  -- behind it, 2 bytes: Length
  pub length_row : len ≤ most_length s → field out (length_at s) 2 ≡ len
  unfolding length_of
  length_row h = rw starts (head_total s n len (body_of s app random ++ tail) h)

  -- ---- mode 0

  -- behind the header the data
  pub data_clear_row : auth_only s ≡ true → take (length app) (drop (head_len s) out) ≡ app
  data_clear_row a =
      behind out head app tail (head_len s) (starts ∙ ap (λ (x : List ℕ). head ++ (x ++ tail)) (body_clear s app random a)) (head_length s n len)

  -- ---- mode 1

  module _ (a : auth_only s ≡ false) where
    sealed_parts : out ≡ head ++ (inner ++ (app ++ (random ++ tail)))
    sealed_parts =
        starts
        ∙ ap (λ (x : List ℕ). head ++ x)
        (ap (λ (x : List ℕ). x ++ tail) (body_sealed s app random a) ∙ append_assoc inner (app ++ random) tail
        ∙ ap (λ (x : List ℕ). inner ++ x) (append_assoc app random tail))

    inner_length : length (head ++ inner) ≡ head_len s + inner_len s
    inner_length = length-append head inner ∙ omega (arith, head_length s n len, little_length (inner_len s) (length app))

    -- behind the header the data's length
    pub inner_row : len ≤ most_length s → field out (head_len s) (inner_len s) ≡ length app
    inner_row h =
        rw (sealed_parts, ← (head_length s n len))
        (field_at head (inner_len s) (length app) (app ++ (random ++ tail)) (inner_holds s (length app) (length random) a h))

    -- behind that the data
    pub data_sealed_row : take (length app) (drop (head_len s + inner_len s) out) ≡ app
    data_sealed_row =
        behind out (head ++ inner) app (random ++ tail) (head_len s + inner_len s)
        (sealed_parts ∙ sym (append_assoc head inner (app ++ (random ++ tail)))) inner_length

    -- and then the random bytes
    pub random_row : take (length random) (drop (head_len s + inner_len s + length app) out) ≡ random
    random_row =
        behind out ((head ++ inner) ++ app) random tail (head_len s + inner_len s + length app)
        (sealed_parts ∙ sym (append_assoc head inner (app ++ (random ++ tail))) ∙ sym (append_assoc (head ++ inner) app (random ++ tail)))
        (length-append (head ++ inner) app ∙ omega (arith, inner_length))
