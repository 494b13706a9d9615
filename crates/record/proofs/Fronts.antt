-- What is built of a record: its header, read again field by field, and the parts of the front, what goes in the clear and what is sealed.
-- Assumes nothing.
use Prim.Native.Nat.{ℕ, ◌+◌, ◌-◌, ◌%◌, ◌^◌, ◌≤◌, ◌<◌}
use mathlib.Core.Bool.{Bool, true, false, cond}
use mathlib.Core.List.{List, [], ◌++◌, append_assoc, append-nil}
use mathlib.Core.Path.{◌≡◌, refl, sym, ap, ◌∙◌}
use native.Mathlib.Omega.{arith}
use lib.ListN.{length, take, drop, length-append}
use lib.Seq.{take_at, drop_at}
use Rattle.numbers.specs.Number.{nearest}
use Rattle.numbers.proofs.Nearest.{near_exactly}
use Rattle.octets.specs.Fields.{field, little}
use Rattle.octets.proofs.Endian.{field_behind, field_little, field_at}
use Rattle.record.specs.declared.setting.Setting.{Setting}
use Rattle.record.specs.Setting.{auth_only, has_partial}
use Rattle.record.specs.Header.{session_of, partial_of, length_at, length_of, partial_for, head_of, number_of, Found}
use Rattle.record.specs.Shape.{head_len, mac_len, inner_len, most_length, plain_len, start_of}
use Rattle.record.specs.Write.{body_len, length_for, text_end_for, assoc_end_for, total_for, body_of, front_of}
use Rattle.record.proofs.Heads.{head_length, before_length, partial_head}
use Rattle.record.proofs.Sizes.{body_length, same_text}

-- ---- the header

module _ (s : Setting) (n len : ℕ) (rest : List ℕ) where
  -- the Session ID that was written is read
  pub head_session : s.session < 2 ^ 32 → session_of s (head_of s n len ++ rest) ≡ s.session
  unfolding session_of head_of
  head_session h =
      ap (λ (x : List ℕ). field x 0 4) (ap (λ (x : List ℕ). x ++ rest) (append_assoc (little 4 s.session) (partial_for s n) (little 2 len)) ∙ append_assoc (little 4 s.session) (partial_for s n ++ little 2 len) rest)
      ∙ field_at [] 4 s.session ((partial_for s n ++ little 2 len) ++ rest) h

  -- of the number its low 16 bits, where they are written
  pub head_partial : has_partial s ≡ true → partial_of s (head_of s n len ++ rest) ≡ n % 65536
  unfolding partial_of
  head_partial p =
      rw (partial_head s n len p)
      (field_behind (little 4 s.session) (little 2 n ++ (little 2 len ++ rest)) 2 ∙ field_little 2 n (little 2 len ++ rest))

  -- and the Length, where its field holds it
  pub head_total : len ≤ most_length s → length_of s (head_of s n len ++ rest) ≡ len
  unfolding length_of head_of most_length
  head_total h =
      let front : List ℕ = little 4 s.session ++ partial_for s n in
      ap (λ (x : List ℕ). field x (length_at s) 2) (append_assoc front (little 2 len) rest)
      ∙ ap (λ (k : ℕ). field (front ++ (little 2 len ++ rest)) k 2) (sym (before_length s n))
      ∙ field_at front 2 len rest (omega arith)

  -- where a record with that number is taken for it, it is found
  pub head_number : (e : ℕ) → Found s e n → number_of s e (head_of s n len ++ rest) ≡ n
  unfolding number_of
  head_number e h = go (has_partial s) refl
    where
      go : (b : Bool) → has_partial s ≡ b → cond b (nearest e (partial_of s (head_of s n len ++ rest))) e ≡ n
      go true p = ap (nearest e) (head_partial p) ∙ (near_exactly e n).1 (h.0 p)
      go false p = h.1 p

-- ---- the body

-- in mode 0 it is the data
pub body_clear : (s : Setting) (app random : List ℕ) → auth_only s ≡ true → body_of s app random ≡ app
unfolding body_of
body_clear s app random a = rw a

-- in mode 1 the data's length, the data and the random bytes
pub body_sealed : (s : Setting) (app random : List ℕ) → auth_only s ≡ false
    → body_of s app random ≡ little (inner_len s) (length app) ++ (app ++ random)
unfolding body_of
body_sealed s app random a = rw a (append_assoc (little (inner_len s) (length app)) app random)

-- where the Length fits its field, the data's length fits its own
pub inner_holds : (s : Setting) (p q : ℕ) → auth_only s ≡ false → length_for s p q ≤ most_length s → p < 256 ^ inner_len s
unfolding body_len inner_len most_length
inner_holds s p q a h = let g : 2 + p + q + mac_len s ≤ 65535 = rw a at h in omega arith

-- ---- the parts of the front

-- the associated data ends no later than the text
pub ends_ordered : (s : Setting) (p q : ℕ) → assoc_end_for s p q ≤ text_end_for s p q
unfolding assoc_end_for
ends_ordered s p q = go (auth_only s)
  where
    go : (b : Bool) → cond b (text_end_for s p q) (head_len s) ≤ text_end_for s p q
    go true = omega arith
    go false = omega arith

-- what goes in the clear behind the header: the data in mode 0
unfoldable pub clear_for : Setting → List ℕ → List ℕ
clear_for s app = cond (auth_only s) app []

-- the text to be sealed: the body in mode 1
unfoldable pub text_for : Setting → List ℕ → List ℕ → List ℕ
text_for s app random = cond (auth_only s) [] (body_of s app random)

-- the associated data: the header, and what goes in the clear
abbrev pub assoc_for : Setting → ℕ → List ℕ → List ℕ → List ℕ
assoc_for s n app random = head_of s n (length_for s (length app) (length random)) ++ clear_for s app

-- in mode 0 there is no text
pub text_clear : (s : Setting) (app random : List ℕ) → auth_only s ≡ true → text_for s app random ≡ []
unfolding text_for
text_clear s app random a = rw a

-- in mode 1 it is the data's length, the data and the random bytes
pub text_sealed : (s : Setting) (app random : List ℕ) → auth_only s ≡ false
    → text_for s app random ≡ little (inner_len s) (length app) ++ (app ++ random)
unfolding text_for
text_sealed s app random a = rw a (body_sealed s app random a)

-- in mode 0 the data goes in the clear
pub clear_all : (s : Setting) (app : List ℕ) → auth_only s ≡ true → clear_for s app ≡ app
unfolding clear_for
clear_all s app a = rw a

module _ (s : Setting) (n : ℕ) (app random : List ℕ) where
  -- they make up the front
  pub front_parts : front_of s n app random ≡ assoc_for s n app random ++ text_for s app random
  unfolding front_of clear_for text_for
  front_parts = go (auth_only s) refl
    where
      h : List ℕ
      h = head_of s n (length_for s (length app) (length random))

      go : (b : Bool) → auth_only s ≡ b → h ++ body_of s app random ≡ (h ++ cond b app []) ++ cond b [] (body_of s app random)
      go true a = ap (λ (x : List ℕ). h ++ x) (body_clear s app random a) ∙ sym (append-nil (h ++ app))
      go false a = ap (λ (x : List ℕ). x ++ body_of s app random) (sym (append-nil h))

  -- the associated data ends where its form says
  pub assoc_length : length (assoc_for s n app random) ≡ assoc_end_for s (length app) (length random)
  unfolding clear_for assoc_end_for body_len
  assoc_length =
      length-append (head_of s n (length_for s (length app) (length random))) (clear_for s app)
      ∙ rw (head_length s n (length_for s (length app) (length random))) (go (auth_only s))
    where
      go : (b : Bool) → head_len s + length (cond b app [])
          ≡ cond b (head_len s + cond b (length app) (inner_len s + length app + length random)) (head_len s)
      go true = refl
      go false = omega arith

  -- and the text
  pub text_length : length (text_for s app random) ≡ text_end_for s (length app) (length random) - assoc_end_for s (length app) (length random)
  unfolding text_for assoc_end_for
  text_length = go (auth_only s)
    where
      go : (b : Bool) → length (cond b [] (body_of s app random))
          ≡ text_end_for s (length app) (length random) - cond b (text_end_for s (length app) (length random)) (head_len s)
      go true = omega arith
      go false = omega (arith, body_length s app random)

  module _ (out tail : List ℕ) (e : out ≡ front_of s n app random ++ tail) where
    parts : out ≡ assoc_for s n app random ++ (text_for s app random ++ tail)
    parts = e ∙ ap (λ (x : List ℕ). x ++ tail) front_parts ∙ append_assoc (assoc_for s n app random) (text_for s app random) tail

    -- a buffer that starts with the front: the associated data stands where its form says
    pub assoc_there : take (assoc_end_for s (length app) (length random)) out ≡ assoc_for s n app random
    assoc_there = rw parts (take_at (assoc_for s n app random) (text_for s app random ++ tail) (assoc_end_for s (length app) (length random)) assoc_length)

    -- and so does the text
    pub text_there : take (text_end_for s (length app) (length random) - assoc_end_for s (length app) (length random))
        (drop (assoc_end_for s (length app) (length random)) out) ≡ text_for s app random
    text_there =
        rw (parts, drop_at (assoc_for s n app random) (text_for s app random ++ tail) (assoc_end_for s (length app) (length random)) assoc_length)
        (take_at (text_for s app random) tail _ text_length)

-- a text of the text's length and a MAC: with what goes in the clear they are as long as the Length says
pub rest_length : (s : Setting) (app random sealed mac : List ℕ)
    → length sealed ≡ text_end_for s (length app) (length random) - assoc_end_for s (length app) (length random) → length mac ≡ mac_len s
    → length (clear_for s app ++ (sealed ++ mac)) ≡ length_for s (length app) (length random)
unfolding clear_for assoc_end_for body_len
rest_length s app random sealed mac = go (auth_only s)
  where
    go : (b : Bool) → length sealed
        ≡ head_len s + cond b (length app) (inner_len s + length app + length random)
        - cond b (head_len s + cond b (length app) (inner_len s + length app + length random)) (head_len s)
        → length mac ≡ mac_len s → length (cond b app [] ++ (sealed ++ mac)) ≡ cond b (length app) (inner_len s + length app + length random) + mac_len s
    go true h m = length-append app (sealed ++ mac) ∙ omega (arith, length-append sealed mac)
    go false h m = length-append sealed mac ∙ omega arith

-- a record of the length that its form says: the plaintext buffer is as long as the text
pub same_plain : (s : Setting) (app random r : List ℕ) → length r ≡ total_for s (length app) (length random)
    → length (text_for s app random) ≡ plain_len s r
unfolding text_for plain_len start_of
same_plain s app random r h =
    rw (same_text s (length app) (length random) r h) (go (auth_only s))
  where
    go : (b : Bool) → length (cond b [] (body_of s app random)) ≡ cond b 0 (text_end_for s (length app) (length random) - head_len s)
    go true = refl
    go false = omega (arith, body_length s app random)
