-- Words read by their places, and an IV in its two words.
-- Assumes nothing.
use Prim.Native.Nat.{ℕ, zero, suc, ◌+◌, ◌/◌, ◌%◌, ◌<◌}
use mathlib.Core.List.{List, [], ◌∷◌, ◌++◌}
use mathlib.Core.Path.{◌≡◌, refl, sym, ◌∙◌}
use native.Mathlib.Numerals.{add-one}
use native.Mathlib.Omega.{arith}
use borrow.Rule.Slice.PartMut.{put_mid}
use lib.ListN.{length, set, take, drop, get_or, take-append-drop, length-drop, drop_of_length-le}
use lib.Seq.{take_all, drop-cons}
use Rattle.octets.specs.Fields.{field, little}
use Rattle.std.specs.Int.{w32, w64, to_le_bytes, from_le_bytes}
use Rattle.octets.proofs.Endian.{little_field}
use Rattle.record.specs.Nonce.{each}
use Rattle.rows.specs.Part.{iv_of}

-- the k words from at, each read by its place
abbrev pub listed : List ℕ → ℕ → ℕ → List ℕ
listed w at k = each (λ i. get_or w i 0) at k

-- the last k are the rest of the list
pub listed_last : (w : List ℕ) (at k : ℕ) → at + k ≡ length w → listed w at k ≡ drop at w
listed_last w at zero h = sym (drop_of_length-le w {i = at} (omega arith))
listed_last w at (suc k) h = rw (listed_last w (at + 1) k (omega arith), add-one, drop-cons w at 0 (omega arith))

-- ---- the words of a row, part by part

module _ (w : List ℕ) (long : length w ≡ 26) (n : ℕ) where
  -- the receiver's are a setting, a count, a key, whether one is held, and the other key
  pub receiver_copied : (s c o : List ℕ) (h : ℕ) → length s ≡ 3 → length c ≡ 7 → length o ≡ 7
      → put_mid 12 7 (set (put_mid 4 7 (set (s ++ drop 3 w) 3 n) c) 11 h) o
      ≡ listed s 0 3 ++ (n ∷ (listed c 0 7 ++ (h ∷ (listed o 0 7 ++ listed w 19 7))))
  receiver_copied s c o h p q r =
      sym (λ i. put_mid 12 7 (set (put_mid 4 7 (set (listed_last s 0 3 (sym p) i ++ drop 3 (listed_last w 0 26 (sym long) i)) 3 n) (listed_last c 0 7 (sym q) i)) 11 h) (listed_last o 0 7 (sym r) i))

  -- the sender's are a setting, a count, a number and an IV
  pub sender_copied : (s v : List ℕ) (m : ℕ) → length s ≡ 3 → length v ≡ 2
      → put_mid 24 2 (set (set (put_mid 19 3 w s) 22 n) 23 m) v ≡ listed w 0 19 ++ (listed s 0 3 ++ (n ∷ m ∷ listed v 0 2))
  sender_copied s v m p q =
      sym (λ i. put_mid 24 2 (set (set (put_mid 19 3 (listed_last w 0 26 (sym long) i) (listed_last s 0 3 (sym p) i)) 22 n) 23 m) (listed_last v 0 2 (sym q) i))

-- ---- an IV in its two words

-- the bytes of a word are those of its number
pub bytes_little : (n : ℕ) → to_le_bytes w64 n ≡ little 8 n
bytes_little n = λ i. n % 256 ∷ a i % 256 ∷ b i % 256 ∷ c i % 256 ∷ d i % 256 ∷ e i % 256 ∷ f i % 256 ∷ g i % 256 ∷ []
  where
    a : n / 256 ≡ n / 256
    a = refl

    b : n / 65536 ≡ n / 256 / 256
    b = omega arith

    c : n / 16777216 ≡ n / 256 / 256 / 256
    c = omega arith

    d : n / 4294967296 ≡ n / 256 / 256 / 256 / 256
    d = omega arith

    e : n / 1099511627776 ≡ n / 256 / 256 / 256 / 256 / 256
    e = omega arith

    f : n / 281474976710656 ≡ n / 256 / 256 / 256 / 256 / 256 / 256
    f = omega arith

    g : n / 72057594037927936 ≡ n / 256 / 256 / 256 / 256 / 256 / 256 / 256
    g = omega arith

-- a word of eight bytes is the number in them
pub word_field : (iv : List ℕ)
    → from_le_bytes w64 (get_or iv 0 0 ∷ get_or iv 1 0 ∷ get_or iv 2 0 ∷ get_or iv 3 0 ∷ get_or iv 4 0 ∷ get_or iv 5 0 ∷ get_or iv 6 0 ∷ get_or iv 7 0 ∷ []) ≡ field iv 0 8
unfolding field
word_field iv = omega arith

pub half_field : (iv : List ℕ) → from_le_bytes w32 (get_or iv 8 0 ∷ get_or iv 9 0 ∷ get_or iv 10 0 ∷ get_or iv 11 0 ∷ []) ≡ field iv 8 4
unfolding field
half_field iv = omega arith

-- twelve bytes are read back from their two words
pub iv_back : (iv : List ℕ) → ((i : ℕ) → get_or iv i 0 < 256) → length iv ≡ 12 → iv_of (field iv 0 8) (field iv 8 4) ≡ iv
unfolding iv_of
iv_back iv b h =
    let head : little 8 (field iv 0 8) ≡ take 8 iv = little_field iv 0 8 b (omega arith) in
    let tail : little 4 (field iv 8 4) ≡ drop 8 iv = little_field iv 8 4 b (omega arith) ∙ take_all 4 (drop 8 iv) (simp length-drop (omega arith)) in
    (λ i. head i ++ tail i) ∙ take-append-drop 8 iv
