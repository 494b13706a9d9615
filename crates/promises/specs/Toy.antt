-- A small cipher with keys of 32 bytes, with which runs can be computed. It is no good cipher; it stands for one.
-- Assumes nothing.
use Rattle.std.specs.Prelude.{ℕ, ◌+◌, ◌-◌, ◌*◌, ◌%◌, ◌^◌, Bool, true, false, ◌&&◌, List, [], ◌∷◌, ◌++◌, map, eqb, take, drop, replicate}
use Rattle.std.specs.Int.Bits.{bit_xor}
use Rattle.octets.specs.Fields.{little}
use Rattle.record.specs.Shape.{assoc_end, text_end}
use Rattle.record.specs.declared.setting.Setting.{Setting}
use Rattle.promises.specs.World.{Sent, Cipher}

-- the key of each key count: 32 bytes
unfoldable pub key_of : ℕ → List ℕ
key_of c = little 4 c ++ replicate 28 7

-- its 16 bytes of authentication: a sum over the key, the number, the associated data and the sealed text
unfoldable pub weigh : ℕ → List ℕ → ℕ
weigh h [] = h
weigh h (b ∷ l) = weigh ((h * 257 + b) % 2 ^ 128) l

unfoldable pub tag : List ℕ → ℕ → List ℕ → List ℕ
tag k n x = little 16 (weigh 1 (k ++ little 8 n ++ x))

-- how a text is sealed, and opened again
unfoldable pub masked : List ℕ → List ℕ
masked = map (λ b. bit_xor b 90)

unfoldable pub eq_list : List ℕ → List ℕ → Bool
eq_list [] [] = true
eq_list [] (b ∷ m) = false
eq_list (a ∷ l) [] = false
eq_list (a ∷ l) (b ∷ m) = eqb a b && eq_list l m

-- yes where the MAC is the record's own
unfoldable pub toy : Setting → Cipher (List ℕ)
toy s = record {
  says = λ k n r. eq_list (drop (text_end s r) r) (tag k n (take (text_end s r) r));
  text = λ k n r. masked (take (text_end s r - assoc_end s r) (drop (assoc_end s r) r));
}

-- what goes over the wire for a record that was built, and the same with a MAC that the cipher did not make
unfoldable pub front : Sent → List ℕ
front b = b.assoc ++ masked b.text

unfoldable pub wire : Sent → List ℕ
wire b = front b ++ tag (key_of b.item.count) b.item.number (front b)

unfoldable pub forged : Sent → List ℕ
forged b = front b ++ replicate 16 1
