-- Fields from a place on, bytes that fit or do not, and one part put behind another.
-- Assumes nothing.
use Prim.Native.Nat.{ℕ, zero, suc, ◌+◌, ◌*◌, ◌≤◌, ◌<◌}
use mathlib.Core.List.{List, ◌++◌, append_assoc}
use mathlib.Core.Path.{◌≡◌, refl, sym, ap, ◌∙◌}
use native.Mathlib.Nat.{add-zero, add_assoc}
use native.Mathlib.Omega.{arith}
use lib.ListN.{length, take, drop, length-append}
use lib.Seq.{length-take-le, take_at, drop_at, drop-drop}
use Rattle.std.proofs.lemmas.List.{get_or-drop}
use borrow.Author.Tests.{le-leb, lt-leb}
use borrow.Rule.Slice.PartMut.{put_mid}
use Rattle.octets.specs.Fields.{field}
use Rattle.octets.specs.Parts.{over, put}

field_drop : (s : List ℕ) (at i k : ℕ) → field s (at + i) k ≡ field (drop at s) i k
unfolding field
field_drop s at i zero = refl
field_drop s at i (suc k) = rw (get_or-drop at s i 0, ← field_drop s at (i + 1) k, add_assoc at i 1) refl

-- what stands before a field does not count
pub field_from : (s : List ℕ) (at k : ℕ) → field s at k ≡ field (drop at s) 0 k
field_from s at k = rw add-zero at (field_drop s at 0 k)

pub field_eight : (s : List ℕ) (at : ℕ) → field s at 8 ≡ field s at 4 + 4294967296 * field s (at + 1 + 1 + 1 + 1) 4
unfolding field
field_eight s at = omega arith

pub put_fits : (d : List ℕ) (at : ℕ) (src : List ℕ) → at + length src ≤ length d → over d at src ≡ put d at src
unfolding put
put_fits d at src h = rw (le-leb _ _ h)

-- what was put where there is room
pub putting : (d e : List ℕ) (at : ℕ) (src : List ℕ) → e ≡ put d at src → at + length src ≤ length d → e ≡ over d at src
putting d e at src p h = p ∙ sym (put_fits d at src h)

pub put_not : (d : List ℕ) (at : ℕ) (src : List ℕ) → length d < at + length src → d ≡ put d at src
unfolding put
put_not d at src h = rw (lt-leb _ _ h)

-- a part right behind another is the two in one
pub over_over : (d : List ℕ) (at : ℕ) (a b : List ℕ) (n : ℕ) → at ≤ length d → at + length a ≡ n
    → over (over d at a) n b ≡ over d at (a ++ b)
over_over d at a b n h e =
    let p : List ℕ = take at d ++ a in
    let q : List ℕ = drop (at + length a) d in
    let lp : length p ≡ n = length-append (take at d) a ∙ rw (length-take-le at d h) e in
    let t : take n (p ++ q) ≡ p = take_at p q n lp in
    let u : drop (n + length b) (p ++ q) ≡ drop (at + length (a ++ b)) d =
    sym (drop-drop (length b) n (p ++ q))
    ∙ ap (λ (l : List ℕ). drop (length b) l) (drop_at p q n lp)
    ∙ drop-drop (length b) (at + length a) d
    ∙ ap (λ (k : ℕ). drop k d) (add_assoc at (length a) (length b) ∙ ap (λ (k : ℕ). at + k) (sym (length-append a b))) in
    ap (λ (l : List ℕ). l ++ b ++ drop (n + length b) (p ++ q)) t
    ∙ ap (λ (l : List ℕ). p ++ b ++ l) u
    ∙ ap (λ (l : List ℕ). l ++ drop (at + length (a ++ b)) d) (append_assoc (take at d) a b)

-- bytes that were lent from at, and then hold src, are src put there
pub put_lent : (d : List ℕ) (at k : ℕ) (lent src : List ℕ) → lent ≡ src → k ≡ length src → at + length src ≤ length d
    → put_mid at k d lent ≡ put d at src
put_lent d at k lent src p e h = rw (p, e, drop-drop (length src) at d, ← append_assoc) (put_fits d at src h)
