-- Where the Session IDs of the open rows rise, no two are shared.
-- Assumes nothing.
use Prim.Native.Nat.{ℕ, ◌+◌, ◌≤◌, ◌<◌}
use mathlib.Core.Bool.{Bool, true, false, not, cond, ◌&&◌, ◌||◌}
use mathlib.Core.List.{List, [], ◌∷◌}
use mathlib.Core.Path.{◌≡◌, refl, sym}
use native.Mathlib.Omega.{arith}
use lib.Dec.{ltb}
use borrow.Author.Tests.{ltb-false, ne_eqb}
use Rattle.answers.proofs.Tests.{or_neither, true_not_false}
use Rattle.rows.specs.Ends.{Ends, is_free, is_open, is_split, id_of}
use Rattle.controller.specs.Table.{some, has, clashes, rises}

-- no row has a Session ID below n, and no rows clash
abbrev pub Apart : ℕ → List Ends → Type 0
Apart n t = (clashes t ≡ false) × ((k : ℕ) → k < n → some (has k) t ≡ false)

nothing_apart : {n : ℕ} → Apart n []
unfolding clashes some
nothing_apart = (refl, λ k h. refl)

-- of the first row: f says whether it is free
apart_next : (n : ℕ) (e : Ends) (t : List Ends) (f : Bool) → is_free e ≡ f → is_split e ≡ false → (not f && ltb (id_of e) n) ≡ false
    → Apart (cond f n (id_of e + 1)) t → Apart n (e ∷ t)
unfolding clashes some has
apart_next n e t true free split low rest =
    (rw (split, free, rest.0) refl, λ k h. rw (free, rest.1 k h) refl)
apart_next n e t false free split low rest = (
  rw (split, free, rest.1 (id_of e) (omega arith), rest.0) refl,
  λ k h.
      let above : n ≤ id_of e = ltb-false (id_of e) n low in
      rw (free, ne_eqb (id_of e) k (λ z. absurd (omega (arith, above, z, h))), rest.1 k (omega (arith, above, h))) refl,
)

-- rows that rise are apart
rises_on : (n : ℕ) (e : Ends) (t : List Ends) (b : Bool) → (is_split e || (is_open e && ltb (id_of e) n)) ≡ b
    → cond b false (rises (cond (is_free e) n (id_of e + 1)) t) ≡ true
    → (is_split e ≡ false) × ((is_open e && ltb (id_of e) n) ≡ false) × (rises (cond (is_free e) n (id_of e + 1)) t ≡ true)
rises_on n e t true h r = absurd (true_not_false refl (sym r))
rises_on n e t false h r =
    let both = or_neither (is_split e) (is_open e && ltb (id_of e) n) h in
    (both.0, both.1, r)

pub rises_apart : (n : ℕ) (t : List Ends) → rises n t ≡ true → Apart n t
unfolding rises
rises_apart n [] r = nothing_apart
rises_apart n (e ∷ t) r =
    let on = rises_on n e t (is_split e || (is_open e && ltb (id_of e) n)) refl r in
    apart_next n e t (is_free e) refl on.0 on.1 (rises_apart (cond (is_free e) n (id_of e + 1)) t on.2)
