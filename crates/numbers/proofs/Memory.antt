-- The window shows what a plain memory holds: the empty one, and after each number that is marked. So the two refuse alike and count the
-- same gaps. At any width.
-- Assumes nothing.
use Prim.Native.Nat.{ℕ, zero, suc, ◌+◌, ◌-◌, ◌≤◌, ◌<◌, min, max}
use mathlib.Core.Path.{◌≡◌, refl, sym, ap, ap₂, ◌∙◌, subst}
use mathlib.Core.Bool.{Bool, true, false, cond, ◌&&◌, ◌||◌, false≢true}
use mathlib.Core.List.{List, [], ◌∷◌}
use mathlib.Core.Logic.{◌⊎◌, inl, inr}
use native.Mathlib.Nat.{eq-zero-or-pos, le_antisymm}
use native.Mathlib.Omega.{arith}
use native.Mathlib.Decide.{dec_le, dec_lt}
use lib.Dec.{eqb, leb}
use lib.Pow.{pow_pos}
use borrow.Author.Tests.{le-leb, lt-leb, eq-eqb, ne_eqb, eqb-true}
use Rattle.answers.specs.Table.{first}
use Rattle.answers.proofs.Tests.{by_cases}
use Rattle.numbers.specs.Number.{number_rows, gap_count}
use Rattle.numbers.specs.Word.{bit}
use Rattle.numbers.specs.Window.{marked, sound, verdict, mark_next, mark_word, gaps}
use Rattle.numbers.specs.Memory.{member, next_of, plain_verdict, plain_gaps, Shows, Below}
use Rattle.numbers.proofs.Bits.{word_ext}
use Rattle.numbers.proofs.Gaps.{gaps_agree}
use Rattle.numbers.proofs.Cases.{first_agree, mark_old, next_is}
use Rattle.numbers.proofs.Marking.{marked_at, marked_past, mark_law, word_fits_width, word_kept, Sound, sound_parts, sound_whole, or_true}

-- the empty window shows the empty list
pub shows_empty : (w : ℕ) → Shows w 0 0 []
unfolding next_of member
shows_empty w = record { top = refl; word = pow_pos (min w 0); agree = λ k h. marked_past 0 0 k (omega arith) }

-- a number that is marked joins the list
pub shows_mark : (w l e m n : ℕ) (xs : List ℕ) → 0 < w → n < l → Shows w e m xs → Shows w (mark_next l e n) (mark_word w l e m n) (n ∷ xs)
unfolding next_of member
shows_mark w l e m n xs hw hl s = record {
  top = next_is w l e m n hl ∙ ap (λ (x : ℕ). max x (n + 1)) s.top;
  word = word_kept w l e m n hw s.word;
  agree = λ k h. go k h (dec_le e (n + w));
}
  where
    go : (k : ℕ) → mark_next l e n ≤ k + w → Dec (e ≤ n + w) → marked (mark_next l e n) (mark_word w l e m n) k ≡ (eqb k n || member k xs)
    go k h (yes p) =
        let b : e ≤ k + w = omega (arith, next_is w l e m n hl) in
        mark_law w l e m n k hw (word_fits_width w e m s.word) hl p ∙ simp (le-leb _ _ h, s.agree k b)
    go k h (no p) =
        let c = mark_old w l e m n hl (omega arith) (omega arith) in
        let b : e ≤ k + w = omega (arith, next_is w l e m n hl) in
        rw (c.0, c.1) (s.agree k b ∙ sym (simp (ne_eqb k n (omega arith))))

-- the two refuse alike
pub shows_verdict : (w l e m n : ℕ) (xs : List ℕ) → Shows w e m xs → verdict w l e m n ≡ plain_verdict w l xs n
unfolding verdict plain_verdict
shows_verdict w l e m n xs s =
    first_agree w l e (marked e m) (λ k. member k xs) n (s.agree n)
    ∙ ap (λ (x : ℕ). first (number_rows w l x (λ k. member k xs) n)) s.top

-- the two have the same gaps
pub shows_gaps : (w e m : ℕ) (xs : List ℕ) → Shows w e m xs → gaps w e m ≡ plain_gaps w xs
unfolding gaps plain_gaps
shows_gaps w e m xs s =
    gaps_agree w e (marked e m) (λ k. member k xs) s.agree ∙ ap (λ (x : ℕ). gap_count w x (λ k. member k xs)) s.top

-- ---- which numbers are held decides the window: their order, and what was marked twice, leaves no trace

-- what is held is below the next number
pub member_below : (k : ℕ) (xs : List ℕ) → member k xs ≡ true → k < next_of xs
unfolding member next_of
member_below k [] h = absurd (false≢true h)
member_below k (x ∷ xs) h = go (member_below k xs) (eqb k x) refl
  where
    go : (member k xs ≡ true → k < next_of xs) → (b : Bool) → eqb k x ≡ b → k < max (next_of xs) (x + 1)
    go ih true e = omega (arith, eqb-true k x e)
    go ih false e = let q = ih (simp e at h) in omega arith

top_member : (xs : List ℕ) → 0 < next_of xs → member (next_of xs - 1) xs ≡ true
unfolding member next_of
top_member [] h = absurd (omega arith)
top_member (x ∷ xs) h = go (top_member xs) (dec_le (next_of xs) x)
  where
    go : (0 < next_of xs → member (next_of xs - 1) xs ≡ true) → Dec (next_of xs ≤ x)
        → (eqb (max (next_of xs) (x + 1) - 1) x || member (max (next_of xs) (x + 1) - 1) xs) ≡ true
    go ih (yes p) = simp (eq-eqb (max (next_of xs) (x + 1) - 1) x (omega arith))
    go ih (no p) =
        let q : max (next_of xs) (x + 1) ≡ next_of xs = omega arith in
        simp (q, ih (omega arith)) (or_true (eqb (next_of xs - 1) x))

next_mono : (xs ys : List ℕ) → ((k : ℕ) → member k xs ≡ member k ys) → next_of xs ≤ next_of ys
next_mono xs ys h = go (eq-zero-or-pos (next_of xs))
  where
    go : (next_of xs ≡ 0) ⊎ (0 < next_of xs) → next_of xs ≤ next_of ys
    go (inl z) = omega arith
    go (inr p) = let q = member_below (next_of xs - 1) ys (sym (h (next_of xs - 1)) ∙ top_member xs p) in omega arith

word_same : (w e m v : ℕ) (xs ys : List ℕ) → ((k : ℕ) → member k xs ≡ member k ys) → Shows w e m xs → Shows w e v ys → m ≡ v
word_same w e m v xs ys h s t = word_ext (min w e) m v s.word t.word (λ i p.
    let k = e - 1 - i in
    let j : i ≡ e - 1 - (e - 1 - i) = omega arith in
    ap (bit m) j ∙ sym (marked_at e m (e - 1 - i) (omega arith)) ∙ s.agree (e - 1 - i) (omega arith) ∙ h (e - 1 - i)
    ∙ sym (t.agree (e - 1 - i) (omega arith)) ∙ marked_at e v (e - 1 - i) (omega arith) ∙ ap (bit v) (sym j))

-- a list determines the window
pub shows_one : (w e m f v : ℕ) (xs ys : List ℕ) → ((k : ℕ) → member k xs ≡ member k ys) → Shows w e m xs → Shows w f v ys → (e ≡ f) × (m ≡ v)
shows_one w e m f v xs ys h s t =
    let q : e ≡ f = s.top ∙ le_antisymm (next_mono xs ys h) (next_mono ys xs (λ k. sym (h k))) ∙ sym t.top in
    (q, word_same w e m v xs ys h s (subst (λ (x : ℕ). Shows w x v ys) (sym q) t))

-- a window that shows a list of usable numbers keeps the rule for one key
pub shows_sound : (w l e m : ℕ) (xs : List ℕ) → e ≤ l → 0 < w → Shows w e m xs → sound w l e m ≡ true
shows_sound w l e m xs h hw s = sound_whole w l e m (record { limit = h; word = s.word; top = go (eq-zero-or-pos e) })
  where
    go : (e ≡ 0) ⊎ (0 < e) → (eqb e 0 || bit m 0) ≡ true
    go (inl z) = simp (eq-eqb e 0 z)
    go (inr p) =
        let j : 0 ≡ e - 1 - (e - 1) = omega arith in
        let q : 0 < next_of xs = omega (arith, s.top) in
        let b : bit m 0 ≡ true =
        ap (bit m) j ∙ sym (marked_at e m (e - 1) (omega arith)) ∙ s.agree (e - 1) (omega arith)
        ∙ ap (λ (x : ℕ). member (x - 1) xs) s.top ∙ top_member xs q in
        simp b (or_true (eqb e 0))

-- ---- every window that keeps the rule shows some list: the numbers of its bits

-- the numbers e - 1 - i, for i below k, whose bit is set
unfoldable collected : ℕ → ℕ → ℕ → List ℕ
collected e m zero = []
collected e m (suc k) = cond (bit m k) ((e - 1 - k) ∷ collected e m k) (collected e m k)

collected_next : (e m k : ℕ) → k ≤ e → next_of (collected e m k) ≤ e
unfolding collected next_of
collected_next e m zero h = omega arith
collected_next e m (suc k) h =
    let ih = collected_next e m k (omega arith) in
    by_cases (λ (xs : List ℕ). next_of xs ≤ e) (bit m k) _ _ (λ q. omega arith) (λ q. ih)

collected_below : (l e m k : ℕ) → k ≤ e → e ≤ l → Below l (collected e m k)
unfolding collected
collected_below l e m zero h p = tt
collected_below l e m (suc k) h p =
    let ih = collected_below l e m k (omega arith) p in
    by_cases (Below l) (bit m k) _ _ (λ q. (omega arith, ih)) (λ q. ih)

and_same : (a : Bool) {b : Bool} → b ≡ true → (a && b) ≡ a
and_same true e = e
and_same false e = refl

and_none : (a : Bool) {b : Bool} → b ≡ false → (a && b) ≡ false
and_none true e = e
and_none false e = refl

or_none : (b : Bool) → (b || false) ≡ b
or_none true = refl
or_none false = refl

-- one more bit
wider : (e m k x : ℕ) → k < e → (eqb x (e - 1 - k) && bit m k || leb e (x + k) && marked e m x) ≡ (leb e (x + suc k) && marked e m x)
wider e m k x h = go (dec_lt x (e - 1 - k)) (dec_lt (e - 1 - k) x)
  where
    go : Dec (x < e - 1 - k) → Dec (e - 1 - k < x) → (eqb x (e - 1 - k) && bit m k || leb e (x + k) && marked e m x) ≡ (leb e (x + suc k) && marked e m x)
    go (yes p) d = simp (ne_eqb x (e - 1 - k) (omega arith), lt-leb e (x + k) (omega arith), lt-leb e (x + suc k) (omega arith))
    go (no p) (yes q) = simp (ne_eqb x (e - 1 - k) (omega arith), le-leb e (x + k) (omega arith), le-leb e (x + suc k) (omega arith))
    go (no p) (no q) =
        let s : x ≡ e - 1 - k = omega arith in
        let t : marked e m x ≡ bit m k = marked_at e m x (omega arith) ∙ ap (bit m) (omega arith) in
        simp (eq-eqb x (e - 1 - k) s, lt-leb e (x + k) (omega arith), le-leb e (x + suc k) (omega arith), t) (or_none (bit m k))

collected_holds : (e m k x : ℕ) → k ≤ e → member x (collected e m k) ≡ (leb e (x + k) && marked e m x)
unfolding collected member
collected_holds e m zero x h = go (dec_le e x)
  where
    go : Dec (e ≤ x) → false ≡ (leb e (x + 0) && marked e m x)
    go (yes p) = sym (simp (le-leb e (x + 0) (omega arith), marked_past e m x p))
    go (no p) = sym (simp (lt-leb e (x + 0) (omega arith)))
collected_holds e m (suc k) x h = go (collected_holds e m k x (omega arith)) (bit m k) refl
  where
    go : member x (collected e m k) ≡ (leb e (x + k) && marked e m x) → (b : Bool) → bit m k ≡ b
        → member x (cond b ((e - 1 - k) ∷ collected e m k) (collected e m k)) ≡ (leb e (x + suc k) && marked e m x)
    go ih true q =
        ap₂ ◌||◌ (sym (and_same (eqb x (e - 1 - k)) q)) ih ∙ wider e m k x (omega arith)
    go ih false q =
        ih ∙ ap (λ (b : Bool). b || leb e (x + k) && marked e m x) (sym (and_none (eqb x (e - 1 - k)) q)) ∙ wider e m k x (omega arith)

-- every window that keeps the rule shows some list of usable numbers
pub sound_shows : (w l e m : ℕ) → 0 < w → sound w l e m ≡ true → (xs : List ℕ) × Below l xs × Shows w e m xs
sound_shows w l e m hw h = (
  xs,
  collected_below l e m (min w e) (omega arith) s.limit,
  record {
    top = le_antisymm (go (eq-zero-or-pos e)) (collected_next e m (min w e) (omega arith));
    word = s.word;
    agree = agree;
  },
)
  where
    s : Sound w l e m
    s = sound_parts w l e m h

    xs : List ℕ
    xs = collected e m (min w e)

    agree : (k : ℕ) → e ≤ k + w → marked e m k ≡ member k xs
    agree k p = sym (collected_holds e m (min w e) k (omega arith) ∙ simp (le-leb e (k + min w e) (omega arith)))

    go : (e ≡ 0) ⊎ (0 < e) → e ≤ next_of xs
    go (inl z) = omega arith
    go (inr p) =
        let b : bit m 0 ≡ true = simp (ne_eqb e 0 (omega arith)) at s.top in
        let t : marked e m (e - 1) ≡ true = marked_at e m (e - 1) (omega arith) ∙ ap (bit m) (omega arith) ∙ b in
        let q = member_below (e - 1) xs (sym (agree (e - 1) (omega arith)) ∙ t) in
        omega arith
