-- The nearer of the two candidates is page 01's number, and no number with the same low 16 bits is nearer.
-- Assumes nothing.
use Prim.Native.Nat.{ℕ, ◌+◌, ◌-◌, ◌%◌, ◌≤◌, ◌<◌}
use mathlib.Core.Path.{◌≡◌, refl, sym, ◌∙◌}
use mathlib.Core.Logic.{◌⊎◌, inl, inr}
use native.Mathlib.Omega.{arith}
use native.Mathlib.Decide.{dec_le}
use borrow.Author.Tests.{le-leb, lt-leb}
use Rattle.numbers.specs.Number.{nearest}
use Rattle.numbers.specs.Step.{up, down, nearer, distance}
use Rattle.numbers.proofs.Nearest.{near_is, raised_is, nearest_cut}

module _ (e low : ℕ) where
  -- a number with these low bits and from e - 32768 to e + 32767 is page 01's
  near : (n : ℕ) → e ≤ n + 32768 → n ≤ e + 32767 → n % 65536 ≡ low % 65536 → n ≡ nearest e low
  near n p q r = near_is e (low % 65536) n (omega arith) p q r ∙ sym (nearest_cut e low)

  -- the candidate below, where it is as near as the other and not negative
  pub below_is : down e low ≤ up e low → down e low ≤ e → e - down e low ≡ nearest e low
  unfolding up down
  below_is h k = near (e - down e low) (omega arith) (omega arith) (omega arith)

  -- the candidate above, where it is nearer
  nearer_above : up e low < down e low → e + up e low ≡ nearest e low
  unfolding up down
  nearer_above h = near (e + up e low) (omega arith) (omega arith) (omega arith)

  -- the candidate above, where the other is negative
  raised_above : e < down e low → e + up e low ≡ nearest e low
  unfolding up down
  raised_above h = go (dec_le (e + 32768) (low % 65536))
    where
      go : Dec (e + 32768 ≤ low % 65536) → e + up e low ≡ nearest e low
      go (yes p) = omega (arith, raised_is e (low % 65536) (omega arith) p, nearest_cut e low)
      go (no p) = near (e + up e low) (omega arith) (omega arith) (omega arith)

  -- the candidate above, where it is nearer or the other is negative
  pub above_is : (up e low < down e low) ⊎ (e < down e low) → e + up e low ≡ nearest e low
  above_is (inl h) = nearer_above h
  above_is (inr h) = raised_above h

-- which candidate is meant, and why
data Side (e low : ℕ) : Type 0 where
  lower_near : down e low ≤ up e low → down e low ≤ e → Side e low
  lower_negative : down e low ≤ up e low → e < down e low → Side e low
  upper_near : up e low < down e low → Side e low

side : (e low : ℕ) → Side e low
side e low = go (dec_le (down e low) (up e low)) (dec_le (down e low) e)
  where
    go : Dec (down e low ≤ up e low) → Dec (down e low ≤ e) → Side e low
    go (yes p) (yes q) = lower_near p q
    go (yes p) (no q) = lower_negative p (omega arith)
    go (no p) d = upper_near (omega arith)

-- for every e and low the step gives page 01's number
pub nearer_is : (e low : ℕ) → nearer e low ≡ nearest e low
unfolding nearer
nearer_is e low = go (side e low)
  where
    go : Side e low → nearer e low ≡ nearest e low
    go (lower_near p q) = simp (le-leb _ _ p, le-leb _ _ q, below_is e low p q)
    go (lower_negative p q) = simp (le-leb _ _ p, lt-leb _ _ q, raised_above e low q)
    go (upper_near p) = simp (lt-leb _ _ p, nearer_above e low p)

-- where nothing is marked the candidate below 32768 is negative
pub edge_negative : nearer 0 32768 ≡ 32768
unfolding nearer up down
edge_negative = refl

-- at a distance of 32768 both ways the lower is meant
pub edge_tie : nearer 65536 32768 ≡ 32768
unfolding nearer up down
edge_tie = refl

-- the candidate above may be past the last number of 64 bits
pub edge_past : nearer 18446744073709551615 0 ≡ 18446744073709551616
unfolding nearer up down
edge_past = refl

-- ---- it is the nearest of all numbers with these low bits

apart_below : (a b : ℕ) → b ≤ a → distance a b ≡ a - b
unfolding distance
apart_below a b h = omega arith

apart_above : (a b : ℕ) → a ≤ b → distance a b ≡ b - a
unfolding distance
apart_above a b h = omega arith

module _ (e low m : ℕ) (h : m % 65536 ≡ low % 65536) where
  -- no number with these low bits lies between the candidates
  outside : (m + down e low ≤ e) ⊎ (e + up e low ≤ m)
  unfolding up down
  outside = go (dec_le e m)
    where
      go : Dec (e ≤ m) → (m + down e low ≤ e) ⊎ (e + up e low ≤ m)
      go (yes p) = inr (omega arith)
      go (no p) = inl (omega arith)

  abbrev Before : Type 0
  Before = (distance e (nearest e low) ≤ distance e m) × (distance e m ≡ distance e (nearest e low) → nearest e low ≤ m)

  before : Before
  before = go (side e low) outside
    where
      go : Side e low → (m + down e low ≤ e) ⊎ (e + up e low ≤ m) → Before
      go (lower_near p q) (inl o) =
          let n = below_is e low p q in
          let a = apart_below e (nearest e low) (omega arith) in
          let b = apart_below e m (omega arith) in
          (omega arith, λ t. omega arith)
      go (lower_near p q) (inr o) =
          let n = below_is e low p q in
          let a = apart_below e (nearest e low) (omega arith) in
          let b = apart_above e m (omega arith) in
          (omega arith, λ t. omega arith)
      go (lower_negative p q) (inl o) = absurd (omega arith)
      go (lower_negative p q) (inr o) =
          let n = raised_above e low q in
          let a = apart_above e (nearest e low) (omega arith) in
          let b = apart_above e m (omega arith) in
          (omega arith, λ t. omega arith)
      go (upper_near p) (inl o) =
          let n = nearer_above e low p in
          let a = apart_above e (nearest e low) (omega arith) in
          let b = apart_below e m (omega arith) in
          (omega arith, λ t. omega arith)
      go (upper_near p) (inr o) =
          let n = nearer_above e low p in
          let a = apart_above e (nearest e low) (omega arith) in
          let b = apart_above e m (omega arith) in
          (omega arith, λ t. omega arith)

  -- no number with these low bits is nearer to e
  pub nearest_least : distance e (nearest e low) ≤ distance e m
  nearest_least = before.0

  -- of two that are as near it is the lower
  pub nearest_lower : distance e m ≡ distance e (nearest e low) → nearest e low ≤ m
  nearest_lower = before.1
