-- Two views that agree wherever the table looks have one outcome. The Old row stands before the Repeat row: so it does not matter what a
-- view says of numbers past the width_of.
-- Assumes nothing.
use Prim.Native.Nat.{ℕ, ◌+◌, ◌-◌, ◌≤◌}
use mathlib.Core.Path.{◌≡◌, refl, ap, ◌∙◌}
use mathlib.Core.Bool.{Bool, true, false, cond}
use mathlib.Core.List.{List, [], ◌∷◌, ◌++◌}
use native.Mathlib.Omega.{arith}
use lib.Dec.{ltb, eqb}
use borrow.Author.Tests.{ltb-false}
use Rattle.numbers.proofs.Laws.{gaps_agree}
use Rattle.answers.specs.Table.{Check, first}
use Rattle.channel.specs.Call.{Call, offer, settle, gaps, change_key, drop_old, counts}
use Rattle.channel.specs.Rules.{state_rows, slot_rows, place_rows_at, offer_rows, cipher_rows, marking_rows, rows, granted, outcome}
use Rattle.channel.specs.View.{Face, View, no_key}
use Rattle.numbers.specs.Contract.{width_of}
use Rattle.numbers.specs.Number.{number_rows, count}
use Rattle.record.specs.Read.{record_rows, place_rows}
use Rattle.record.specs.Setting.{rule_of}
use Rattle.record.specs.declared.setting.Setting.{Setting}

-- two keys: the same IV and E, and of the numbers within the width_of the same ones are marked
pub record FaceAlike (w : ℕ) (f g : Face) : Type 0 where
  pub ivs : f.iv ≡ g.iv
  pub nexts : f.next ≡ g.next
  pub seens : (n : ℕ) → f.next ≤ n + w → f.seen n ≡ g.seen n

pub record Alike (v u : View) : Type 0 where
  pub settings : v.setting ≡ u.setting
  pub bads : v.bad ≡ u.bad
  pub counted : v.count ≡ u.count
  pub current : FaceAlike (width_of (rule_of v.setting)) v.current u.current
  pub helds : v.held ≡ u.held
  pub old : FaceAlike (width_of (rule_of v.setting)) v.old u.old

-- ---- the number checks, with what stands behind them

pub rows_alike : (w l e : ℕ) (f g : ℕ → Bool) (n : ℕ) (rest : List Check) → (e ≤ n + w → f n ≡ g n)
    → first (number_rows w l e f n ++ rest) ≡ first (number_rows w l e g n ++ rest)
unfolding number_rows
rows_alike w l e f g n rest h = go (ltb w (e - n)) refl
  where
    go : (b : Bool) → ltb w (e - n) ≡ b → first (number_rows w l e f n ++ rest) ≡ first (number_rows w l e g n ++ rest)
    go true p = rw p
    go false p = let q : e - n ≤ w = ltb-false _ _ p in rw (h (omega arith))

-- the same table in front
behind : (xs ys zs : List Check) → first ys ≡ first zs → first (xs ++ ys) ≡ first (xs ++ zs)
behind [] ys zs h = h
behind (x ∷ xs) ys zs h = ap (λ (k : ℕ). cond x.0 x.1 k) (behind xs ys zs h)

-- ---- views that differ only in what they say is marked

module _ (s : Setting) (bad : Bool) (k : ℕ) (iv : List ℕ) (e : ℕ) (f g : ℕ → Bool) (held : Bool) (iv' : List ℕ) (e' : ℕ) (f' g' : ℕ → Bool)
    (hf : (n : ℕ) → e ≤ n + width_of (rule_of s) → f n ≡ g n) (hg : (n : ℕ) → e' ≤ n + width_of (rule_of s) → f' n ≡ g' n) where
  abbrev one : View
  one = record { setting = s; bad = bad; count = k; current = record { iv = iv; next = e; seen = f }; held = held; old = record { iv = iv'; next = e'; seen = f' } }

  abbrev two : View
  two = record { setting = s; bad = bad; count = k; current = record { iv = iv; next = e; seen = g }; held = held; old = record { iv = iv'; next = e'; seen = g' } }

  place_alike : (r : List ℕ) (slot : ℕ) (rest : List Check) → first (place_rows_at one r slot ++ rest) ≡ first (place_rows_at two r slot ++ rest)
  unfolding place_rows number_rows
  place_alike r slot rest = go (eqb slot 0) refl
    where
      go : (b : Bool) → eqb slot 0 ≡ b → first (place_rows_at one r slot ++ rest) ≡ first (place_rows_at two r slot ++ rest)
      go true p = rw p (rows_alike (width_of (rule_of s)) s.limit e f g _ rest (hf _))
      go false p = rw p (rows_alike (width_of (rule_of s)) s.limit e' f' g' _ rest (hg _))

  slots_alike : (slot : ℕ) → slot_rows one slot ≡ slot_rows two slot
  unfolding slot_rows state_rows no_key
  slots_alike slot = refl

  offer_alike : (r : List ℕ) (slot : ℕ) → first (offer_rows one r slot) ≡ first (offer_rows two r slot)
  unfolding offer_rows slot_rows state_rows no_key place_rows number_rows
  offer_alike r slot =
      behind (slot_rows one slot ++ record_rows s r) (place_rows_at one r slot) (place_rows_at two r slot) (place_alike r slot [])

  cipher_alike : (r : List ℕ) (slot count number : ℕ) (passed : Bool) (plain : List ℕ)
      → cipher_rows one r slot count number passed plain ≡ cipher_rows two r slot count number passed plain
  unfolding cipher_rows
  cipher_alike r slot count number passed plain = go (eqb slot 0) refl
    where
      go : (b : Bool) → eqb slot 0 ≡ b → cipher_rows one r slot count number passed plain ≡ cipher_rows two r slot count number passed plain
      go true p = rw p
      go false p = rw p

  settle_alike : (r : List ℕ) (slot count number : ℕ) (passed : Bool) (plain : List ℕ)
      → first (rows one (settle r slot count number passed plain)) ≡ first (rows two (settle r slot count number passed plain))
  unfolding rows offer_rows slot_rows state_rows no_key record_rows marking_rows place_rows number_rows
  settle_alike r slot count number passed plain =
      behind (slot_rows one slot ++ record_rows s r)
      (place_rows_at one r slot ++ (cipher_rows one r slot count number passed plain ++ marking_rows one r plain))
      (place_rows_at two r slot ++ (cipher_rows two r slot count number passed plain ++ marking_rows two r plain))
      (rw (cipher_alike r slot count number passed plain) (place_alike r slot (cipher_rows two r slot count number passed plain ++ marking_rows two r plain)))

  table_alike : (c : Call) → first (rows one c) ≡ first (rows two c)
  unfolding rows state_rows
  table_alike (offer r slot) = offer_alike r slot
  table_alike (settle r slot count number passed plain) = settle_alike r slot count number passed plain
  table_alike (gaps slot) = rw (slots_alike slot)
  table_alike (change_key iv) = refl
  table_alike drop_old = refl

  granted_alike : (c : Call) → granted one c ≡ granted two c
  unfolding granted
  granted_alike (offer r slot) = go (eqb slot 0) refl
    where
      go : (b : Bool) → eqb slot 0 ≡ b → granted one (offer r slot) ≡ granted two (offer r slot)
      go true p = rw p
      go false p = rw p
  granted_alike (settle r slot count number passed plain) = refl
  granted_alike (gaps slot) = go (eqb slot 0) refl
    where
      go : (b : Bool) → eqb slot 0 ≡ b → granted one (gaps slot) ≡ granted two (gaps slot)
      go true p = rw p (ap counts (gaps_agree (width_of (rule_of s)) e f g hf))
      go false p = rw p (ap counts (gaps_agree (width_of (rule_of s)) e' f' g' hg))
  granted_alike (change_key iv) = refl
  granted_alike drop_old = refl

  outcome_same : (c : Call) → outcome one c ≡ outcome two c
  unfolding outcome
  outcome_same c = rw (table_alike c, granted_alike c)

-- ---- views that agree

pub outcome_alike : (v u : View) → Alike v u → (c : Call) → outcome v c ≡ outcome u c
outcome_alike v u A c =
    outcome_same v.setting v.bad v.count v.current.iv v.current.next v.current.seen u.current.seen
    v.held v.old.iv v.old.next v.old.seen u.old.seen A.current.seens A.old.seens c
    ∙ ap (λ (x : View). outcome x c) (λ i. record {
      setting = A.settings i;
      bad = A.bads i;
      count = A.counted i;
      current = record { iv = A.current.ivs i; next = A.current.nexts i; seen = u.current.seen };
      held = A.helds i;
      old = record { iv = A.old.ivs i; next = A.old.nexts i; seen = u.old.seen };
    })
