-- The small cipher: its keys have 32 bytes and differ, and whether a run with it is as T4 assumes can be computed.
-- Assumes nothing.
use Prim.Native.Nat.{ℕ, zero, suc, ◌/◌, ◌^◌, ◌<◌}
use mathlib.Core.Path.{◌≡◌, refl, ap, sym, ◌∙◌, subst}
use mathlib.Core.Logic.{◌⊎◌, inl, inr}
use mathlib.Core.Bool.{Bool, true, false, not, cond, ◌&&◌, ◌||◌}
use mathlib.Core.List.{List, [], ◌∷◌, ◌++◌, Memᴰ}
use native.Mathlib.Omega.{arith}
use lib.Dec.{T, leb, eqb, leb→le, eqb→eq}
use lib.ListN.{length, replicate}
use Rattle.answers.proofs.Tests.{true_not_false, both_true}
use Rattle.channel.specs.Call.{Call, offer, settle, gaps, change_key, drop_old}
use Rattle.numbers.specs.Memory.{Below}
use Rattle.octets.proofs.Endian.{field_at}
use Rattle.octets.specs.Fields.{field, little}
use Rattle.record.specs.declared.setting.Setting.{Setting}
use Rattle.record.specs.Setting.{same_setting}
use Rattle.record.proofs.Zeros.{same_setting_lem}
use Rattle.promises.specs.World.{Step, build, turn, seal, receive, Sent, World, next, Each, assoc_of, counts_of, SealedBefore, Honest, HonestCall}
use Rattle.promises.specs.Toy.{key_of, eq_list, toy}

-- ---- the keys

-- a key has 32 bytes
pub key_length : (c : ℕ) → length (key_of c) ≡ 32
unfolding key_of
key_length c = refl

little_bytes : (k n : ℕ) (l : List ℕ) → Below 256 l → Below 256 (little k n ++ l)
little_bytes zero n l h = h
little_bytes (suc k) n l h = (omega arith, little_bytes k (n / 256) l h)

same_bytes : (k b : ℕ) → b < 256 → Below 256 (replicate k b)
same_bytes zero b h = tt
same_bytes (suc k) b h = (h, same_bytes k b h)

pub key_bytes : (c : ℕ) → Below 256 (key_of c)
unfolding key_of
key_bytes c = little_bytes 4 c (replicate 28 7) (same_bytes 28 7 (omega arith))

key_field : (c : ℕ) → c < 2 ^ 32 → field (key_of c) 0 4 ≡ c
unfolding key_of
key_field c h = field_at [] 4 c (replicate 28 7) h

-- no key is used again, among all key counts that there are
pub keys_differ : (a b : ℕ) → a < 2 ^ 32 → b < 2 ^ 32 → key_of a ≡ key_of b → a ≡ b
keys_differ a b p q e = sym (key_field a p) ∙ ap (λ (k : List ℕ). field k 0 4) e ∙ key_field b q

-- ---- what T4 assumes of a run with this cipher, as a test

unfoldable pub same_bool : Bool → Bool → Bool
same_bool a b = cond a b (not b)

-- a record was built under this count and number, with these associated bytes and this text
unfoldable pub is_sent : ℕ → ℕ → List ℕ → List ℕ → Sent → Bool
is_sent c n assoc text b = eqb b.item.count c && (eqb b.item.number n && (eq_list b.assoc assoc && eq_list b.text text))

unfoldable pub is_in : ℕ → ℕ → List ℕ → List ℕ → List Sent → Bool
is_in c n assoc text [] = false
is_in c n assoc text (b ∷ l) = is_sent c n assoc text b || is_in c n assoc text l

-- both ends are set as the cipher is, and no key is used again
unfoldable pub ready_test : Setting → World → Bool
ready_test s w = same_setting w.sender.setting s && (same_setting w.receiver.setting s && leb (counts_of w) 4294967295)

-- on yes: Settle was given the cipher's text, and a record with that text was sealed
unfoldable pub seal_test : Setting → World → List ℕ → ℕ → ℕ → List ℕ → Bool
seal_test s w r count number plain =
    let text = (toy s).text (key_of count) number r in
    eq_list plain text && is_in count number (assoc_of s r) text w.sealed

unfoldable pub call_test : Setting → World → Call → Bool
call_test s w (offer r slot) = true
call_test s w (settle r slot count number passed plain) =
    let yes' = (toy s).says (key_of count) number r in
    ready_test s w && (same_bool passed yes' && (not yes' || seal_test s w r count number plain))
call_test s w (gaps slot) = true
call_test s w (change_key iv) = true
call_test s w drop_old = true

unfoldable pub run_test : Setting → World → List Step → Bool
run_test s w [] = true
run_test s w (build app random out ∷ rest) = run_test s (next w (build app random out)) rest
run_test s w (turn iv ∷ rest) = run_test s (next w (turn iv)) rest
run_test s w (seal i ∷ rest) = run_test s (next w (seal i)) rest
run_test s w (receive c ∷ rest) = call_test s w c && run_test s (next w (receive c)) rest

-- ---- a run that passes the test meets the assumptions

T-is : (b : Bool) → T b → b ≡ true
T-is true h = refl
T-is false h = absurd h

same_answer : (a b : Bool) → T (same_bool a b) → a ≡ b
unfolding same_bool
same_answer true true h = refl
same_answer true false h = absurd h
same_answer false true h = absurd h
same_answer false false h = refl

same_list : (l m : List ℕ) → T (eq_list l m) → l ≡ m
unfolding eq_list
same_list [] [] h = refl
same_list [] (b ∷ m) h = absurd h
same_list (a ∷ l) [] h = absurd h
same_list (a ∷ l) (b ∷ m) h =
    let p = both_true (eqb a b) (eq_list l m) h in
    let x = eqb→eq a b p.0 in
    let y = same_list l m p.1 in
    λ i. x i ∷ y i

on_yes : (b c : Bool) → T (not b || c) → b ≡ true → T c
on_yes true c h e = h
on_yes false c h e = absurd (true_not_false e refl)

either : (a b : Bool) → T (a || b) → T a ⊎ T b
either true b h = inl tt
either false b h = inr h

module _ (w : World) (c n : ℕ) (assoc text : List ℕ) where
  one_sealed : (b : Sent) → Memᴰ b w.sealed → T (is_sent c n assoc text b) → SealedBefore key_of w (key_of c) n assoc text
  unfolding is_sent
  one_sealed b m t =
      let p = both_true (eqb b.item.count c) _ t in
      let q = both_true (eqb b.item.number n) _ p.1 in
      let u = both_true (eq_list b.assoc assoc) _ q.1 in
      record {
        sent = b;
        earlier = m;
        under_key = ap key_of (eqb→eq _ c p.0);
        under_number = eqb→eq _ n q.0;
        same_assoc = same_list _ assoc u.0;
        same_text = same_list _ text u.1;
      }

  is_sealed : (l : List Sent) → ((b : Sent) → Memᴰ b l → Memᴰ b w.sealed) → T (is_in c n assoc text l)
      → SealedBefore key_of w (key_of c) n assoc text
  unfolding is_in
  is_sealed [] f h = absurd h
  is_sealed (b ∷ l) f h =
      elim (either (is_sent c n assoc text b) _ h) [
        | inl t ↦ one_sealed b (f b (Memᴰ.head refl)) t
        | inr t ↦ is_sealed l (λ b' m. f b' (Memᴰ.tail m)) t
      ]

settle_met : (s : Setting) (w : World) (r : List ℕ) (slot count number : ℕ) (passed : Bool) (plain : List ℕ)
    → T (call_test s w (settle r slot count number passed plain)) → Honest (toy s) key_of key_of w r count number passed plain
unfolding call_test ready_test seal_test
settle_met s w r slot count number passed plain h =
    let says = (toy s).says (key_of count) number r in
    let text = (toy s).text (key_of count) number r in
    let p = both_true (ready_test s w) _ h in
    let q = both_true (same_setting w.sender.setting s) _ p.0 in
    let u = both_true (same_setting w.receiver.setting s) _ q.1 in
    let v = both_true (same_bool passed says) _ p.1 in
    let there = (same_setting_lem w.receiver.setting s).holds (T-is _ u.0) in
    let most = leb→le (counts_of w) 4294967295 u.1 in
    let on : says ≡ true → T (eq_list plain text) × T (is_in count number (assoc_of s r) text w.sealed) =
    λ e. both_true (eq_list plain text) _ (on_yes says _ v.1 e) in
    let own = same_answer passed says v.0 in
    record {
      alike = ((same_setting_lem w.sender.setting s).holds (T-is _ q.0) ∙ sym there, λ c l. refl);
      no_reuse = λ a b l m e. keys_differ a b (omega arith) (omega arith) e;
      own = (own, λ e. same_list plain text (on (sym own ∙ e)).0);
      genuine = λ e.
          subst (λ (t : Setting). SealedBefore key_of w (key_of count) number (assoc_of t r) text) (sym there)
          (is_sealed w count number (assoc_of s r) text w.sealed (λ b m. m) (on e).1);
    }

call_met : (s : Setting) (w : World) (c : Call) → T (call_test s w c) → HonestCall (toy s) key_of key_of w c
call_met s w (offer r slot) h = tt
call_met s w (settle r slot count number passed plain) h = settle_met s w r slot count number passed plain h
call_met s w (gaps slot) h = tt
call_met s w (change_key iv) h = tt
call_met s w drop_old h = tt

pub run_met : (s : Setting) (w : World) (steps : List Step) → T (run_test s w steps) → Each (HonestCall (toy s) key_of key_of) w steps
unfolding run_test
run_met s w [] h = tt
run_met s w (build app random out ∷ rest) h = run_met s (next w (build app random out)) rest h
run_met s w (turn iv ∷ rest) h = run_met s (next w (turn iv)) rest h
run_met s w (seal i ∷ rest) h = run_met s (next w (seal i)) rest h
run_met s w (receive c ∷ rest) h =
    let p = both_true (call_test s w c) _ h in
    (call_met s w c p.0, run_met s (next w (receive c)) rest p.1)
