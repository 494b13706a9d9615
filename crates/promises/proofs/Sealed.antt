-- T4: with an honest cipher and user, all that is handed out was sealed before, and is handed out once.
-- Assumes nothing.
use Prim.Native.Nat.{ℕ, zero, suc, ◌≤◌}
use mathlib.Core.Path.{◌≡◌, refl, ap, sym, ◌∙◌, subst}
use mathlib.Core.Logic.{inl, inr}
use mathlib.Core.Bool.{Bool, true, false, cond}
use mathlib.Core.List.Memᴰ
use mathlib.Core.List.{List, [], ◌∷◌, ◌++◌, map, Memᴰ}
use native.Mathlib.Omega.{arith}
use lib.Dec.{eqb}
use lib.ListN.{length}
use borrow.Author.Tests.{eqb-true, eq-eqb}
use Rattle.answers.specs.Refusal.{authentic}
use Rattle.answers.proofs.Tests.{true_not_false, by_cases}
use Rattle.answers.specs.Table.{first}
use Rattle.channel.proofs.Outcome.{granted_is}
use Rattle.channel.specs.Call.{Call, offer, settle, gaps, change_key, drop_old, Answer, Effect, stay, marking, turning, dropping}
use Rattle.channel.specs.Receiver.{look, change, answer_to, state_after}
use Rattle.channel.specs.Rules.{granted, outcome}
use Rattle.channel.specs.Sender.{build_rows, change_rows, built, build_of, build_out, change_sender}
use Rattle.channel.specs.View.{View, count_at}
use Rattle.channel.specs.declared.receiver.Receiver.{Receiver}
use Rattle.channel.specs.declared.ffi.ReceiverStep.{ReceiverStep}
use Rattle.channel.specs.declared.ffi.Built.{Built}
use Rattle.channel.specs.declared.sender.Sender.{Sender}
use Rattle.channel.specs.declared.ffi.SenderStep.{SenderStep}
use Rattle.record.proofs.Zeros.{zeros_bad}
use Rattle.record.specs.Setting.{bad_setting, open_rows}
use Rattle.record.specs.Shape.{data_place, data_len}
use Rattle.record.specs.View.{view_of}
use Rattle.record.specs.declared.setting.Setting.{Setting}
use Rattle.promises.specs.Distinct.{Distinct}
use Rattle.promises.specs.Run.{after_by, answers_by, answers_of, Item, pair_of, handed_by, all_handed}
use Rattle.promises.specs.World.{Step, build, turn, seal, receive, Sent, World, sent_of, at, next, start, Each, handed_in, HandsSealed, calls_of, Cipher, Honest, HonestCall}
use Rattle.promises.proofs.Passed.{Passed, settle_passed}
use Rattle.promises.proofs.Good.{good_parts}
use Rattle.promises.proofs.Once.{handed_once}
use Rattle.promises.proofs.Made.{Made, made_build, shown}

-- ---- what holds of the world all along

-- each of these records was built, by a sender of this setting, under a key count that it had
unfoldable pub Fine : Sender → List Sent → Type 0
Fine x l = (b : Sent) → Memᴰ b l → Made x.setting b × (b.item.count ≤ x.count)

-- a world of a run whose receiver was opened with t (a refused open leaves another setting, which is bad)
pub record Sane (t : Setting) (w : World) : Type 0 where
  pub receives : bad_setting w.receiver.setting ≡ false → w.receiver.setting ≡ t
  pub built_fine : Fine w.sender w.built
  pub sealed_fine : Fine w.sender w.sealed

fine_none : (x : Sender) → Fine x []
unfolding Fine
fine_none x = λ b m. elim m [ ]

fine_join : (x : Sender) (k l : List Sent) → Fine x k → Fine x l → Fine x (k ++ l)
unfolding Fine
fine_join x k l f g = λ b m. elim (Memᴰ.append_cases k m) [ inl h ↦ f b h | inr h ↦ g b h ]

fine_at : (x : Sender) (l : List Sent) (i : ℕ) → Fine x l → Fine x (at l i)
unfolding Fine at
fine_at x [] i f = λ b m. elim m [ ]
fine_at x (y ∷ l) zero f = λ b m. f b (Memᴰ.head (Memᴰ.eq_of_singleton m))
fine_at x (y ∷ l) (suc i) f = fine_at x l i (λ b m. f b (Memᴰ.tail m))

-- ---- the sender's steps keep it

-- the sender y comes after x: the same setting, and no lower key count
record Follows (x y : Sender) : Type 0 where
  setting : y.setting ≡ x.setting
  count : x.count ≤ y.count

fine_follows : (x y : Sender) (l : List Sent) → Follows x y → Fine x l → Fine y l
unfolding Fine
fine_follows x y l F f = λ b m.
    let p = f b m in
    let q : b.item.count ≤ x.count = p.1 in
    (subst (λ (s : Setting). Made s b) (sym F.setting) p.0, omega (arith, F.count))

build_follows : (x : Sender) (p q room : ℕ) → Follows x (build_of x p q room).next
unfolding build_of
build_follows x p q room =
    by_cases (λ (b : Built). Follows x b.next) (eqb (first (build_rows x p q room)) 0) _ _
    (λ h. record { setting = refl; count = omega arith }) (λ h. record { setting = refl; count = omega arith })

turn_follows : (x : Sender) (iv : List ℕ) → Follows x (change_sender x iv).next
unfolding change_sender
turn_follows x iv =
    by_cases (λ (t : SenderStep). Follows x t.next) (eqb (first (change_rows x)) 0) _ _
    (λ h. record { setting = refl; count = omega arith }) (λ h. record { setting = refl; count = omega arith })

sent_count : (x : Sender) (app : List ℕ) (b : Built) (out : List ℕ) → (sent_of x app b out).item.count ≤ x.count
unfolding sent_of
sent_count x app b out = omega arith

-- what a Build adds
fine_built : (x : Sender) (app random out : List ℕ) (t : Bool) → eqb (first (build_rows x (length app) (length random) (length out))) 0 ≡ t
    → let b = build_of x (length app) (length random) (length out) in
    Fine x (cond (eqb b.answer 0) (sent_of x app b (build_out x app random out) ∷ []) [])
unfolding Fine build_of
fine_built x app random out true e =
    rw e (λ b m.
    let q = Memᴰ.eq_of_singleton m in
    rw q (made_build x app random out (eqb-true _ _ e), sent_count x app (built x (length app) (length random)) (build_out x app random out)))
fine_built x app random out false e = rw (e, e) (λ b m. elim m [ ])

pub kept_setting : (r : Receiver) (e : Effect) → (change r e).setting ≡ r.setting
unfolding change
kept_setting r stay = refl
kept_setting r (marking slot n) = refl
kept_setting r (turning iv) = refl
kept_setting r dropping = refl

pub step_sane : (t : Setting) (w : World) (x : Step) → Sane t w → Sane t (next w x)
unfolding next state_after
step_sane t w (build app random out) S =
    let F = build_follows w.sender (length app) (length random) (length out) in
    record {
      receives = S.receives;
      built_fine = fine_follows _ _ _ F (fine_join w.sender _ w.built (fine_built w.sender app random out _ refl) S.built_fine);
      sealed_fine = fine_follows _ _ _ F S.sealed_fine;
    }
step_sane t w (turn iv) S =
    let F = turn_follows w.sender iv in
    record {
      receives = S.receives;
      built_fine = fine_follows _ _ _ F S.built_fine;
      sealed_fine = fine_follows _ _ _ F S.sealed_fine;
    }
step_sane t w (seal i) S =
    record {
      receives = S.receives;
      built_fine = S.built_fine;
      sealed_fine = fine_join _ (at w.built i) w.sealed (fine_at _ w.built i S.built_fine) S.sealed_fine;
    }
step_sane t w (receive c) S =
    record {
      receives = λ g. let k = kept_setting w.receiver (outcome (look w.receiver) c).effect in k ∙ S.receives (rw k at g);
      built_fine = S.built_fine;
      sealed_fine = S.sealed_fine;
    }

-- ---- one Settle

-- with the answer 0 the record passed all checks, and the answer is what is granted
zero_passed : (r : Receiver) (a : List ℕ) (slot count number : ℕ) (passed : Bool) (plain : List ℕ)
    → (answer_to r (settle a slot count number passed plain)).code ≡ 0 → Passed (look r) a slot count number passed plain
unfolding answer_to authentic
zero_passed r a slot count number passed plain z =
    settle_passed (look r) a slot count number passed plain (rw (eq-eqb _ 0 z))

-- what a view shows at a place, under a key count and a number
abbrev viewed : Setting → ℕ → ℕ → List ℕ → List ℕ → ℕ → ℕ → Item
viewed s count number r plain place size = record { count = count; number = number; app = view_of s.mode place size r plain }

-- and the data of a record
abbrev data_of : Setting → ℕ → ℕ → List ℕ → List ℕ → Item
data_of s count number r plain = viewed s count number r plain (data_place s r) (data_len s r plain)

shows_granted : (s : Setting) (r : Receiver) → r.setting ≡ s → (a : List ℕ) (slot count number : ℕ) (passed : Bool) (plain : List ℕ)
    → (answer_to r (settle a slot count number passed plain)).code ≡ 0
    → let x = answer_to r (settle a slot count number passed plain) in
    viewed s count number a plain x.place x.length ≡ data_of s count number a plain
unfolding answer_to granted look
shows_granted s r e a slot count number passed plain z =
    let q = granted_is (look r) (settle a slot count number passed plain) z in
    ap (λ (x : Answer). viewed s count number a plain x.place x.length) q
    ∙ ap (λ (t : Setting). viewed s count number a plain (data_place t a) (data_len t a plain)) e

count_below : (v : View) (slot : ℕ) → count_at v slot ≤ v.count
count_below v slot = by_cases (λ (k : ℕ). k ≤ v.count) (eqb slot 0) _ _ (λ h. omega arith) (λ h. omega arith)

-- a good state has a setting that Open grants
passed_setting : (x : Receiver) (r : List ℕ) (slot count number : ℕ) (passed : Bool) (plain : List ℕ)
    → Passed (look x) r slot count number passed plain → bad_setting x.setting ≡ false
unfolding look
passed_setting x r slot count number passed plain P = (good_parts x P.in_slot.good).accepted

module _ {K : Type 0} (C : Cipher K) (sendKey receiveKey : ℕ → K) (t : Setting) where
  -- an authentic record shows what was sealed
  authentic_sealed : (w : World) → Sane t w → (r : List ℕ) (slot count number : ℕ) (passed : Bool) (plain : List ℕ)
      → Honest C sendKey receiveKey w r count number passed plain → Passed (look w.receiver) r slot count number passed plain
      → Memᴰ (data_of t count number r plain) (map (λ (b : Sent). b.item) w.sealed)
  unfolding Fine look
  authentic_sealed w S r slot count number passed plain H P =
      let good = passed_setting w.receiver r slot count number passed plain P in
      let here = S.receives good in
      let B = H.genuine (sym H.own.0 ∙ P.cipher.says) in
      let b = B.sent in
      let M = S.sealed_fine b B.earlier in
      let sent : b.item.count ≤ w.sender.count = M.1 in
      let below : count ≤ w.receiver.count = rw P.cipher.same_count (count_below (look w.receiver) slot) in
      let same : b.item.count ≡ count =
      H.no_reuse b.item.count count (omega arith) (omega arith) (B.under_key ∙ sym (H.alike.1 count (omega arith))) in
      let v : view_of t.mode (data_place t r) (data_len t r plain) r plain ≡ b.item.app =
      shown t b r plain (rw here at good) (subst (λ (s : Setting). Made s b) (H.alike.0 ∙ here) M.0)
      (rw here at B.same_assoc) (H.own.1 P.cipher.says ∙ sym B.same_text) in
      let e : data_of t count number r plain ≡ b.item =
      λ i. record { count = sym same i; number = sym B.under_number i; app = v i } in
      Memᴰ.cast e (Memᴰ.map (λ (b : Sent). b.item) B.earlier)

  settle_sealed : (w : World) → Sane t w → (r : List ℕ) (slot count number : ℕ) (passed : Bool) (plain : List ℕ)
      → Honest C sendKey receiveKey w r count number passed plain
      → HandsSealed t w (settle r slot count number passed plain)
  unfolding handed_by
  settle_sealed w S r slot count number passed plain H = go (eqb (answer_to w.receiver (settle r slot count number passed plain)).code 0) refl
    where
      go : (b : Bool) → eqb (answer_to w.receiver (settle r slot count number passed plain)).code 0 ≡ b
          → HandsSealed t w (settle r slot count number passed plain)
      go true e = rw e (λ x m.
          let z = eqb-true _ _ e in
          let P = zero_passed w.receiver r slot count number passed plain z in
          let here = S.receives (passed_setting w.receiver r slot count number passed plain P) in
          Memᴰ.cast (Memᴰ.eq_of_singleton m ∙ shows_granted t w.receiver here r slot count number passed plain z)
          (authentic_sealed w S r slot count number passed plain H P))
      go false e = rw e (λ x m. elim m [ ])

  call_sealed : (w : World) → Sane t w → (c : Call) → HonestCall C sendKey receiveKey w c → HandsSealed t w c
  unfolding handed_by
  call_sealed w S (offer r slot) H = λ x m. elim m [ ]
  call_sealed w S (settle r slot count number passed plain) H = settle_sealed w S r slot count number passed plain H
  call_sealed w S (gaps slot) H = λ x m. elim m [ ]
  call_sealed w S (change_key iv) H = λ x m. elim m [ ]
  call_sealed w S drop_old H = λ x m. elim m [ ]

  -- from any world of a run on
  pub sealed_from : (w : World) → Sane t w → (steps : List Step) → Each (HonestCall C sendKey receiveKey) w steps → Each (HandsSealed t) w steps
  sealed_from w S [] H = tt
  sealed_from w S (build app random out ∷ rest) H = sealed_from (next w (build app random out)) (step_sane t w (build app random out) S) rest H
  sealed_from w S (turn iv ∷ rest) H = sealed_from (next w (turn iv)) (step_sane t w (turn iv) S) rest H
  sealed_from w S (seal i ∷ rest) H = sealed_from (next w (seal i)) (step_sane t w (seal i) S) rest H
  sealed_from w S (receive c ∷ rest) H = (call_sealed w S c H.0, sealed_from (next w (receive c)) (step_sane t w (receive c) S) rest H.1)

-- ---- from the opens

pub start_sane : (s : Setting) (iv : List ℕ) (t : Setting) (iw : List ℕ) → Sane t (start s iv t iw)
unfolding open_rows
start_sane s iv t iw =
    record {
      receives = by_cases (λ (x : ReceiverStep). bad_setting x.next.setting ≡ false → x.next.setting ≡ t) (eqb (first (open_rows t)) 0) _ _
          (λ h g. refl) (λ h g. absurd (true_not_false zeros_bad g));
      built_fine = fine_none _;
      sealed_fine = fine_none _;
    }

-- all that is handed out was sealed before, under that key count and number
pub all_sealed : {K : Type 0} (C : Cipher K) (sendKey receiveKey : ℕ → K) (s : Setting) (iv : List ℕ) (t : Setting) (iw : List ℕ) (steps : List Step)
    → Each (HonestCall C sendKey receiveKey) (start s iv t iw) steps → Each (HandsSealed t) (start s iv t iw) steps
all_sealed C sendKey receiveKey s iv t iw steps = sealed_from C sendKey receiveKey t (start s iv t iw) (start_sane s iv t iw) steps

-- ---- handed out once: the receiver's calls of the run are a run of the receiver

handed_calls : (t : Setting) (w : World) (steps : List Step)
    → handed_in t w steps ≡ all_handed t (calls_of steps) (answers_of w.receiver (calls_of steps))
unfolding handed_in calls_of all_handed answers_by after_by next answer_to state_after
handed_calls t w [] = refl
handed_calls t w (build app random out ∷ rest) = handed_calls t (next w (build app random out)) rest
handed_calls t w (turn iv ∷ rest) = handed_calls t (next w (turn iv)) rest
handed_calls t w (seal i ∷ rest) = handed_calls t (next w (seal i)) rest
handed_calls t w (receive c ∷ rest) =
    ap (λ (l : List Item). handed_by t c (outcome (look w.receiver) c).answer ++ l) (handed_calls t (next w (receive c)) rest)

-- nothing is handed out twice, whatever the cipher is and whoever sends
pub handed_in_once : (s : Setting) (iv : List ℕ) (t : Setting) (iw : List ℕ) (steps : List Step)
    → Distinct (map pair_of (handed_in t (start s iv t iw) steps))
handed_in_once s iv t iw steps = rw (handed_calls t (start s iv t iw) steps) (handed_once t iw (calls_of steps))
