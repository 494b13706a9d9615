-- The zeros of a key, a sender and a receiver: what an opened state never is, and what every call refuses as State.
-- Assumes nothing.
use Prim.Native.Nat.{ℕ}
use mathlib.Core.Bool.{Bool, true, false, not, ◌&&◌, and_assoc}
use mathlib.Core.List.{List}
use mathlib.Core.Path.{◌≡◌, refl, ap, ap₂}
use native.Mathlib.Omega.{arith}
use lib.ListN.{length}
use lib.Dec.{eqb}
use Rattle.std.specs.Prelude.{nat_eq}
use Rattle.std.specs.Cmp.Lexicographic.{pointwise}
use Rattle.std.proofs.Math.Bool.{beq}
use Rattle.answers.specs.Refusal as Refusal
use Rattle.answers.specs.Refusal.{marks}
use Rattle.answers.specs.Table.{first}
use Rattle.answers.specs.Reasons.{Tells}
use Rattle.answers.proofs.Tests.{tells_false, tells_eq, tells_and}
use Rattle.octets.proofs.Blank.{blank_list, blank_test}
use Rattle.numbers.proofs.Laws.{Typed}
use Rattle.numbers.proofs.Calls.{empty_test}
use Rattle.numbers.proofs.Told.{empty_told}
use Rattle.record.specs.declared.setting.Setting.{Setting}
use Rattle.record.specs.Setting.{zero_setting, is_zero_setting, open_rows}
use Rattle.record.proofs.Zeros.{zeros_bad, granted_not_zeros, zero_setting_lem, setting_test}
use Rattle.channel.specs.declared.key.Key.{Key}
use Rattle.channel.specs.declared.receiver.Receiver.{Receiver}
use Rattle.channel.specs.declared.sender.Sender.{Sender}
use Rattle.channel.specs.Key.{zero_key, is_zero_key}
use Rattle.channel.specs.Call.{Call, only}
use Rattle.channel.specs.Receiver.{new_receiver, zero_receiver, is_zero_receiver, bad_receiver, look, answer_to, state_after}
use Rattle.channel.specs.Rules.{rows}
use Rattle.channel.specs.Sender.{new_sender, zero_sender, is_zero_sender, bad_sender, sender_rows, build_rows, change_rows, no_build, build_of, build_out, change_sender}
use Rattle.channel.proofs.Outcome.{bad_first, answer_no, after_no}

-- what the declared type says of a key
pub record TypedKey (k : Key) : Type 0 where
  pub iv : length k.iv ≡ 12
  pub marks : Typed k.window.marks

-- a key's fields are all zero exactly where it is the zeros
pub zero_key_lem : (k : Key) → TypedKey k → Tells (is_zero_key k) (k ≡ zero_key)
unfolding is_zero_key
zero_key_lem k t =
    let b = tells_and (blank_list 12 k.iv t.iv) (empty_told k.window t.marks) in
    record {
      holds = λ e i. record { iv = (b.holds e).0 i; window = (b.holds e).1 i };
      fails = λ e p. b.fails e (ap (λ (x : Key). x.iv) p, ap (λ (x : Key). x.window) p);
    }

-- so a receiver's
pub zero_receiver_lem : (r : Receiver) → TypedKey r.current → TypedKey r.old → Tells (is_zero_receiver r) (r ≡ zero_receiver)
unfolding is_zero_receiver
zero_receiver_lem r t u =
    let b =
    tells_and (tells_and (tells_and (tells_and (zero_setting_lem r.setting) (tells_eq r.count 0)) (zero_key_lem r.current t)) (tells_false r.held))
    (zero_key_lem r.old u) in
    record {
      holds = λ e i. record {
        setting = (b.holds e).0.0.0.0 i;
        count = (b.holds e).0.0.0.1 i;
        current = (b.holds e).0.0.1 i;
        held = (b.holds e).0.1 i;
        old = (b.holds e).1 i;
      };
      fails = λ e p. b.fails e (
        (((ap (λ (x : Receiver). x.setting) p, ap (λ (x : Receiver). x.count) p), ap (λ (x : Receiver). x.current) p), ap (λ (x : Receiver). x.held) p),
        ap (λ (x : Receiver). x.old) p,
      );
    }

-- and a sender's
pub zero_sender_lem : (s : Sender) → length s.iv ≡ 12 → Tells (is_zero_sender s) (s ≡ zero_sender)
unfolding is_zero_sender
zero_sender_lem s t =
    let b =
    tells_and (tells_and (tells_and (zero_setting_lem s.setting) (tells_eq s.count 0)) (tells_eq s.next 0)) (blank_list 12 s.iv t) in
    record {
      holds = λ e i. record {
        setting = (b.holds e).0.0.0 i;
        count = (b.holds e).0.0.1 i;
        next = (b.holds e).0.1 i;
        iv = (b.holds e).1 i;
      };
      fails = λ e p. b.fails e (
        ((ap (λ (x : Sender). x.setting) p, ap (λ (x : Sender). x.count) p), ap (λ (x : Sender). x.next) p),
        ap (λ (x : Sender). x.iv) p,
      );
    }

-- ---- `==` at the zeros is the test of zeros

-- field by field, as `==` goes
abbrev same_settings : Setting → Setting → Bool
same_settings s z =
    eqb s.mode z.mode
    && (eqb s.layout z.layout
    && (eqb s.mac z.mac
    && (eqb s.profile z.profile && (eqb s.width z.width && (eqb s.session z.session && eqb s.limit z.limit)))))

abbrev same_key : Key → Key → Bool
same_key k z = pointwise nat_eq k.iv z.iv && (eqb k.window.next z.window.next && pointwise nat_eq k.window.marks.words z.window.marks.words)

abbrev pub same_receiver : Receiver → Receiver → Bool
same_receiver r z =
    same_settings r.setting z.setting
    && (eqb r.count z.count && (same_key r.current z.current && (beq r.held z.held && same_key r.old z.old)))

abbrev pub same_sender : Sender → Sender → Bool
same_sender s z = same_settings s.setting z.setting && (eqb s.count z.count && (eqb s.next z.next && pointwise nat_eq s.iv z.iv))

pub key_test : (k : Key) {z : Key} → TypedKey k → z ≡ zero_key → same_key k z ≡ is_zero_key k
unfolding is_zero_key
key_test k t e = rw e (ap₂ (λ (x y : Bool). x && y) (blank_test 12 k.iv t.iv) (empty_test k.window t.marks refl))

not_held : (b : Bool) → beq b false ≡ not b
not_held true = refl
not_held false = refl

pub receiver_test : (r : Receiver) {z : Receiver} → TypedKey r.current → TypedKey r.old → z ≡ zero_receiver → same_receiver r z ≡ is_zero_receiver r
unfolding is_zero_receiver is_zero_setting
receiver_test r t u e =
    rw (e, setting_test r.setting zero_setting, key_test r.current t refl, not_held r.held, key_test r.old u refl) (simp and_assoc)

pub sender_test : (s : Sender) {z : Sender} → length s.iv ≡ 12 → z ≡ zero_sender → same_sender s z ≡ is_zero_sender s
unfolding is_zero_sender is_zero_setting
sender_test s t e = rw (e, setting_test s.setting zero_setting, blank_test 12 s.iv t) (simp and_assoc)

-- ---- an opened state is never zero

pub opened_receiver : (s : Setting) (iv : List ℕ) → first (open_rows s) ≡ 0 → new_receiver s iv ≡ zero_receiver → ⊥
opened_receiver s iv g e = granted_not_zeros s g (ap (λ (x : Receiver). x.setting) e)

pub opened_sender : (s : Setting) (iv : List ℕ) → first (open_rows s) ≡ 0 → new_sender s iv ≡ zero_sender → ⊥
opened_sender s iv g e = granted_not_zeros s g (ap (λ (x : Sender). x.setting) e)

-- ---- zeros are State

pub zeros_bad_receiver : bad_receiver zero_receiver ≡ true
unfolding bad_receiver
zeros_bad_receiver = rw zeros_bad

pub zeros_bad_sender : bad_sender zero_sender ≡ true
unfolding bad_sender
zeros_bad_sender = rw zeros_bad

zeros_seen : (look zero_receiver).bad ≡ true
unfolding look
zeros_seen = zeros_bad_receiver

-- every call of a receiver refuses them, and gives them back
pub zeros_refused : (c : Call) → (answer_to zero_receiver c ≡ only Refusal.state) × (state_after zero_receiver c ≡ zero_receiver)
unfolding marks
zeros_refused c =
    (answer_no zero_receiver c Refusal.state zeros_first (λ z. omega arith), after_no zero_receiver c Refusal.state zeros_first (λ z. omega arith) refl)
  where
    zeros_first : first (rows (look zero_receiver) c) ≡ Refusal.state
    zeros_first = bad_first (look zero_receiver) c zeros_seen

-- and every call of a sender
pub zeros_build : (app random out : List ℕ)
    → (build_of zero_sender (length app) (length random) (length out) ≡ no_build zero_sender Refusal.state) × (build_out zero_sender app random out ≡ out)
unfolding build_of build_out build_rows sender_rows
zeros_build app random out = (rw zeros_bad_sender, rw zeros_bad_sender)

pub zeros_change : (iv : List ℕ) → change_sender zero_sender iv ≡ record { answer = Refusal.state; next = zero_sender }
unfolding change_sender change_rows sender_rows
zeros_change iv = rw zeros_bad_sender
