-- From its open to its close the calls that reach a row are a run of a channel.
-- Assumes nothing.
use Prim.Native.Nat.{ℕ}
use mathlib.Core.Path.{◌≡◌, refl, sym, ap, ap₂, ◌∙◌, subst}
use mathlib.Core.Bool.{Bool, true, false, cond}
use mathlib.Core.List.{List, [], ◌∷◌, ◌++◌}
use lib.Dec.{eqb}
use borrow.Author.Tests.{eqb-false, eq-eqb}
use Rattle.answers.specs.Table.{first}
use Rattle.answers.proofs.Tests.{true_not_false, tells_eq, tells_and}
use Rattle.record.specs.Setting.{bad_setting}
use Rattle.record.specs.declared.setting.Setting.{Setting}
use Rattle.channel.specs.Call.{Call}
use Rattle.channel.specs.Receiver.{look, change, answer_to, state_after, open_receiver}
use Rattle.channel.specs.Rules.{outcome}
use Rattle.channel.specs.Sender.{open_sender}
use Rattle.promises.specs.Run.{after_by, answers_by, reach_by, answers_of, reached}
use Rattle.promises.specs.SendRun.{Send, sending, sent_by, sender_after}
use Rattle.rows.specs.Ends.{Ends, is_free}
use Rattle.controller.specs.Table.{row_at, lowest}
use Rattle.controller.specs.Calls.{TableCall, enter, leave, receive, build, turn, open_in, table_after}
use Rattle.bay.specs.Reach.{target, checks_of, reaches}
use Rattle.bay.specs.TableRun.{table_run}
use Rattle.bay.specs.RowRun.{gather, call_of, answer_in, send_of, reply_in, reply_of, replies_of, closes, StaysOpen, RunsAs, new_row, opened}
use Rattle.bay.proofs.Rows.{row_set}
use Rattle.bay.proofs.Free.{set_open}
use Rattle.bay.proofs.Ends.{granted_good, new_receiver_lem, new_sender_lem, reached_setting}
use Rattle.bay.proofs.Through.{new_through}
use Rattle.bay.proofs.Answering.{build_own, open_code, open_own, out_own, receive_own, turn_own}
use Rattle.bay.proofs.After.{after_no, after_ok, made, target_there}
use Rattle.bay.proofs.Keeping.{own_row}
use Rattle.bay.proofs.Joined.{reach_join, answers_join, sent_join, replies_join}

-- ---- one call: it reaches row i, or row i stays as it was

module _ (i : ℕ) (t : List Ends) (c : TableCall) where
  pub reach_parts : reaches i t c ≡ true → (first (checks_of t c) ≡ 0) × (target t c ≡ i)
  unfolding reaches
  reach_parts h = (tells_and (tells_eq (first (checks_of t c)) 0) (tells_eq (target t c) i)).holds h

  row_made : reaches i t c ≡ true → row_at (table_after t c) i ≡ made t c
  row_made h =
      let p = reach_parts h in
      rw (after_ok t c p.0, ← p.1) (row_set t (target t c) (made t c) (target_there t c p.0))

  row_stays : reaches i t c ≡ false → row_at (table_after t c) i ≡ row_at t i
  unfolding reaches
  row_stays h = go (eqb (first (checks_of t c)) 0) refl (eqb (target t c) i) refl
    where
      go : (a : Bool) → eqb (first (checks_of t c)) 0 ≡ a → (b : Bool) → eqb (target t c) i ≡ b → row_at (table_after t c) i ≡ row_at t i
      go true p true q = absurd (true_not_false (rw (p, q)) h)
      go true p false q = own_row t c i (λ e. eqb-false _ _ q (sym e))
      go false p b q = rw (after_no t c (eqb-false _ _ p))

-- the row that a channel's calls make of one
abbrev run_ends : Ends → List Call → List Send → Ends
run_ends e cs sends = record { receiver = reached e.receiver cs; sender = sender_after e.sender sends }

-- what reaches an open row and does not close it runs it as a channel: for Open takes a free row
made_runs : (t : List Ends) (c : TableCall) → is_free (row_at t (target t c)) ≡ false → first (checks_of t c) ≡ 0 → closes (target t c) t c ≡ false
    → made t c ≡ run_ends (row_at t (target t c)) (call_of c) (send_of c)
unfolding checks_of target made call_of send_of reach_by after_by state_after sent_by sending closes reaches
made_runs t (enter s iv iw) o e k = absurd (true_not_false (new_through t s e).free o)
made_runs t (leave i) o e k = absurd (true_not_false (rw (eq-eqb _ 0 e) (eq-eqb i i refl)) k)
made_runs t (receive d c) o e k = refl
made_runs t (build i app random out) o e k = refl
made_runs t (turn i iv) o e k = refl

answers_own : (t : List Ends) (c : TableCall) → first (checks_of t c) ≡ 0 → answer_in t c ≡ answers_of (row_at t (target t c)).receiver (call_of c)
unfolding checks_of target answer_in call_of answers_by answer_to
answers_own t (enter s iv iw) e = refl
answers_own t (leave i) e = refl
answers_own t (receive d c) e = rw (receive_own t d c e)
answers_own t (build i app random out) e = refl
answers_own t (turn i iv) e = refl

replies_own : (t : List Ends) (c : TableCall) → first (checks_of t c) ≡ 0 → reply_in t c ≡ replies_of (row_at t (target t c)).sender (send_of c)
unfolding checks_of target reply_in send_of replies_of reply_of
replies_own t (enter s iv iw) e = refl
replies_own t (leave i) e = refl
replies_own t (receive d c) e = refl
replies_own t (build i app random out) e = rw (build_own t i e, out_own t i e)
replies_own t (turn i iv) e = rw (turn_own t i e)

-- the calls that reach row i by this call
module _ (i : ℕ) (t : List Ends) (c : TableCall) where
  abbrev here : {A : Type 0} → List A → List A
  here l = cond (reaches i t c) l []

  row_step : is_free (row_at t i) ≡ false → closes i t c ≡ false → row_at (table_after t c) i ≡ run_ends (row_at t i) (here (call_of c)) (here (send_of c))
  unfolding reach_by sent_by
  row_step o k = go (reaches i t c) refl
    where
      go : (b : Bool) → reaches i t c ≡ b → row_at (table_after t c) i ≡ run_ends (row_at t i) (cond b (call_of c) []) (cond b (send_of c) [])
      go true h =
          let p = reach_parts i t c h in
          row_made i t c h ∙ rw (← p.1) (made_runs t c (rw p.1 o) p.0 (rw p.1 k))
      go false h = row_stays i t c h

  -- what a call's own row answers to it, row i answers where the call reaches it
  answered : {A B : Type 0} (run : Ends → List B → List A) → ((e : Ends) → run e [] ≡ []) → (own : List A) (calls : List B)
      → (first (checks_of t c) ≡ 0 → own ≡ run (row_at t (target t c)) calls) → here own ≡ run (row_at t i) (here calls)
  answered run none own calls f = go (reaches i t c) refl
    where
      go : (b : Bool) → reaches i t c ≡ b → cond b own [] ≡ run (row_at t i) (cond b calls [])
      go true h = let p = reach_parts i t c h in f p.0 ∙ ap (λ (k : ℕ). run (row_at t k) calls) p.1
      go false h = sym (none (row_at t i))

  answers_step : here (answer_in t c) ≡ answers_of (row_at t i).receiver (here (call_of c))
  unfolding answers_by
  answers_step = answered (λ e. answers_of e.receiver) (λ e. refl) (answer_in t c) (call_of c) (answers_own t c)

  replies_step : here (reply_in t c) ≡ replies_of (row_at t i).sender (here (send_of c))
  unfolding replies_of
  replies_step = answered (λ e. replies_of e.sender) (λ e. refl) (reply_in t c) (send_of c) (replies_own t c)

-- an open row whose setting Open would grant stays so until it is closed
pub stays_good : (i : ℕ) (t : List Ends) (c : TableCall) → bad_setting (row_at t i).receiver.setting ≡ false → closes i t c ≡ false
    → bad_setting (row_at (table_after t c) i).receiver.setting ≡ false
stays_good i t c g k = rw (row_step i t c (set_open (row_at t i) g) k, reached_setting (row_at t i).receiver (here i t c (call_of c))) g

-- ---- a run

module _ (i : ℕ) where
  -- one call more, at the front
  grow : (t : List Ends) (c : TableCall) (cs : List TableCall)
      → RunsAs i (table_after t c) cs (reached (row_at t i).receiver (here i t c (call_of c))) (sender_after (row_at t i).sender (here i t c (send_of c)))
      → RunsAs i t (c ∷ cs) (row_at t i).receiver (row_at t i).sender
  unfolding gather table_run
  grow t c cs R =
      record {
        answers = ap₂ ◌++◌ (answers_step i t c) R.answers ∙ sym (answers_join look outcome change _ (here i t c (call_of c)) _);
        receiver = R.receiver ∙ sym (reach_join look outcome change _ (here i t c (call_of c)) _);
        replies = ap₂ ◌++◌ (replies_step i t c) R.replies ∙ sym (replies_join _ (here i t c (send_of c)) _);
        sender = R.sender ∙ sym (sent_join _ (here i t c (send_of c)) _);
      }

  -- it runs as a channel
  runs : (t : List Ends) (cs : List TableCall) → bad_setting (row_at t i).receiver.setting ≡ false → StaysOpen i t cs
      → RunsAs i t cs (row_at t i).receiver (row_at t i).sender
  unfolding gather table_run answers_by reach_by replies_of sent_by
  runs t [] g k = record { answers = refl; receiver = refl; replies = refl; sender = refl }
  runs t (c ∷ cs) g k =
      grow t c cs
      (subst (λ (x : Ends). RunsAs i (table_after t c) cs x.receiver x.sender) (row_step i t c (set_open (row_at t i) g) k.0)
      (runs (table_after t c) cs (stays_good i t c g k.0) k.1))

-- ---- from its open

module _ (t : List Ends) (s : Setting) (iv iw : List ℕ) (z : (open_in t s).0 ≡ 0) where
  -- the row that Open takes holds the two that a channel's opens give
  pub new_row_lem : row_at (opened t s iv iw) (new_row t s) ≡ record { receiver = (open_receiver s iv).next; sender = (open_sender s iw).next }
  unfolding checks_of target made
  new_row_lem =
      let e = sym (open_code t s) ∙ z in
      let E = new_through t s e in
      let n : new_row t s ≡ lowest is_free t = ap (λ (x : ℕ × ℕ). x.1) (open_own t s e) in
      rw (after_ok t (enter s iv iw) e, n, new_receiver_lem s iv E.granted, new_sender_lem s iw E.granted)
      (row_set t (lowest is_free t) _ E.there)

  -- and has a good setting
  pub new_row_good : bad_setting (row_at (opened t s iv iw) (new_row t s)).receiver.setting ≡ false
  new_row_good =
      let g = (new_through t s (sym (open_code t s) ∙ z)).granted in
      rw (new_row_lem, new_receiver_lem s iv g) (granted_good s g)

  -- so from its open to its close a row is a channel
  pub row_is_channel : (cs : List TableCall) → StaysOpen (new_row t s) (opened t s iv iw) cs
      → RunsAs (new_row t s) (opened t s iv iw) cs (open_receiver s iv).next (open_sender s iw).next
  row_is_channel cs k =
      subst (λ (x : Ends). RunsAs (new_row t s) (opened t s iv iw) cs x.receiver x.sender) new_row_lem
      (runs (new_row t s) (opened t s iv iw) cs new_row_good k)
