-- T4 per row, on the way from the row: all that its peer hands out was sealed before, of what the row's sender built.
-- Assumes nothing.
use Prim.Native.Nat.{ℕ}
use mathlib.Core.Path.{◌≡◌, refl, sym, ap, ◌∙◌}
use mathlib.Core.Bool.{Bool, true, false, cond}
use mathlib.Core.List.{List, [], ◌∷◌, ◌++◌}
use Rattle.record.specs.declared.setting.Setting.{Setting}
use Rattle.channel.specs.Sender.{open_sender}
use Rattle.promises.specs.SendRun.{Send, sender_after}
use Rattle.promises.specs.World.{Step, start, Each, HandsSealed, sends_of, world_after, Cipher}
use Rattle.promises.proofs.Demands as Base
use Rattle.rows.specs.Ends.{Ends}
use Rattle.controller.specs.Table.{row_at}
use Rattle.controller.specs.Calls.{TableCall, enter, leave, receive, open_in, table_after}
use Rattle.controller.specs.Calls as Calls
use Rattle.bay.specs.Reach.{reaches}
use Rattle.bay.specs.TableRun.{table_run}
use Rattle.bay.specs.RowRun.{gather, send_of, sends_to, StaysOpen, new_row, opened}
use Rattle.bay.specs.Peer.{BayStep, call, build, turn, seal, seal_own, take, calls_in, send_steps, steps_from, Foreign, HonestCallIn}
use Rattle.bay.proofs.OneRow.{row_is_channel}
use Rattle.bay.proofs.Fresh.{honest_call}
use Rattle.bay.proofs.Worlds.{each_map, world_sender}

sends_sent : (c : TableCall) (b : Bool) (rest : List Step) → sends_of (send_steps (cond b (send_of c) []) ++ rest) ≡ cond b (send_of c) [] ++ sends_of rest
unfolding sends_of send_steps send_of
sends_sent c false rest = refl
sends_sent (enter s iv iw) true rest = refl
sends_sent (leave i) true rest = refl
sends_sent (receive d c) true rest = refl
sends_sent (Calls.build i app random out) true rest = refl
sends_sent (Calls.turn i iv) true rest = refl

-- its sender's calls are those that reach the row
sends_same : (i : ℕ) (t : List Ends) (steps : List BayStep) → sends_of (steps_from i t steps) ≡ sends_to i t (calls_in steps)
unfolding steps_from sends_of calls_in gather
sends_same i t [] = refl
sends_same i t (call c ∷ rest) =
    sends_sent c (reaches i t c) _ ∙ ap (λ (l : List Send). cond (reaches i t c) (send_of c) [] ++ l) (sends_same i (table_after t c) rest)
sends_same i t (build app random out ∷ rest) = sends_same i t rest
sends_same i t (turn iv ∷ rest) = sends_same i t rest
sends_same i t (seal j ∷ rest) = sends_same i t rest
sends_same i t (seal_own j ∷ rest) = sends_same i t rest
sends_same i t (take c ∷ rest) = sends_same i t rest

module _ (t : List Ends) (s : Setting) (iv iw : List ℕ) (p : Setting) (pv : List ℕ) (steps : List BayStep) where
  -- the row's sender is the channel's
  pub row_sender : (open_in t s).0 ≡ 0 → StaysOpen (new_row t s) (opened t s iv iw) (calls_in steps)
      → (row_at (table_run (opened t s iv iw) (calls_in steps)) (new_row t s)).sender
      ≡ (world_after (start s iw p pv) (steps_from (new_row t s) (opened t s iv iw) steps)).sender
  row_sender z k =
      (row_is_channel t s iv iw z (calls_in steps) k).sender
      ∙ sym (world_sender (start s iw p pv) (steps_from (new_row t s) (opened t s iv iw) steps)
      ∙ ap (sender_after (open_sender s iw).next) (sends_same (new_row t s) (opened t s iv iw) steps))

  pub peer_handed_was_sealed : {K : Type 0} (C : Cipher K) (sendKey receiveKey : ℕ → K) (others : List (Foreign K))
      → Each (HonestCallIn C sendKey receiveKey others) (start s iw p pv) (steps_from (new_row t s) (opened t s iv iw) steps)
      → Each (HandsSealed p) (start s iw p pv) (steps_from (new_row t s) (opened t s iv iw) steps)
  peer_handed_was_sealed C sendKey receiveKey others H =
      let run = steps_from (new_row t s) (opened t s iv iw) steps in
      Base.handed_was_sealed C sendKey receiveKey s iw p pv run (each_map (honest_call C sendKey receiveKey others) (start s iw p pv) run H)
