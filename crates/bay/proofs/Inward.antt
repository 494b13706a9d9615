-- T4 per row, on the way to the row: with an honest cipher and user, and new keys, all that a row hands out was sealed before by its own peer.
-- Assumes nothing.
use Prim.Native.Nat.{ℕ}
use mathlib.Core.Path.{◌≡◌, refl, sym, ap, ◌∙◌, subst}
use mathlib.Core.Bool.{true, cond}
use mathlib.Core.List.{List, [], ◌∷◌, ◌++◌, append_assoc, map, Memᴰ}
use Rattle.record.specs.declared.setting.Setting.{Setting}
use Rattle.channel.specs.Call.{Call}
use Rattle.channel.specs.Receiver.{answer_to, open_receiver}
use Rattle.channel.specs.declared.receiver.Receiver.{Receiver}
use Rattle.promises.specs.Distinct.{Distinct}
use Rattle.promises.specs.Run.{reached, Item, pair_of, handed_by}
use Rattle.promises.specs.World.{Step, Sent, World, next, start, Each, handed_in, HandsSealed, calls_of, world_after, Cipher}
use Rattle.promises.specs.World as World
use Rattle.promises.proofs.Demands as Base
use Rattle.rows.specs.Ends.{Ends}
use Rattle.controller.specs.Table.{row_at}
use Rattle.controller.specs.Doors.{Door}
use Rattle.controller.specs.Calls.{receive, open_in, receive_in, table_after}
use Rattle.bay.specs.Reach.{reaches}
use Rattle.bay.specs.TableRun.{table_run}
use Rattle.bay.specs.RowRun.{gather, call_of, calls_to, StaysOpen, new_row, opened}
use Rattle.bay.specs.Peer.{BayStep, call, build, turn, seal, seal_own, take, calls_in, steps_to, Foreign, HonestCallIn}
use Rattle.bay.proofs.OneRow.{row_is_channel}
use Rattle.bay.proofs.PerRow.{row_answers}
use Rattle.bay.proofs.Fresh.{honest_call}
use Rattle.bay.proofs.Worlds.{each_map, each_later, world_receiver}

-- ---- the steps of a row's channel

calls_received : (cs : List Call) (rest : List Step) → calls_of (map World.receive cs ++ rest) ≡ cs ++ calls_of rest
unfolding calls_of
calls_received [] rest = refl
calls_received (c ∷ cs) rest = ap (λ (l : List Call). c ∷ l) (calls_received cs rest)

-- its receiver's calls are those that reach the row
pub calls_same : (i : ℕ) (t : List Ends) (steps : List BayStep) → calls_of (steps_to i t steps) ≡ calls_to i t (calls_in steps)
unfolding steps_to calls_of calls_in gather
calls_same i t [] = refl
calls_same i t (call c ∷ rest) =
    calls_received (cond (reaches i t c) (call_of c) []) _ ∙ ap (λ (l : List Call). cond (reaches i t c) (call_of c) [] ++ l) (calls_same i (table_after t c) rest)
calls_same i t (build app random out ∷ rest) = calls_same i t rest
calls_same i t (turn iv ∷ rest) = calls_same i t rest
calls_same i t (seal j ∷ rest) = calls_same i t rest
calls_same i t (seal_own j ∷ rest) = calls_same i t rest
calls_same i t (take c ∷ rest) = calls_same i t rest

steps_join : (i : ℕ) (t : List Ends) (xs ys : List BayStep) → steps_to i t (xs ++ ys) ≡ steps_to i t xs ++ steps_to i (table_run t (calls_in xs)) ys
unfolding steps_to calls_in table_run
steps_join i t [] ys = refl
steps_join i t (call c ∷ xs) ys =
    ap (λ (l : List Step). map World.receive (cond (reaches i t c) (call_of c) []) ++ l) (steps_join i (table_after t c) xs ys)
    ∙ sym (append_assoc (map World.receive (cond (reaches i t c) (call_of c) [])) _ _)
steps_join i t (build app random out ∷ xs) ys = ap (λ (l : List Step). World.build app random out ∷ l) (steps_join i t xs ys)
steps_join i t (turn iv ∷ xs) ys = ap (λ (l : List Step). World.turn iv ∷ l) (steps_join i t xs ys)
steps_join i t (seal j ∷ xs) ys = ap (λ (l : List Step). World.seal j ∷ l) (steps_join i t xs ys)
steps_join i t (seal_own j ∷ xs) ys = steps_join i t xs ys
steps_join i t (take c ∷ xs) ys = steps_join i t xs ys

-- a call that reaches the row is the channel's next step
step_reached : (i : ℕ) (t : List Ends) (d : Door) (c : Call) → reaches i t (receive d c) ≡ true → steps_to i t (call (receive d c) ∷ []) ≡ World.receive c ∷ []
unfolding steps_to call_of
step_reached i t d c h = rw h

-- ---- T4

module _ {K : Type 0} (C : Cipher K) (sendKey receiveKey : ℕ → K) (others : List (Foreign K)) (t : List Ends) (s : Setting) (iv iw : List ℕ)
    (z : (open_in t s).0 ≡ 0) (p : Setting) (pv : List ℕ) (before : List BayStep) (d : Door) (c : Call)
    (k : StaysOpen (new_row t s) (opened t s iv iw) (calls_in before))
    (h : reaches (new_row t s) (table_run (opened t s iv iw) (calls_in before)) (receive d c) ≡ true) where
  abbrev i : ℕ
  i = new_row t s

  abbrev u : List Ends
  u = opened t s iv iw

  -- the table and the channel before the call
  abbrev now : List Ends
  now = table_run u (calls_in before)

  abbrev there : World
  there = world_after (start p pv s iv) (steps_to i u before)

  -- the row's receiver is the channel's
  row_receiver : (row_at now i).receiver ≡ there.receiver
  row_receiver =
      (row_is_channel t s iv iw z (calls_in before) k).receiver
      ∙ sym (world_receiver (start p pv s iv) (steps_to i u before) ∙ ap (reached (open_receiver s iv).next) (calls_same i u before))

  -- so the table's answer is the channel's
  same_answer : receive_in now d c ≡ answer_to there.receiver c
  same_answer = row_answers i now d c h ∙ ap (λ (x : Receiver). answer_to x c) row_receiver

  -- the channel's steps, the call included
  abbrev up_to : List Step
  up_to = steps_to i u (before ++ call (receive d c) ∷ [])

  up_to_lem : up_to ≡ steps_to i u before ++ World.receive c ∷ []
  up_to_lem = steps_join i u before (call (receive d c) ∷ []) ∙ ap (λ (l : List Step). steps_to i u before ++ l) (step_reached i now d c h)

  pub handed_was_sealed : Each (HonestCallIn C sendKey receiveKey others) (start p pv s iv) up_to
      → (x : Item) → Memᴰ x (handed_by s c (receive_in now d c)) → Memᴰ x (map (λ (b : Sent). b.item) there.sealed)
  handed_was_sealed H =
      let E = Base.handed_was_sealed C sendKey receiveKey p pv s iv up_to (each_map (honest_call C sendKey receiveKey others) _ up_to H) in
      let F = subst (λ (l : List Step). Each (HandsSealed s) (start p pv s iv) l) up_to_lem E in
      rw same_answer (each_later (HandsSealed s) (start p pv s iv) (steps_to i u before) (World.receive c ∷ []) F).0

-- and it is handed out once, whatever the cipher is and whoever sends
pub handed_once_in : (t : List Ends) (s : Setting) (iv iw : List ℕ) (p : Setting) (pv : List ℕ) (steps : List BayStep)
    → Distinct (map pair_of (handed_in s (start p pv s iv) (steps_to (new_row t s) (opened t s iv iw) steps)))
handed_once_in t s iv iw p pv steps = Base.handed_once_in p pv s iv (steps_to (new_row t s) (opened t s iv iw) steps)
