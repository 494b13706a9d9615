-- Each end of a run of both ends is a run of that end: what is proved of a sender's or a receiver's run holds there, and steps of the other
-- end may be left out.
-- Assumes nothing.
use mathlib.Core.Path.{◌≡◌, refl}
use mathlib.Core.List.{List, [], ◌∷◌}
use Rattle.channel.specs.Receiver.{state_after}
use Rattle.promises.specs.Run.{after_by, reach_by, reached}
use Rattle.promises.specs.SendRun.{sending, sent_by, sender_after}
use Rattle.promises.specs.World.{Step, build, turn, seal, receive, World, next, calls_of, sends_of, world_after}

-- the sender is where its own calls lead it
pub sender_run : (w : World) (steps : List Step) → (world_after w steps).sender ≡ sender_after w.sender (sends_of steps)
unfolding world_after next sends_of sent_by sending
sender_run w [] = refl
sender_run w (build app random out ∷ rest) = sender_run (next w (build app random out)) rest
sender_run w (turn iv ∷ rest) = sender_run (next w (turn iv)) rest
sender_run w (seal i ∷ rest) = sender_run (next w (seal i)) rest
sender_run w (receive c ∷ rest) = sender_run (next w (receive c)) rest

-- and so is the receiver
pub receiver_run : (w : World) (steps : List Step) → (world_after w steps).receiver ≡ reached w.receiver (calls_of steps)
unfolding world_after next calls_of reach_by after_by state_after
receiver_run w [] = refl
receiver_run w (build app random out ∷ rest) = receiver_run (next w (build app random out)) rest
receiver_run w (turn iv ∷ rest) = receiver_run (next w (turn iv)) rest
receiver_run w (seal i ∷ rest) = receiver_run (next w (seal i)) rest
receiver_run w (receive c ∷ rest) = receiver_run (next w (receive c)) rest
