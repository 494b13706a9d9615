-- Laws of the runs of a channel with both its ends.
-- Assumes nothing.
use mathlib.Core.Path.{◌≡◌, refl}
use mathlib.Core.List.{List, [], ◌∷◌, ◌++◌}
use Rattle.channel.specs.Call.{Call}
use Rattle.channel.specs.Receiver.{state_after}
use Rattle.promises.specs.Run.{after_by, reach_by, reached}
use Rattle.promises.specs.SendRun.{sending, sent_by, sender_after}
use Rattle.promises.specs.World.{Step, World, next, Each, calls_of, sends_of, world_after}
use Rattle.promises.specs.World as World

-- what follows of each call
pub each_map : {P Q : World → Call → Type 0} → ((w : World) (c : Call) → P w c → Q w c) → (w : World) (steps : List Step) → Each P w steps → Each Q w steps
each_map f w [] h = tt
each_map f w (World.build app random out ∷ rest) h = each_map f (next w (World.build app random out)) rest h
each_map f w (World.turn iv ∷ rest) h = each_map f (next w (World.turn iv)) rest h
each_map f w (World.seal i ∷ rest) h = each_map f (next w (World.seal i)) rest h
each_map f w (World.receive c ∷ rest) h = (f w c h.0, each_map f (next w (World.receive c)) rest h.1)

-- of each call of a run, so of each of its later part
pub each_later : (P : World → Call → Type 0) (w : World) (xs ys : List Step) → Each P w (xs ++ ys) → Each P (world_after w xs) ys
unfolding world_after
each_later P w [] ys h = h
each_later P w (World.build app random out ∷ xs) ys h = each_later P (next w (World.build app random out)) xs ys h
each_later P w (World.turn iv ∷ xs) ys h = each_later P (next w (World.turn iv)) xs ys h
each_later P w (World.seal i ∷ xs) ys h = each_later P (next w (World.seal i)) xs ys h
each_later P w (World.receive c ∷ xs) ys h = each_later P (next w (World.receive c)) xs ys h.1

-- the receiver after a run is the one that its calls reach
pub world_receiver : (w : World) (steps : List Step) → (world_after w steps).receiver ≡ reached w.receiver (calls_of steps)
unfolding world_after next calls_of reach_by after_by state_after
world_receiver w [] = refl
world_receiver w (World.build app random out ∷ rest) = world_receiver (next w (World.build app random out)) rest
world_receiver w (World.turn iv ∷ rest) = world_receiver (next w (World.turn iv)) rest
world_receiver w (World.seal i ∷ rest) = world_receiver (next w (World.seal i)) rest
world_receiver w (World.receive c ∷ rest) = world_receiver (next w (World.receive c)) rest

-- the sender after a run is the one that its calls leave
pub world_sender : (w : World) (steps : List Step) → (world_after w steps).sender ≡ sender_after w.sender (sends_of steps)
unfolding world_after next sends_of sent_by sending
world_sender w [] = refl
world_sender w (World.build app random out ∷ rest) = world_sender (next w (World.build app random out)) rest
world_sender w (World.turn iv ∷ rest) = world_sender (next w (World.turn iv)) rest
world_sender w (World.seal i ∷ rest) = world_sender (next w (World.seal i)) rest
world_sender w (World.receive c ∷ rest) = world_sender (next w (World.receive c)) rest
