-- What a run of both ends with the small cipher computes through, above what `computing` opens: `unfolding runs` opens all of it.
-- Assumes nothing.
use Rattle.channel.specs.Receiver.{answer_to, state_after}
use Rattle.octets.specs.Parts.{part}
use Rattle.record.specs.View.{view_of}
use Rattle.promises.specs.Run.{handed_by}
use Rattle.promises.specs.World.{sent_of, at, next, handed_in, calls_of}
use Rattle.promises.specs.Toy.{key_of, weigh, tag, masked, eq_list, toy, front, wire, forged}
use Rattle.promises.proofs.Computing.{computing}
use Rattle.promises.proofs.Toy.{same_bool, is_sent, is_in, ready_test, seal_test, call_test, run_test}

-- the view, what is handed out, and the world
unfoldable pub world_open : Unit {0}
unfolding answer_to state_after part view_of handed_by sent_of at next handed_in calls_of
world_open = tt

-- the cipher, and the tests of the assumptions
unfoldable pub toy_open : Unit {0}
unfolding key_of weigh tag masked eq_list toy front wire forged same_bool is_sent is_in ready_test seal_test call_test run_test
toy_open = tt

unfoldable pub runs : Unit {0}
unfolding computing world_open toy_open
runs = tt
