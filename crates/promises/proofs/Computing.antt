-- What a closed run of a receiver, a sender or both computes through: `unfolding computing` opens all of it.
-- Assumes nothing.
use Rattle.answers.specs.Refusal.{marks, authentic}
use Rattle.channel.specs.Key.{is_zero_key}
use Rattle.channel.specs.Receiver.{bad_receiver, look, change}
use Rattle.channel.specs.Rules.{state_rows, slot_rows, offer_rows, cipher_rows, marking_rows, rows, granted, effect_of, refused, outcome}
use Rattle.channel.specs.Sender.{bad_sender, sender_rows, build_rows, change_rows, build_of, build_out, change_sender}
use Rattle.channel.specs.View.{no_key}
use Rattle.numbers.proofs.Computing.{numbers_open}
use Rattle.octets.specs.Fields.{field, blank}
use Rattle.record.proofs.Computing.{record_open}
use Rattle.promises.specs.Run.{after_by, answers_by, marked_by, all_marked}
use Rattle.promises.specs.Plain.{old_of, plain_look, remember_first, plain_change}
use Rattle.promises.specs.SendRun.{sending, used_by, under, from}

-- settings, and the parts of a record, read and written
unfoldable pub reading_open : Unit {0}
unfolding field blank record_open
reading_open = tt

-- the receiver
unfoldable pub receiver_open : Unit {0}
unfolding is_zero_key bad_receiver look change no_key state_rows slot_rows offer_rows cipher_rows marking_rows rows granted effect_of refused outcome marks authentic
receiver_open = tt

-- the sender
unfoldable pub sender_open : Unit {0}
unfolding bad_sender sender_rows build_rows change_rows build_of build_out change_sender
sender_open = tt

-- runs
unfoldable pub runs_open : Unit {0}
unfolding after_by answers_by marked_by all_marked old_of plain_look remember_first plain_change sending used_by under from
runs_open = tt

-- all of these
unfoldable pub computing : Unit {0}
unfolding numbers_open reading_open receiver_open sender_open runs_open
computing = tt
