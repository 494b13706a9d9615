-- Of each function of the boundary: two answers that its contract allows are equal, and so are two buffers, two tables and two lent parts at exit.
-- Assumes nothing.
use Prim.Native.Nat.{ℕ}
use mathlib.Core.List.{List}
use mathlib.Core.Path.{◌≡◌}
use Rattle.answers.proofs.OneAnswer.{OneAnswer, one}
use Rattle.mctp.specs.declared.ffi.Wrote.{Wrote}
use Rattle.controller.specs.declared.ffi.Opened.{Opened}
use Rattle.controller.specs.declared.ffi.Taken.{Taken}
use Rattle.controller.specs.declared.ffi.Sent.{Sent}
use Rattle.husk.proofs.sender.husk_open_sender.Reads as open-sender
use Rattle.husk.proofs.sender.husk_build.Reads as build
use Rattle.husk.proofs.sender.husk_change_sender.Reads as change-sender
use Rattle.husk.proofs.receiver.husk_open_receiver.Reads as open-receiver
use Rattle.husk.proofs.receiver.husk_gaps.Reads as gaps
use Rattle.husk.proofs.receiver.husk_offer.Reads as offer
use Rattle.husk.proofs.receiver.husk_settle.Reads as settle
use Rattle.husk.proofs.receiver.husk_change_receiver.Reads as change-receiver
use Rattle.husk.proofs.receiver.husk_drop.Reads as drop
use Rattle.husk.proofs.receiver.husk_view.Reads as view
use Rattle.husk.proofs.wrapping.husk_wrap_data.Reads as wrap-data
use Rattle.husk.proofs.wrapping.husk_read_data.Reads as read-data
use Rattle.husk.proofs.wrapping.husk_body_of.Reads as body_of
use Rattle.husk.proofs.wrapping.husk_wrap_record.Reads as wrap-record
use Rattle.husk.proofs.wrapping.husk_read_message.Reads as read-message
use Rattle.husk.proofs.wrapping.husk_record_of.Reads as record_of
use Rattle.husk.proofs.table.husk_table_open.Reads as table-open
use Rattle.husk.proofs.table.husk_table_close.Reads as table-close
use Rattle.husk.proofs.table.husk_table_offer.Reads as table-offer
use Rattle.husk.proofs.table.husk_table_settle.Reads as table-settle
use Rattle.husk.proofs.table.husk_table_build.Reads as table-build
use Rattle.husk.proofs.table.husk_table_gaps.Reads as table-gaps
use Rattle.husk.proofs.table.husk_table_change_receiver.Reads as table-change-receiver
use Rattle.husk.proofs.table.husk_table_change_sender.Reads as table-change-sender
use Rattle.husk.proofs.table.husk_table_drop.Reads as table-drop

pub open_sender_one : OneAnswer open-sender.Post (λ κs x s. x)
open_sender_one κs a x y s t p q = one p q

pub build_one : OneAnswer build.Post (λ κs x s. x)
build_one κs a x y s t p q = one p.0 q.0

-- and its buffer
pub build_buffer_one : OneAnswer {B = List ℕ} build.Post (λ κs x s. s.1.1.1.0.now)
build_buffer_one κs a x y s t p q = one p.1 q.1

pub change_sender_one : OneAnswer change-sender.Post (λ κs x s. x)
change_sender_one κs a x y s t p q = one p q

pub open_receiver_one : OneAnswer open-receiver.Post (λ κs x s. x)
open_receiver_one κs a x y s t p q = one p q

pub gaps_one : OneAnswer gaps.Post (λ κs x s. x)
gaps_one κs a x y s t p q = one p q

pub offer_one : OneAnswer offer.Post (λ κs x s. x)
offer_one κs a x y s t p q = one p q

pub settle_one : OneAnswer settle.Post (λ κs x s. x)
settle_one κs a x y s t p q = one p q

pub change_receiver_one : OneAnswer change-receiver.Post (λ κs x s. x)
change_receiver_one κs a x y s t p q = one p q

pub drop_one : OneAnswer drop.Post (λ κs x s. x)
drop_one κs a x y s t p q = one p q

-- the part that is lent back
pub view_one : OneAnswer {B = List ℕ} view.Post (λ κs x s. s.1.1.1.1.1.0.now.now)
view_one κs a x y s t p q = one p q

-- the answer and the buffer
pub wrap_data_one : OneAnswer {B = Wrote × List ℕ} wrap-data.Post (λ κs x s. (x, s.1.1.1.0.now))
wrap_data_one κs a x y s t p q = one p q

pub read_data_one : OneAnswer read-data.Post (λ κs x s. x)
read_data_one κs a x y s t p q = one p q

pub body_of_one : OneAnswer {B = List ℕ} body_of.Post (λ κs x s. s.1.0.now.now)
body_of_one κs a x y s t p q = one p q

pub wrap_record_one : OneAnswer {B = Wrote × List ℕ} wrap-record.Post (λ κs x s. (x, s.1.0.now))
wrap_record_one κs a x y s t p q = one p q

pub read_message_one : OneAnswer read-message.Post (λ κs x s. x)
read_message_one κs a x y s t p q = one p q

pub record_of_one : OneAnswer {B = List ℕ} record_of.Post (λ κs x s. s.1.0.now.now)
record_of_one κs a x y s t p q = one p q

-- ---- the table's calls: the answer, and the table where it is changed

-- the words of the table
abbrev Words : Type 0
Words = List (List ℕ)

pub table_open_one : OneAnswer {B = Opened × Words} table-open.Post (λ κs x s. (x, s.0.now))
table_open_one κs a x y s t p q i =
    let two : ◌≡◌ {A = ℕ × ℕ} (x.answer, x.row) (y.answer, y.row) = one p.0 q.0 in
    (record { answer = (two i).0; row = (two i).1 }, one p.1 q.1 i)

pub table_close_one : OneAnswer {B = ℕ × Words} table-close.Post (λ κs x s. (x, s.0.now))
table_close_one κs a x y s t p q i = (one p.0 q.0 i, one p.1 q.1 i)

pub table_offer_one : OneAnswer table-offer.Post (λ κs x s. x)
table_offer_one κs a x y s t p q = one p q

pub table_settle_one : OneAnswer {B = Taken × Words} table-settle.Post (λ κs x s. (x, s.0.now))
table_settle_one κs a x y s t p q i = (one p.0 q.0 i, one p.1 q.1 i)

-- and its buffer
pub table_build_one : OneAnswer {B = Sent × List ℕ × Words} table-build.Post (λ κs x s. (x, s.1.1.1.1.0.now, s.0.now))
table_build_one κs a x y s t p q i = (one p.0 q.0 i, one p.1 q.1 i, one p.2 q.2 i)

pub table_gaps_one : OneAnswer table-gaps.Post (λ κs x s. x)
table_gaps_one κs a x y s t p q = one p q

pub table_change_receiver_one : OneAnswer {B = ℕ × Words} table-change-receiver.Post (λ κs x s. (x, s.0.now))
table_change_receiver_one κs a x y s t p q i = (one p.0 q.0 i, one p.1 q.1 i)

pub table_change_sender_one : OneAnswer {B = ℕ × Words} table-change-sender.Post (λ κs x s. (x, s.0.now))
table_change_sender_one κs a x y s t p q i = (one p.0 q.0 i, one p.1 q.1 i)

pub table_drop_one : OneAnswer {B = ℕ × Words} table-drop.Post (λ κs x s. (x, s.0.now))
table_drop_one κs a x y s t p q i = (one p.0 q.0 i, one p.1 q.1 i)
