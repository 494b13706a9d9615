-- Each call of the table answers k exactly where k's reason holds and none before it does: the table's own reasons first, then page 01's
-- for the row. And Open takes the lowest free row.
-- Assumes nothing.
use Prim.Native.Nat.{ℕ, ◌<◌}
use mathlib.Core.Path.{◌≡◌, refl, sym, ap, ◌∙◌}
use mathlib.Core.List.{List, ◌++◌}
use lib.ListN.{length}
use Rattle.answers.specs.Reasons.{Tells, Decided}
use Rattle.answers.proofs.Reasons.{told_join, decided}
use Rattle.answers.proofs.Tests.{tells_and}
use Rattle.record.specs.declared.setting.Setting.{Setting}
use Rattle.channel.proofs.Decisions.{rows_told, build_told, change_told}
use Rattle.channel.proofs.Zeros.{TypedKey, zero_receiver_lem, zero_sender_lem}
use Rattle.channel.specs.Call.{Call}
use Rattle.channel.specs.Reasons.{reasons, build_reasons, change_reasons}
use Rattle.channel.specs.Receiver.{look}
use Rattle.channel.specs.Rules.{rows}
use Rattle.channel.specs.Sender.{build_rows, change_rows}
use Rattle.rows.specs.Ends.{Ends, free_ends, is_free}
use Rattle.controller.specs.Table.{row_at}
use Rattle.controller.specs.Doors.{Door, number, door_rows, new_rows}
use Rattle.controller.specs.Calls.{row_to, open_in, close_in, receive_in, build_in, turn_in}
use Rattle.bay.specs.Reasons.{Free, Open, door_reasons, new_reasons}
use Rattle.bay.proofs.Tests.{tells_as}
use Rattle.bay.proofs.Rows.{lowest_first}
use Rattle.bay.proofs.Through.{new_through}
use Rattle.bay.proofs.Answering.{build_code, open_code, open_own, receive_code, turn_code}
use Rattle.bay.proofs.Told.{door_told, new_told}

-- a row is free exactly where it is all zeros (the premises are what the declared types say of it)
pub free_told : (e : Ends) → TypedKey e.receiver.current → TypedKey e.receiver.old → length e.sender.iv ≡ 12 → Tells (is_free e) (e ≡ free_ends)
unfolding is_free
free_told e a b c =
    tells_as (λ p i. record { receiver = p.0 i; sender = p.1 i }) (λ p. (ap (λ (x : Ends). x.receiver) p, ap (λ (x : Ends). x.sender) p))
    (tells_and (zero_receiver_lem e.receiver a b) (zero_sender_lem e.sender c))

module _ (t : List Ends) where
  pub open_decided : (s : Setting) → Decided (open_in t s).0 (new_reasons t s)
  open_decided s = decided (new_rows t s) (new_reasons t s) (new_told t s) _ (open_code t s)

  pub close_decided : (i : ℕ) → Decided (close_in t i) (door_reasons t (number i))
  unfolding close_in
  close_decided i = decided (door_rows t (number i)) (door_reasons t (number i)) (door_told t (number i)) _ refl

  -- Offer, Settle, Gaps, the receiver's key change and Drop
  pub receive_decided : (d : Door) (c : Call) → TypedKey (row_to t d).receiver.old
      → Decided (receive_in t d c).code (door_reasons t d ++ reasons (row_to t d).receiver c)
  receive_decided d c k =
      decided (door_rows t d ++ rows (look (row_to t d).receiver) c) _
      (told_join (door_rows t d) _ (door_reasons t d) _ (door_told t d) (rows_told (row_to t d).receiver k c)) _ (receive_code t d c)

  module _ (i : ℕ) where
    pub build_decided : (p q room : ℕ)
        → Decided (build_in t i p q room).answer (door_reasons t (number i) ++ build_reasons (row_at t i).sender p q room)
    build_decided p q room =
        decided (door_rows t (number i) ++ build_rows (row_at t i).sender p q room) _
        (told_join (door_rows t (number i)) _ (door_reasons t (number i)) _ (door_told t (number i)) (build_told (row_at t i).sender p q room))
        _ (build_code t i p q room)

    pub turn_decided : (iv : List ℕ) → Decided (turn_in t i iv) (door_reasons t (number i) ++ change_reasons (row_at t i).sender)
    turn_decided iv =
        decided (door_rows t (number i) ++ change_rows (row_at t i).sender) _
        (told_join (door_rows t (number i)) _ (door_reasons t (number i)) _ (door_told t (number i)) (change_told (row_at t i).sender))
        _ (turn_code t i iv)

  -- Open takes the lowest free row, and answers its number
  pub open_takes : (s : Setting) → (open_in t s).0 ≡ 0
      → let i = (open_in t s).1 in (i < length t) × Free (row_at t i) × ((j : ℕ) → j < i → Open (row_at t j))
  open_takes s z =
      let e = sym (open_code t s) ∙ z in
      let E = new_through t s e in
      rw (open_own t s e) (E.there, E.free, λ j h. rw (lowest_first is_free t j h))
