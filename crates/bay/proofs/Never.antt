-- A record that is delivered by its Session ID is not Session in its row, nor Short where it has that row's header.
-- Assumes nothing.
use Prim.Native.Nat.{ℕ, ◌≤◌}
use mathlib.Core.Path.{◌≡◌, sym}
use mathlib.Core.Logic.{◌≢◌}
use mathlib.Core.Bool.{Bool, true}
use mathlib.Core.List.{List}
use native.Mathlib.Omega.{arith}
use lib.Dec.{eqb}
use lib.ListN.{length}
use borrow.Author.Tests.{eq-eqb, le-ltb}
use Rattle.answers.specs.Refusal as Refusal
use Rattle.answers.specs.Table.{first}
use Rattle.octets.specs.Fields.{field}
use Rattle.numbers.specs.Number.{number_rows}
use Rattle.record.specs.Header.{session_of}
use Rattle.record.specs.Read.{record_rows, place_rows}
use Rattle.record.specs.Shape.{head_len}
use Rattle.channel.specs.Call.{offer, settle}
use Rattle.channel.specs.Receiver.{look, answer_to}
use Rattle.channel.specs.Rules.{state_rows, slot_rows, offer_rows, cipher_rows, marking_rows, rows}
use Rattle.rows.specs.Ends.{Ends, id_of}
use Rattle.controller.specs.Doors.{session, door_rows}
use Rattle.controller.specs.Calls.{row_to}
use Rattle.promises.proofs.Never.{never_code}
use Rattle.bay.proofs.Through.{session_through}

-- ---- a record that was delivered by its own Session ID

module _ (t : List Ends) (r : List ℕ) (e : first (door_rows t (session r)) ≡ 0) where
  ours : eqb (field r 0 4) (id_of (row_to t (session r))) ≡ true
  ours = eq-eqb _ _ (sym (session_through t r e).1.1)

  pub offer_ours : (slot : ℕ) → let x = (row_to t (session r)).receiver in let k = (answer_to x (offer r slot)).code in
      (head_len x.setting ≤ length r → k ≢ Refusal.short) × (k ≢ Refusal.session)
  unfolding rows offer_rows slot_rows state_rows record_rows place_rows number_rows session_of look
  offer_ours slot =
      (λ h. never_code _ _ Refusal.short (λ z. omega arith) (rw (le-ltb _ _ h)), never_code _ _ Refusal.session (λ z. omega arith) (rw ours))

  pub settle_ours : (slot count number : ℕ) (passed : Bool) (plain : List ℕ) → let x = (row_to t (session r)).receiver in
      let k = (answer_to x (settle r slot count number passed plain)).code in (head_len x.setting ≤ length r → k ≢ Refusal.short) × (k ≢ Refusal.session)
  unfolding rows offer_rows slot_rows state_rows record_rows place_rows number_rows cipher_rows marking_rows session_of look
  settle_ours slot count number passed plain =
      (λ h. never_code _ _ Refusal.short (λ z. omega arith) (rw (le-ltb _ _ h)), never_code _ _ Refusal.session (λ z. omega arith) (rw ours))
