-- A row that is opened or closed.
-- Assumes nothing.
use Prim.Native.Nat.{ℕ}
use mathlib.Core.Bool.{true, false, not}
use mathlib.Core.List.{List, [], ◌∷◌}
use mathlib.Core.Path.{◌≡◌, refl, sym, ap, ◌∙◌}
use lib.ListN.{set}
use borrow.Author.Tests.{eqb-false, ne_eqb}
use Rattle.answers.specs.Refusal as Refusal
use Rattle.answers.specs.Table.{Check, first}
use Rattle.answers.proofs.Given.{given_ok, why_is}
use Rattle.answers.proofs.Table.{first_past, first_stop}
use Rattle.channel.specs.Receiver.{new_receiver, zero_receiver, open_receiver}
use Rattle.channel.specs.Sender.{new_sender, zero_sender, open_sender}
use Rattle.channel.specs.declared.ffi.ReceiverStep.{ReceiverStep}
use Rattle.channel.specs.declared.ffi.SenderStep.{SenderStep}
use Rattle.record.specs.Setting.{open_rows}
use Rattle.record.specs.declared.setting.Setting.{Setting}
use Rattle.rows.specs.Ends.{Ends, is_free, ends_of, put_receiver, put_sender}
use Rattle.rows.proofs.Laws.{zeros_free}
use Rattle.controller.specs.Words.{Reached}
use Rattle.controller.specs.Table.{some, lowest, has, clashes}
use Rattle.controller.specs.Doors.{number, place, door_rows, new_rows}
use Rattle.controller.specs.Calls.{enter, leave, open_in, close_in, table_after}
use Rattle.controller.specs.Words.{no_words, reached_in, rows_of, enter_words, leave_words}
use Rattle.controller.proofs.Reaching.{rows_set, door_why, door_found}

-- ---- what the channel's own open found

module _ (s : Setting) (iv : List ℕ) where
  pub setting_why : (x : ReceiverStep) → x ≡ open_receiver s iv → first (open_rows s) ≡ x.answer
  setting_why x e =
      why_is (λ (y : ReceiverStep). y.answer) (record { answer = 0; next = new_receiver s iv }) (λ k. record { answer = k; next = zero_receiver })
      refl (λ k. refl) x (first (open_rows s)) e

  pub receiver_opened : (x : ReceiverStep) → x ≡ open_receiver s iv → first (open_rows s) ≡ 0 → x.next ≡ new_receiver s iv
  receiver_opened x e z =
      ap (λ (y : ReceiverStep). y.next)
      (e ∙ given_ok (record { answer = 0; next = new_receiver s iv }) (λ k. record { answer = k; next = zero_receiver }) (first (open_rows s)) z)

  pub sender_opened : (x : SenderStep) → x ≡ open_sender s iv → first (open_rows s) ≡ 0 → x.next ≡ new_sender s iv
  sender_opened x e z =
      ap (λ (y : SenderStep). y.next)
      (e ∙ given_ok (record { answer = 0; next = new_sender s iv }) (λ k. record { answer = k; next = zero_sender }) (first (open_rows s)) z)

-- ---- Open

module _ (w : List (List ℕ)) (s : Setting) (iv iw : List ℕ) where
  abbrev t : List Ends
  t = rows_of w

  -- what it answers, and what it leaves of the words and the rows
  abbrev pub Opens : ℕ → ℕ → List (List ℕ) → Type 0
  Opens a row w' = ((a, row) ≡ open_in t s) × (w' ≡ enter_words w s iv iw) × (rows_of w' ≡ table_after t (enter s iv iw))

  open_refused : (k : ℕ) → first (new_rows t s) ≡ k → (k ≡ 0 → ⊥) → Opens k 0 w
  unfolding open_in enter_words table_after
  open_refused k e n = let shut = ne_eqb k 0 n in (rw (e, shut) refl, rw (e, shut) refl, rw (e, shut) refl)

  pub open_clash : clashes t ≡ true → Opens Refusal.state 0 w
  unfolding new_rows
  open_clash bad = open_refused Refusal.state (rw bad refl) (eqb-false Refusal.state 0 refl)

  -- the checks of the table, behind the setting's own
  abbrev late : List Check
  late = (some (has s.session) t, Refusal.twice) ∷ (not (some is_free t), Refusal.rows) ∷ []

  module _ (bad : clashes t ≡ false) where
    pub open_setting : (k : ℕ) → first (open_rows s) ≡ k → (k ≡ 0 → ⊥) → Opens k 0 w
    unfolding new_rows
    open_setting k e n = open_refused k (rw bad (first_stop (open_rows s) late (λ z. n (sym e ∙ z)) ∙ e)) n

    behind : first (open_rows s) ≡ 0 → first (new_rows t s) ≡ first late
    unfolding new_rows open_rows
    behind z = rw bad (first_past (open_rows s) late tt z)

    module _ (z : first (open_rows s) ≡ 0) where
      pub open_twice : some (has s.session) t ≡ true → Opens Refusal.twice 0 w
      open_twice twice = open_refused Refusal.twice (behind z ∙ rw twice refl) (eqb-false Refusal.twice 0 refl)

      module _ (once : some (has s.session) t ≡ false) where
        pub open_full : some is_free t ≡ false → Opens Refusal.rows 0 w
        open_full full = open_refused Refusal.rows (behind z ∙ rw (once, full) refl) (eqb-false Refusal.rows 0 refl)

        -- the new ends stand in the lowest free row
        pub open_new : some is_free t ≡ true → (at : ℕ) → at ≡ lowest is_free t → (x : List ℕ)
            → x ≡ put_sender (put_receiver no_words (new_receiver s iv)) (new_sender s iw)
            → ends_of x ≡ record { receiver = new_receiver s iv; sender = new_sender s iw }
            → Opens 0 at (set w at x)
        unfolding open_in enter_words table_after
        open_new room at e x put back =
            let free : first (new_rows t s) ≡ 0 = behind z ∙ rw (once, room) refl in (
              rw (free, e) refl,
              rw (free, e, put) refl,
              rows_set w at x ∙ rw (free, e, back) refl,
            )

-- ---- Close

module _ (w : List (List ℕ)) (i : ℕ) (to : Reached) (e : to ≡ reached_in w (number i)) where
  -- what it answers, and what it leaves of the words and the rows
  abbrev pub Closes : ℕ → List (List ℕ) → Type 0
  Closes a w' = (a ≡ close_in (rows_of w) i) × (w' ≡ leave_words w i) × (rows_of w' ≡ table_after (rows_of w) (leave i))

  pub close_refused : (to.answer ≡ 0 → ⊥) → Closes to.answer w
  unfolding close_in leave_words table_after
  close_refused n =
      let why : first (door_rows (rows_of w) (number i)) ≡ to.answer = door_why w (number i) to e in
      let shut = ne_eqb to.answer 0 n in
      (sym why, rw (why, shut) refl, rw (why, shut) refl)

  pub close_frees : to.answer ≡ 0 → Closes 0 (set w to.at no_words)
  unfolding close_in leave_words table_after place
  close_frees h =
      let free : first (door_rows (rows_of w) (number i)) ≡ 0 = door_why w (number i) to e ∙ h in
      let at : to.at ≡ i = ap (λ (y : Reached). y.at) (door_found w (number i) to e h) in
      (sym free, rw (free, at) refl, rows_set w to.at no_words ∙ rw (free, at, zeros_free) refl)
