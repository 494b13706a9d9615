-- The sender of a row that was reached is asked, and put back where it changed.
-- Assumes nothing.
use Prim.Native.Nat.{ℕ}
use mathlib.Core.List.{List}
use mathlib.Core.Path.{◌≡◌, refl, sym, ap, ◌∙◌}
use lib.ListN.{length, set}
use lib.Seq.{set-get_or}
use borrow.Author.Tests.{eq-eqb, ne_eqb}
use Rattle.answers.specs.Table.{first}
use Rattle.answers.proofs.Given.{given_ok, given_no, why_is}
use Rattle.channel.specs.Sender.{no_build, built, build_rows, build_of, build_out, turn_to, change_rows, change_sender}
use Rattle.octets.specs.Parts.{over}
use Rattle.record.specs.Write.{front_of}
use Rattle.channel.specs.declared.ffi.Built.{Built}
use Rattle.channel.specs.declared.sender.Sender.{Sender}
use Rattle.channel.specs.declared.ffi.SenderStep.{SenderStep}
use Rattle.rows.specs.Ends.{Ends, free_ends, sender_of, ends_of, with_sender, put_sender}
use Rattle.controller.specs.Words.{Reached}
use Rattle.controller.specs.declared.ffi.Sent.{Sent}
use Rattle.controller.specs.Answers.{sent, no_sent}
use Rattle.controller.specs.Table.{row_at}
use Rattle.controller.specs.Doors.{number, place, door_rows}
use Rattle.controller.specs.Calls.{build, turn, build_in, build_out_in, turn_in, table_after}
use Rattle.controller.specs.Words.{reached_in, rows_of, words_at, build_words, turn_words}
use Rattle.controller.proofs.Reaching.{rows_set, door_why, door_found, ends_found}

-- ---- a sender that refuses keeps its state, and writes nothing

module _ (s : Sender) where
  build_why : (p q room : ℕ) → first (build_rows s p q room) ≡ (build_of s p q room).answer
  unfolding build_of
  build_why p q room =
      why_is (λ (b : Built). b.answer) (built s p q) (no_build s) refl (λ k. refl) (build_of s p q room) (first (build_rows s p q room)) refl

  pub build_refused : (p q room : ℕ) → ((build_of s p q room).answer ≡ 0 → ⊥) → build_of s p q room ≡ no_build s (build_of s p q room).answer
  unfolding build_of
  build_refused p q room n =
      given_no (built s p q) (no_build s) (first (build_rows s p q room)) (λ z. n (sym (build_why p q room) ∙ z)) ∙ ap (no_build s) (build_why p q room)

  pub build_unwritten : (app random out : List ℕ) → ((build_of s (length app) (length random) (length out)).answer ≡ 0 → ⊥) → build_out s app random out ≡ out
  unfolding build_out
  build_unwritten app random out n =
      given_no (over out 0 (front_of s.setting s.next app random)) (λ why. out) (first (build_rows s (length app) (length random) (length out)))
      (λ z. n (sym (build_why (length app) (length random) (length out)) ∙ z))

  pub turn_refused : (iv : List ℕ) → ((change_sender s iv).answer ≡ 0 → ⊥) → (change_sender s iv).next ≡ s
  unfolding change_sender
  turn_refused iv n =
      let why : ℕ = first (change_rows s) in
      let ok : SenderStep = record { answer = 0; next = turn_to s iv } in
      let told : why ≡ (change_sender s iv).answer = why_is (λ (x : SenderStep). x.answer) ok (λ k. record { answer = k; next = s }) refl (λ k. refl) (change_sender s iv) why refl in
      ap (λ (x : SenderStep). x.next) (given_no ok (λ k. record { answer = k; next = s }) why (λ z. n (sym told ∙ z)))

-- a row put back as it is changes nothing
put_back : (t : List Ends) (i : ℕ) (next : Sender) → next ≡ (row_at t i).sender → set t i (with_sender (row_at t i) next) ≡ t
put_back t i next h = ap (λ (s : Sender). set t i (with_sender (row_at t i) s)) h ∙ set-get_or t i free_ends

-- ---- the row is written with its next sender, and no other row changes

module _ (w : List (List ℕ)) (i : ℕ) (to : Reached) (e : to ≡ reached_in w (number i)) where
  abbrev t : List Ends
  t = rows_of w

  pub way_free : to.answer ≡ 0 → first (door_rows t (number i)) ≡ 0
  way_free h = door_why w (number i) to e ∙ h

  pub way_shut : (to.answer ≡ 0 → ⊥) → first (door_rows t (number i)) ≡ 0 → ⊥
  way_shut n z = n (sym (door_why w (number i) to e) ∙ z)

  pub sender_found : to.answer ≡ 0 → sender_of to.row.words ≡ (row_at t i).sender
  unfolding place
  sender_found h = ap (λ (x : Ends). x.sender) (ends_found w (number i) to e h)

  pub sender_put : to.answer ≡ 0 → (next : Sender) (x : List ℕ) → x ≡ put_sender to.row.words next
      → ends_of x ≡ with_sender (ends_of to.row.words) next
      → (set w to.at x ≡ set w i (put_sender (words_at w i) next)) × (rows_of (set w to.at x) ≡ set t i (with_sender (row_at t i) next))
  unfolding place
  sender_put h next x put back =
      let at : to.at ≡ i = ap (λ (y : Reached). y.at) (door_found w (number i) to e h) in
      let words : to.row.words ≡ words_at w i = ap (λ (y : Reached). y.row.words) (door_found w (number i) to e h) in
      let new : ends_of x ≡ with_sender (row_at t i) next = back ∙ ap (λ (y : Ends). with_sender y next) (ends_found w (number i) to e h) in (
        (λ j. set w (at j) (put j)) ∙ ap (λ (y : List ℕ). set w i (put_sender y next)) words,
        rows_set w to.at x ∙ (λ j. set t (at j) (new j)),
      )

  -- ---- Build

  module _ (app random out : List ℕ) where
    abbrev p : ℕ
    p = length app

    abbrev q : ℕ
    q = length random

    abbrev room : ℕ
    room = length out

    -- what Build answers, and what it leaves of the buffer, the words and the rows
    abbrev pub Builds : Sent → List ℕ → List (List ℕ) → Type 0
    Builds a out' w' =
        (a ≡ sent (build_in t i p q room)) × (out' ≡ build_out_in t i app random out) × (w' ≡ build_words w i p q room)
        × (rows_of w' ≡ table_after t (build i app random out))

    pub build_shut : (to.answer ≡ 0 → ⊥) → Builds (no_sent to.answer) out w
    unfolding build_in build_out_in build_words table_after
    build_shut n =
        let why : first (door_rows t (number i)) ≡ to.answer = door_why w (number i) to e in
        let shut = ne_eqb (first (door_rows t (number i))) 0 (way_shut n) in
        (rw (shut, why) refl, rw shut refl, rw (shut, shut) refl, rw shut refl)

    module _ (h : to.answer ≡ 0) (b : Built) (told : b ≡ build_of (sender_of to.row.words) p q room) where
      sender_built : b ≡ build_of (row_at t i).sender p q room
      sender_built = told ∙ ap (λ (s : Sender). build_of s p q room) (sender_found h)

      row_built : b ≡ build_in t i p q room
      unfolding build_in
      row_built = sender_built ∙ sym (given_ok (build_of (row_at t i).sender p q room) (no_build (row_at t i).sender) (first (door_rows t (number i))) (way_free h))

      row_out : build_out (sender_of to.row.words) app random out ≡ build_out_in t i app random out
      unfolding build_out_in
      row_out =
          ap (λ (s : Sender). build_out s app random out) (sender_found h)
          ∙ sym (given_ok (build_out (row_at t i).sender app random out) (λ why. out) (first (door_rows t (number i))) (way_free h))

      row_after : table_after t (build i app random out) ≡ set t i (with_sender (row_at t i) b.next)
      unfolding table_after
      row_after =
          given_ok (set t i (with_sender (row_at t i) (build_of (row_at t i).sender p q room).next)) (λ why. t) (first (door_rows t (number i))) (way_free h)
          ∙ ap (λ (x : Built). set t i (with_sender (row_at t i) x.next)) (sym sender_built)

      pub build_refuses : (b.answer ≡ 0 → ⊥) → Builds (no_sent b.answer) (build_out (sender_of to.row.words) app random out) w
      unfolding build_words
      build_refuses n =
          let s : Sender = (row_at t i).sender in
          let not_zero : (build_of s p q room).answer ≡ 0 → ⊥ = λ z. n (ap (λ (x : Built). x.answer) sender_built ∙ z) in
          let alone : b ≡ no_build s b.answer = sender_built ∙ build_refused s p q room not_zero ∙ ap (λ (x : Built). no_build s x.answer) (sym sender_built) in (
            ap sent (sym alone ∙ row_built),
            row_out,
            rw (← row_built, ne_eqb b.answer 0 n) refl,
            sym (row_after ∙ put_back t i b.next (ap (λ (x : Built). x.next) alone)),
          )

      pub build_changes : b.answer ≡ 0 → (x : List ℕ) → x ≡ put_sender to.row.words b.next
          → ends_of x ≡ with_sender (ends_of to.row.words) b.next
          → Builds (sent b) (build_out (sender_of to.row.words) app random out) (set w to.at x)
      unfolding build_words
      build_changes z x put back =
          let new = sender_put h b.next x put back in (
            ap sent row_built,
            row_out,
            new.0 ∙ rw (← row_built, eq-eqb b.answer 0 z) refl,
            new.1 ∙ sym row_after,
          )

  -- ---- the sender's key change

  module _ (iv : List ℕ) where
    -- what it answers, and what it leaves of the words and the rows
    abbrev pub Turns : ℕ → List (List ℕ) → Type 0
    Turns a w' = (a ≡ turn_in t i iv) × (w' ≡ turn_words w i iv) × (rows_of w' ≡ table_after t (turn i iv))

    pub turn_shut : (to.answer ≡ 0 → ⊥) → Turns to.answer w
    unfolding turn_in turn_words table_after
    turn_shut n =
        let why : first (door_rows t (number i)) ≡ to.answer = door_why w (number i) to e in
        let shut = ne_eqb (first (door_rows t (number i))) 0 (way_shut n) in
        (rw (shut, why) refl, rw (shut, shut) refl, rw shut refl)

    module _ (h : to.answer ≡ 0) (x : SenderStep) (told : x ≡ change_sender (sender_of to.row.words) iv) where
      sender_turned : x ≡ change_sender (row_at t i).sender iv
      sender_turned = told ∙ ap (λ (s : Sender). change_sender s iv) (sender_found h)

      row_turned : x.answer ≡ turn_in t i iv
      unfolding turn_in
      row_turned =
          ap (λ (y : SenderStep). y.answer) sender_turned
          ∙ sym (given_ok (change_sender (row_at t i).sender iv).answer (λ why. why) (first (door_rows t (number i))) (way_free h))

      turned_after : table_after t (turn i iv) ≡ set t i (with_sender (row_at t i) x.next)
      unfolding table_after
      turned_after =
          given_ok (set t i (with_sender (row_at t i) (change_sender (row_at t i).sender iv).next)) (λ why. t) (first (door_rows t (number i))) (way_free h)
          ∙ ap (λ (y : SenderStep). set t i (with_sender (row_at t i) y.next)) (sym sender_turned)

      pub turn_refuses : (x.answer ≡ 0 → ⊥) → Turns x.answer w
      unfolding turn_words
      turn_refuses n =
          let s : Sender = (row_at t i).sender in
          let kept : x.next ≡ s = ap (λ (y : SenderStep). y.next) sender_turned ∙ turn_refused s iv (λ z. n (ap (λ (y : SenderStep). y.answer) sender_turned ∙ z)) in
          (row_turned, rw (← row_turned, ne_eqb x.answer 0 n) refl, sym (turned_after ∙ put_back t i x.next kept))

      pub turn_changes : x.answer ≡ 0 → (y : List ℕ) → y ≡ put_sender to.row.words x.next
          → ends_of y ≡ with_sender (ends_of to.row.words) x.next → Turns 0 (set w to.at y)
      unfolding turn_words
      turn_changes z y put back =
          let new = sender_put h x.next y put back in (
            sym z ∙ row_turned,
            new.0 ∙ rw (← row_turned, eq-eqb x.answer 0 z) (ap (λ (s : SenderStep). set w i (put_sender (words_at w i) s.next)) sender_turned),
            new.1 ∙ sym turned_after,
          )
