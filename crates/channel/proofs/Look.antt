-- The stages of the checks that Offer and Settle share.
-- Assumes nothing.
use Prim.Native.Nat.{ℕ}
use mathlib.Core.Bool.{Bool, true, false, cond}
use mathlib.Core.List.{List, ◌++◌}
use mathlib.Core.Path.{◌≡◌, refl, sym, ap, ◌∙◌}
use lib.Dec.{eqb}
use Rattle.std.specs.Prelude.{Result, Ok, Err}
use Rattle.answers.specs.Answer.{code_of, or_none}
use Rattle.answers.specs.declared.refusal.Refusal.{Refusal}
use Rattle.answers.specs.declared.refusal.Refusal.TheVariants as Refused
use Rattle.answers.proofs.Answer.{number_some}
use Rattle.answers.specs.Refusal.{marks, authentic}
use Rattle.numbers.specs.Number.{number_rows}
use Rattle.answers.specs.Table.{Check, first, given}
use Rattle.answers.proofs.Given.{given_no, why_is, ok_is}
use Rattle.answers.proofs.Table.{first_past, first_stop, first_unmarking}
use Rattle.numbers.specs.Contract.{Placed, no_place}
use Rattle.numbers.specs.declared.window.Window.{Window}
use Rattle.record.specs.declared.setting.Setting.{Setting}
use Rattle.record.specs.Header.{number_of}
use Rattle.record.specs.Read.{Reading, record_rows, no_record, well_formed, read_of, place_rows, place_of}
use Rattle.channel.specs.declared.receiver.Receiver.{Receiver}
use Rattle.channel.specs.View.{Face, key_at, no_key, number_at}
use Rattle.channel.specs.Rules.{state_rows, slot_rows, place_rows_at, offer_rows, cipher_rows}
use Rattle.channel.specs.declared.key.Key.{Key}
use Rattle.channel.specs.Receiver.{bad_receiver, face_of, look, key_of}
use Rattle.channel.specs.Look.{key_there, Looked, no_look, looked, look_of, passed_of}

-- the view's key of a slot is the face of the receiver's
pub face_at : (r : Receiver) (slot : ℕ) → key_at (look r) slot ≡ face_of (key_of r slot)
unfolding look
face_at r slot = go (eqb slot 0)
  where
    go : (b : Bool) → cond b (face_of r.current) (face_of r.old) ≡ face_of (cond b r.current r.old)
    go true = refl
    go false = refl

-- what the key of a slot tells of the slot
module _ (r : Receiver) (slot : ℕ) where
  pub key_none : {why : Refusal} → key_there r slot ≡ Err why → (no_key (look r) slot ≡ true) × (why ≡ Refused.Key)
  unfolding key_there
  key_none {why} = go (no_key (look r) slot)
    where
      of : Result Key Refusal → Refusal
      of (Ok k) = Refused.Key
      of (Err w) = w

      go : (b : Bool) → cond b (Err Refused.Key) (Ok (key_of r slot)) ≡ Err why → (b ≡ true) × (why ≡ Refused.Key)
      go true e = (refl, sym (ap of e))
      go false e = absurd (number_some why (sym (ap code_of e)))

  pub key_some : {k : Key} → key_there r slot ≡ Ok k → (no_key (look r) slot ≡ false) × (k ≡ key_of r slot)
  unfolding key_there
  key_some {k} = go (no_key (look r) slot)
    where
      go : (b : Bool) → cond b (Err Refused.Key) (Ok (key_of r slot)) ≡ Ok k → (b ≡ false) × (k ≡ key_of r slot)
      go true e = absurd (number_some Refused.Key (ap code_of e))
      go false e = (refl, sym (ap (or_none (key_of r slot)) e))

-- of what the reader found
module _ (s : Setting) (rec : List ℕ) (f : Reading) (e : f ≡ read_of s rec) where
  pub read_why : first (record_rows s rec) ≡ f.answer
  unfolding read_of
  read_why = why_is (λ (x : Reading). x.answer) (well_formed s rec) no_record refl (λ k. refl) f (first (record_rows s rec)) e

  pub read_is : f.answer ≡ 0 → f ≡ well_formed s rec
  unfolding read_of
  read_is h = ok_is (λ (x : Reading). x.answer) (well_formed s rec) no_record refl (λ k. refl) f (first (record_rows s rec)) e h

module _ (r : Receiver) (rec : List ℕ) (slot : ℕ) where
  abbrev w : Window
  w = (key_of r slot).window

  -- the checks of the number, as they are asked of the window
  place_is : place_of r.setting w rec
      ≡ given (first (place_rows_at (look r) rec slot)) (record { answer = 0; number = number_at (look r) rec slot }) no_place
  unfolding place_of look
  place_is =
      ap (λ (k : Face). given (first (place_rows r.setting k.next k.seen rec)) (record { answer = 0; number = number_of r.setting k.next rec }) no_place)
      (sym (face_at r slot))

  pub look_bad : bad_receiver r ≡ true → no_look 1 ≡ look_of r rec slot
  unfolding offer_rows slot_rows state_rows look_of look
  look_bad h = rw h

  pub look_none : bad_receiver r ≡ false → no_key (look r) slot ≡ true → no_look 3 ≡ look_of r rec slot
  unfolding offer_rows slot_rows state_rows look_of look
  look_none h k = rw (k, h)

  module _ (good : bad_receiver r ≡ false) (some : no_key (look r) slot ≡ false) (f : Reading) (e : f ≡ read_of r.setting rec) where
    past : first (offer_rows (look r) rec slot) ≡ first (record_rows r.setting rec ++ place_rows_at (look r) rec slot)
    unfolding offer_rows slot_rows state_rows look
    past = rw (some, good)

    -- the record is refused
    pub look_read : (f.answer ≡ 0 → ⊥) → no_look f.answer ≡ look_of r rec slot
    unfolding look_of
    look_read h =
        let y : first (record_rows r.setting rec) ≡ f.answer = read_why r.setting rec f e in
        let u : first (offer_rows (look r) rec slot) ≡ f.answer =
        past ∙ first_stop (record_rows r.setting rec) (place_rows_at (look r) rec slot) (λ z. h (sym y ∙ z)) ∙ y in
        rw u (sym (given_no (looked r rec slot) no_look f.answer h))

    module _ (h : f.answer ≡ 0) (p : Placed) (q : p ≡ place_of r.setting (key_of r slot).window rec) where
      abbrev yes_placed : Placed
      yes_placed = record { answer = 0; number = number_at (look r) rec slot }

      why_placed : first (offer_rows (look r) rec slot) ≡ p.answer
      unfolding record_rows
      why_placed =
          past
          ∙ first_past (record_rows r.setting rec) (place_rows_at (look r) rec slot) tt (read_why r.setting rec f e ∙ h)
          ∙ why_is (λ (x : Placed). x.answer) yes_placed no_place refl (λ k. refl) p (first (place_rows_at (look r) rec slot)) (q ∙ place_is)

      -- the number is refused
      pub look_place : (p.answer ≡ 0 → ⊥) → no_look p.answer ≡ look_of r rec slot
      unfolding look_of
      look_place n = rw why_placed (sym (given_no (looked r rec slot) no_look p.answer n))

      -- nothing is refused
      pub look_ok : {k : Key} → k ≡ key_of r slot → p.answer ≡ 0
          → ◌≡◌ {A = Looked}
          (record { answer = 0; iv = k.iv; number = p.number; assoc = f.assoc; text = f.text; plain = f.plain; place = f.place })
          (look_of r rec slot)
      unfolding look_of
      look_ok k n =
          rw (k, why_placed ∙ n, read_is r.setting rec f e h, ok_is (λ (x : Placed). x.answer) yes_placed no_place refl (λ k. refl) p (first (place_rows_at (look r) rec slot)) (q ∙ place_is) n)

  -- ---- of what was found

  module _ (l : Looked) (e : l ≡ look_of r rec slot) where
    pub look_why : first (offer_rows (look r) rec slot) ≡ l.answer
    unfolding look_of
    look_why = why_is (λ (x : Looked). x.answer) (looked r rec slot) no_look refl (λ k. refl) l (first (offer_rows (look r) rec slot)) e

    pub look_is : l.answer ≡ 0 → l ≡ looked r rec slot
    unfolding look_of
    look_is h = ok_is (λ (x : Looked). x.answer) (looked r rec slot) no_look refl (λ k. refl) l (first (offer_rows (look r) rec slot)) e h

  -- ---- of what Settle found before it marks

  module _ (count number : ℕ) (passed : Bool) (plain : List ℕ) where
    abbrev early : List Check
    early = offer_rows (look r) rec slot ++ cipher_rows (look r) rec slot count number passed plain

    module _ (l : Looked) (e : l ≡ passed_of r rec slot count number passed plain) where
      pub passed_why : first early ≡ l.answer
      unfolding passed_of
      passed_why = why_is (λ (x : Looked). x.answer) (looked r rec slot) no_look refl (λ k. refl) l (first early) e

      pub passed_is : l.answer ≡ 0 → l ≡ looked r rec slot
      unfolding passed_of
      passed_is h = ok_is (λ (x : Looked). x.answer) (looked r rec slot) no_look refl (λ k. refl) l (first early) e h

      -- none of them marks
      pub passed_quiet : marks l.answer ≡ false
      unfolding offer_rows slot_rows state_rows record_rows place_rows number_rows cipher_rows marks authentic
      passed_quiet = rw (← passed_why) (first_unmarking early tt)
