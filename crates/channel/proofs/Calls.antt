-- What each call of the receiver answers, from what the code found.
-- Assumes nothing.
use Prim.Native.Nat.{ℕ}
use mathlib.Core.Bool.{Bool, true, false, not, ◌||◌}
use mathlib.Core.List.{List, ◌++◌}
use mathlib.Core.Path.{◌≡◌, refl, sym, ap, ◌∙◌}
use native.Mathlib.Omega.{arith}
use lib.ListN.{length}
use Rattle.answers.specs.Refusal as Refusal
use Rattle.answers.specs.Refusal.{marks}
use Rattle.answers.specs.Table.{Check, first, given, differ}
use Rattle.answers.proofs.Table.{first_past, first_stop}
use Rattle.numbers.specs.Number.{number_rows, gap_count}
use Rattle.numbers.proofs.Laws.{gaps_seen}
use Rattle.numbers.specs.Contract.{width_of}
use Rattle.numbers.specs.Contract as Window
use Rattle.record.specs.Setting.{rule_of}
use Rattle.record.specs.Nonce.{nonce_of}
use Rattle.record.specs.Shape.{plain_len, data_len, inner_bad}
use Rattle.record.specs.Read.{record_rows, place_rows}
use Rattle.channel.specs.declared.receiver.Receiver.{Receiver}
use Rattle.channel.specs.declared.ffi.Offered.{Offered}
use Rattle.channel.specs.declared.ffi.Settled.{Settled}
use Rattle.channel.specs.declared.ffi.Counted.{Counted}
use Rattle.channel.specs.View.{Face, count_at, number_at, no_key}
use Rattle.channel.specs.Call.{Call, offer, settle, only, marking}
use Rattle.channel.specs.Rules.{state_rows, slot_rows, offer_rows, cipher_rows, marking_rows, rows, granted, effect_of}
use Rattle.channel.specs.Receiver.{bad_receiver, look, change, offered, settled, counted, offer_of, settle_of, gaps_of}
use Rattle.channel.specs.Receiver.{key_of}
use Rattle.channel.specs.Look.{Looked, no_look, looked, look_of, passed_of}
use Rattle.channel.proofs.Outcome.{answer_ok, after_ok, answer_no, after_no, after_mark}
use Rattle.channel.proofs.Look.{face_at, look_why, look_is, passed_why, passed_is, passed_quiet}

-- ---- Offer and Settle

module _ (r : Receiver) (rec : List ℕ) (slot : ℕ) (l : Looked) (e : l ≡ look_of r rec slot) where
  pub offer_no : (l.answer ≡ 0 → ⊥) → offered (only l.answer) ≡ offer_of r rec slot
  unfolding rows
  offer_no h = rw (answer_no r (offer rec slot) l.answer (look_why r rec slot l e) h)

  pub offer_ok : l.answer ≡ 0 → {n : ℕ} → n ≡ count_at (look r) slot → {x : List ℕ} → x ≡ nonce_of r.setting l.iv l.number
      → ◌≡◌ {A = Offered}
      (record {
        answer = 0;
        count = n;
        number = l.number;
        nonce = x;
        assoc = l.assoc;
        text = l.text;
      })
      (offer_of r rec slot)
  unfolding rows granted look
  offer_ok h c x =
      rw (c, x, answer_ok r (offer rec slot) (look_why r rec slot l e ∙ h), look_is r rec slot l e h)
      (rw (ap (λ (k : Face). k.iv) (face_at r slot)))

-- ---- Settle: first the checks that mark nothing, by those of Offer

module _ (r : Receiver) (rec : List ℕ) (slot count number : ℕ) (passed : Bool) (plain : List ℕ) where
  abbrev offering : List Check
  offering = offer_rows (look r) rec slot

  abbrev asking : List Check
  asking = cipher_rows (look r) rec slot count number passed plain

  module _ (l : Looked) (e : l ≡ look_of r rec slot) where
    -- a refusal that Offer would give too
    pub passed_no : (l.answer ≡ 0 → ⊥) → l ≡ passed_of r rec slot count number passed plain
    unfolding passed_of look_of
    passed_no h =
        e ∙ ap (λ (w : ℕ). given w (looked r rec slot) no_look) (sym (first_stop offering asking (λ z. h (sym (look_why r rec slot l e) ∙ z))))

    -- the rest of the table, as the code asks it
    module _ (h : l.answer ≡ 0) where
      asked : first (offering ++ asking) ≡ first asking
      unfolding offer_rows slot_rows state_rows record_rows place_rows number_rows
      asked = first_past offering asking tt (look_why r rec slot l e ∙ h)

      stale : {b : Bool} → (differ count (count_at (look r) slot) || differ number l.number) ≡ b
          → (differ count (count_at (look r) slot) || differ number (number_at (look r) rec slot)) ≡ b
      stale t = rw (ap (λ (x : Looked). x.number) (look_is r rec slot l e h)) at t

      unfit : {b : Bool} → differ (length plain) l.plain ≡ b → differ (length plain) (plain_len r.setting rec) ≡ b
      unfit t = rw (ap (λ (x : Looked). x.plain) (look_is r rec slot l e h)) at t

      pub passed_stale : (differ count (count_at (look r) slot) || differ number l.number) ≡ true
          → no_look Refusal.stale ≡ passed_of r rec slot count number passed plain
      unfolding passed_of cipher_rows
      passed_stale t = rw (asked, stale t)

      module _ (t : (differ count (count_at (look r) slot) || differ number l.number) ≡ false) where
        pub passed_plain : differ (length plain) l.plain ≡ true → no_look Refusal.plain ≡ passed_of r rec slot count number passed plain
        unfolding passed_of cipher_rows look
        passed_plain u = rw (asked, stale t, unfit u)

        module _ (u : differ (length plain) l.plain ≡ false) where
          pub passed_mac : passed ≡ false → no_look Refusal.mac ≡ passed_of r rec slot count number passed plain
          unfolding passed_of cipher_rows look
          passed_mac p = rw (asked, stale t, unfit u, ap not p)

          pub passed_ok : passed ≡ true → l ≡ passed_of r rec slot count number passed plain
          unfolding passed_of cipher_rows look
          passed_ok p = look_is r rec slot l e h ∙ rw (asked, stale t, unfit u, ap not p)

  -- ---- and then what marks

  abbrev call : Call
  call = settle rec slot count number passed plain

  settle_rows : rows (look r) call ≡ (offering ++ asking) ++ marking_rows (look r) rec plain
  unfolding rows offer_rows slot_rows state_rows record_rows place_rows number_rows cipher_rows
  settle_rows = refl

  module _ (l : Looked) (e : l ≡ passed_of r rec slot count number passed plain) where
    -- a refusal that keeps the state
    pub settle_no : (l.answer ≡ 0 → ⊥) → settled (only l.answer) r ≡ settle_of r rec slot count number passed plain
    settle_no h =
        let why = passed_why r rec slot count number passed plain l e in
        let w : first (rows (look r) call) ≡ l.answer =
        rw settle_rows (first_stop (offering ++ asking) (marking_rows (look r) rec plain) (λ z. h (sym why ∙ z)) ∙ why) in
        rw (answer_no r call l.answer w h, after_no r call l.answer w h (passed_quiet r rec slot count number passed plain l e))

    -- the record is authentic: its number is marked
    module _ (h : l.answer ≡ 0) {next : Receiver} (n : next ≡ change r (marking slot number)) where
      marks_first : first (rows (look r) call) ≡ first (marking_rows (look r) rec plain)
      unfolding offer_rows slot_rows state_rows record_rows place_rows number_rows cipher_rows
      marks_first =
          rw settle_rows
          (first_past (offering ++ asking) (marking_rows (look r) rec plain) tt (passed_why r rec slot count number passed plain l e ∙ h))

      pub settle_inner : inner_bad r.setting rec plain ≡ true
          → settled (only Refusal.inner) next ≡ settle_of r rec slot count number passed plain
      unfolding marking_rows marks effect_of look
      settle_inner b =
          let w : first (rows (look r) call) ≡ Refusal.inner = marks_first ∙ rw b in
          rw (n, answer_no r call Refusal.inner w (λ z. omega arith), after_mark r call Refusal.inner w (λ z. omega arith) refl)

      pub settle_ok : inner_bad r.setting rec plain ≡ false
          → ◌≡◌ {A = Settled}
          (record { answer = 0; place = l.place; length = data_len r.setting rec plain; next = next })
          (settle_of r rec slot count number passed plain)
      unfolding marking_rows granted effect_of look
      settle_ok b =
          let w : first (rows (look r) call) ≡ 0 = marks_first ∙ rw b in
          rw (n, answer_ok r call w, after_ok r call w, passed_is r rec slot count number passed plain l e h)

-- ---- Gaps

module _ (r : Receiver) (slot : ℕ) where
  pub slot_bad : bad_receiver r ≡ true → first (slot_rows (look r) slot) ≡ 1
  unfolding slot_rows state_rows look
  slot_bad b = rw b

  pub slot_none : bad_receiver r ≡ false → no_key (look r) slot ≡ true → first (slot_rows (look r) slot) ≡ 3
  unfolding slot_rows state_rows look
  slot_none b k = rw (k, b)

  pub slot_ok : bad_receiver r ≡ false → no_key (look r) slot ≡ false → first (slot_rows (look r) slot) ≡ 0
  unfolding slot_rows state_rows look
  slot_ok b k = rw (k, b)

  pub gaps_no : (why : ℕ) → first (slot_rows (look r) slot) ≡ why → (why ≡ 0 → ⊥) → counted (only why) ≡ gaps_of r slot
  unfolding rows
  gaps_no why e n = rw (answer_no r (Call.gaps slot) why e n)

  pub gaps_ok : first (slot_rows (look r) slot) ≡ 0
      → ◌≡◌ {A = Counted} (record { answer = 0; gaps = Window.gaps_of (rule_of r.setting) (key_of r slot).window }) (gaps_of r slot)
  unfolding rows granted look
  gaps_ok e =
      rw (answer_ok r (Call.gaps slot) e, gaps_seen (rule_of r.setting) (key_of r slot).window)
      (ap (λ (k : Face). record { answer = 0; gaps = gap_count (width_of (rule_of r.setting)) k.next k.seen }) (sym (face_at r slot)))
