-- Wrong receivers, each with a run on which it answers what the plain receiver does not, and those of them that mark a number twice.
-- Assumes nothing.
use Rattle.std.specs.Prelude.{ℕ, ◌+◌, ◌-◌, ◌*◌, ◌%◌, ◌^◌, true, false, cond, List, [], ◌∷◌, leb, eqb, replicate}
use Rattle.answers.specs.Refusal as Refusal
use Rattle.channel.specs.Call.{Call, offer, settle, gaps, change_key, drop_old, only, Effect, stay, marking, turning, dropping, Outcome}
use Rattle.channel.specs.Receiver.{look, change}
use Rattle.channel.specs.Rules.{granted, effect_of, outcome}
use Rattle.channel.specs.View.{Face, View, number_at}
use Rattle.channel.specs.declared.receiver.Receiver.{Receiver}
use Rattle.numbers.specs.Contract.{window_of}
use Rattle.numbers.specs.Word.{set_bit, word_of}
use Rattle.record.specs.declared.setting.Setting.{Setting}
use Rattle.record.specs.Setting.{page_setting}
use Rattle.promises.specs.Ways.{Receives}

-- ---- the runs: from the open of this setting with this IV

-- mode 0
abbrev pub set : Setting
set = page_setting 0 0x11223344 1000

-- any will do
abbrev pub iv : List ℕ
iv = 0 ∷ 1 ∷ 2 ∷ 3 ∷ 4 ∷ 5 ∷ 6 ∷ 7 ∷ 8 ∷ 9 ∷ 10 ∷ 11 ∷ []

-- a record with the number n and no data
abbrev pub rec : ℕ → List ℕ
rec n = 0x44 ∷ 0x33 ∷ 0x22 ∷ 0x11 ∷ n ∷ 0 ∷ 16 ∷ 0 ∷ replicate 16 0

-- its Settle in a slot, under a key count
abbrev pub taking : ℕ → ℕ → ℕ → Call
taking slot count n = settle (rec n) slot count n true []

-- ---- wrong tables

-- right but for the table
abbrev pub by_table : (View → Call → Outcome) → Receives
by_table decides = record { looks = look; decides = decides; changes = change }

-- it refuses everything
unfoldable pub refuses_all : View → Call → Outcome
refuses_all v c = record { answer = only Refusal.mac; effect = stay }

-- what the table says, but for the number and the gap count
abbrev pub says : ℕ → ℕ → Outcome → Outcome
says number missing o =
    let a = o.answer in
    record {
      answer = record {
        code = a.code;
        count = a.count;
        number = number;
        nonce = a.nonce;
        assoc = a.assoc;
        text = a.text;
        place = a.place;
        length = a.length;
        gaps = missing;
      };
      effect = o.effect;
    }

-- it answers number 0 always
unfoldable pub number_zero : View → Call → Outcome
number_zero v c = says 0 (outcome v c).answer.gaps (outcome v c)

-- its gap count is made up
unfoldable pub made_up_gaps : View → Call → Outcome
made_up_gaps v c = says (outcome v c).answer.number 0 (outcome v c)

-- it has no age rule
unfoldable pub ageless : View → Call → Outcome
ageless v c = cond (eqb (outcome v c).answer.code Refusal.old) (record { answer = granted v c; effect = effect_of c }) (outcome v c)

-- it marks at Offer
unfoldable pub marks_at_offer : View → Call → Outcome
marks_at_offer v (offer r slot) =
    record { answer = (outcome v (offer r slot)).answer; effect = cond (eqb (outcome v (offer r slot)).answer.code 0) (marking slot (number_at v r slot)) stay }
marks_at_offer v (settle r slot count number passed plain) = outcome v (settle r slot count number passed plain)
marks_at_offer v (gaps slot) = outcome v (gaps slot)
marks_at_offer v (change_key iv) = outcome v (change_key iv)
marks_at_offer v drop_old = outcome v drop_old

-- it marks on the cipher's no
unfoldable pub marks_on_no : View → Call → Outcome
marks_on_no v c =
    cond (eqb (outcome v c).answer.code Refusal.mac) (record { answer = (outcome v c).answer; effect = effect_of c }) (outcome v c)

-- it does not compare the number with the one that the cipher checked
unfoldable pub ignores_stale : View → Call → Outcome
ignores_stale v c =
    cond (eqb (outcome v c).answer.code Refusal.stale) (record { answer = granted v c; effect = effect_of c }) (outcome v c)

-- ---- wrong changes

-- right but for the change
abbrev pub by_change : (Receiver → Effect → Receiver) → Receives
by_change changes = record { looks = look; decides = outcome; changes = changes }

-- one window for both keys: a new key goes on with it
unfoldable pub one_window : Receiver → Effect → Receiver
one_window r (turning iv) =
    record { setting = r.setting; count = r.count + 1; current = record { iv = iv; window = r.current.window }; held = true; old = r.current }
one_window r stay = r
one_window r (marking slot n) = change r (marking slot n)
one_window r dropping = change r dropping

-- right but for what becomes of the state when the number n is marked in a slot
unfoldable pub marks_by : (Receiver → ℕ → ℕ → Receiver) → Receiver → Effect → Receiver
marks_by marks r (marking slot n) = marks r slot n
marks_by marks r stay = r
marks_by marks r (turning iv) = change r (turning iv)
marks_by marks r dropping = change r dropping

abbrev pub by_mark : (Receiver → ℕ → ℕ → Receiver) → Receives
by_mark marks = by_change (marks_by marks)

-- a Settle that forgets to mark
unfoldable pub forgets_to_mark : Receiver → ℕ → ℕ → Receiver
forgets_to_mark r slot n = r

-- one that marks the first number only
unfoldable pub marks_first : Receiver → ℕ → ℕ → Receiver
marks_first r slot n = cond (eqb r.current.window.next 0) (change r (marking slot n)) r

-- with another word when the current key's window moves to n
abbrev pub moves_to : ℕ → Receiver → ℕ → ℕ → Receiver
moves_to word r slot n =
    cond (leb r.current.window.next n)
    (record { setting = r.setting; count = r.count; current = record { iv = r.current.iv; window = window_of (n + 1) word }; held = r.held; old = r.old })
    (change r (marking slot n))

-- the window is cleared when it moves
unfoldable pub clears_window : Receiver → ℕ → ℕ → Receiver
clears_window r slot n = moves_to 1 r slot n

-- a move by the word's width and more goes round
unfoldable pub moves_round : Receiver → ℕ → ℕ → Receiver
moves_round r slot n =
    let w = r.current.window in
    moves_to (set_bit (word_of w.marks * 2 ^ ((n + 1 - w.next) % 64) % 2 ^ 64) 0) r slot n

-- ---- wrong looks

-- right but for the look
abbrev pub by_look : (Receiver → View) → Receives
by_look looks = record { looks = looks; decides = outcome; changes = change }

-- the view, but for the faces of the keys
abbrev pub faced : View → Face → Face → View
faced v current old = record { setting = v.setting; bad = v.bad; count = v.count; current = current; held = v.held; old = old }

-- it sees the current key in both slots
unfoldable pub sees_one_key : Receiver → View
sees_one_key r = faced (look r) (look r).current (look r).current

-- it sees no marks
unfoldable pub sees_no_marks : Receiver → View
sees_no_marks r = faced (look r) (unmarked (look r).current) (unmarked (look r).old)
  where
    unmarked : Face → Face
    unmarked f = record { iv = f.iv; next = f.next; seen = λ n. false }

-- ---- each with its run

-- those that mark a number twice, each with a run on which it does
abbrev pub mark_twice : List (Receives × List Call)
mark_twice =
    (by_table ageless, taking 0 0 100 ∷ taking 0 0 30 ∷ taking 0 0 30 ∷ [])
    ∷ (by_mark forgets_to_mark, taking 0 0 0 ∷ taking 0 0 0 ∷ [])
    ∷ (by_mark marks_first, taking 0 0 0 ∷ taking 0 0 1 ∷ taking 0 0 1 ∷ [])
    ∷ (by_mark clears_window, taking 0 0 0 ∷ taking 0 0 1 ∷ taking 0 0 0 ∷ [])
    ∷ (by_look sees_one_key, taking 0 0 0 ∷ change_key iv ∷ taking 1 0 0 ∷ [])
    ∷ (by_look sees_no_marks, taking 0 0 0 ∷ taking 0 0 0 ∷ [])
    ∷ []

-- and all of them, each with a run on which it answers what the plain receiver does not
abbrev pub wrong_receivers : List (Receives × List Call)
wrong_receivers =
    (by_table refuses_all, offer (rec 0) 0 ∷ [])
    ∷ (by_table number_zero, taking 0 0 0 ∷ offer (rec 1) 0 ∷ [])
    ∷ (by_table made_up_gaps, taking 0 0 1 ∷ gaps 0 ∷ [])
    ∷ (by_table marks_at_offer, offer (rec 0) 0 ∷ offer (rec 0) 0 ∷ [])
    ∷ (by_table marks_on_no, settle (rec 0) 0 0 0 false [] ∷ offer (rec 0) 0 ∷ [])
    ∷ (by_table ignores_stale, settle (rec 1) 0 0 0 true [] ∷ [])
    ∷ (by_mark moves_round, taking 0 0 0 ∷ taking 0 0 70 ∷ taking 0 0 64 ∷ [])
    ∷ (by_change one_window, taking 0 0 0 ∷ change_key iv ∷ taking 0 1 0 ∷ [])
    ∷ mark_twice
