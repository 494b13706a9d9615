-- A row: a receiver and a sender, and the words that they lie in.
-- Assumes nothing.
use Rattle.std.specs.Prelude.{ℕ, Bool, not, ◌&&◌, List, ◌∷◌, ◌++◌, get_or, take, drop}
use Rattle.answers.specs.Table.{differ}
use Rattle.channel.specs.Receiver.{zero_receiver, is_zero_receiver}
use Rattle.channel.specs.Sender.{zero_sender, is_zero_sender}
use Rattle.channel.specs.declared.receiver.Receiver.{Receiver}
use Rattle.channel.specs.declared.sender.Sender.{Sender}
use Rattle.rows.specs.Part.{setting_of, count_of, iv_of, four_at, key_of, held_of, setting_words, iv_words, key_words, held_word}

-- ---- the two ends of a row

pub record Ends : Type 0 where
  pub receiver : Receiver
  pub sender : Sender

-- a free row is all zeros
abbrev pub free_ends : Ends
free_ends = record { receiver = zero_receiver; sender = zero_sender }

unfoldable pub is_free : Ends → Bool
is_free e = is_zero_receiver e.receiver && is_zero_sender e.sender

-- a row that is not all zeros is open
abbrev pub is_open : Ends → Bool
is_open e = not (is_free e)

-- its Session ID
abbrev pub id_of : Ends → ℕ
id_of e = e.receiver.setting.session

-- its two have different Session IDs
unfoldable pub is_split : Ends → Bool
is_split e = differ e.receiver.setting.session e.sender.setting.session

abbrev pub with_receiver : Ends → Receiver → Ends
with_receiver e r = record { receiver = r; sender = e.sender }

abbrev pub with_sender : Ends → Sender → Ends
with_sender e s = record { receiver = e.receiver; sender = s }

-- ---- read from its words

-- how many words it has
abbrev pub row_words : ℕ
row_words = 26

-- how many of them are the receiver's; the others are the sender's
abbrev pub receiver_part : ℕ
receiver_part = 19

unfoldable pub receiver_of : List ℕ → Receiver
receiver_of w =
    let at : ℕ → ℕ = λ k. get_or w k 0 in
    record {
      setting = setting_of (at 0) (at 1) (at 2);
      count = count_of (at 3);
      current = key_of (at 4) (at 5) (at 6) (four_at w 7);
      held = held_of (at 11);
      old = key_of (at 12) (at 13) (at 14) (four_at w 15);
    }

unfoldable pub sender_of : List ℕ → Sender
sender_of w =
    let at : ℕ → ℕ = λ k. get_or w k 0 in
    record {
      setting = setting_of (at 19) (at 20) (at 21);
      count = count_of (at 22);
      next = at 23;
      iv = iv_of (at 24) (at 25);
    }

abbrev pub ends_of : List ℕ → Ends
ends_of w = record { receiver = receiver_of w; sender = sender_of w }

-- ---- written to its words

unfoldable pub receiver_words : Receiver → List ℕ
receiver_words r =
    setting_words r.setting ++ (r.count ∷ (key_words r.current ++ (held_word r.held ∷ key_words r.old)))

unfoldable pub sender_words : Sender → List ℕ
sender_words s = setting_words s.setting ++ (s.count ∷ s.next ∷ iv_words s.iv)

abbrev pub put_receiver : List ℕ → Receiver → List ℕ
put_receiver w r = receiver_words r ++ drop receiver_part w

abbrev pub put_sender : List ℕ → Sender → List ℕ
put_sender w s = take receiver_part w ++ sender_words s
