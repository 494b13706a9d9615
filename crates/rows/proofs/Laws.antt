-- A row that is all zeros is free, a row in use is told by its limit, and a row keeps its length.
-- Assumes nothing.
use Prim.Native.Nat.{ℕ}
use mathlib.Core.Bool.{true, false, and-false}
use mathlib.Core.List.{List}
use mathlib.Core.Path.{◌≡◌, refl}
use native.Mathlib.Omega.{arith}
use lib.Dec.{eqb}
use lib.ListN.{length, get_or, replicate, length-append, length-take, length-drop}
use mir.Syntax.{w64}
use mir.Val.{Fits}
use Rattle.octets.specs.Fields.{blank}
use Rattle.numbers.proofs.Computing.{word_open}
use Rattle.numbers.proofs.Word.{typed_four}
use Rattle.numbers.specs.Contract.{window_of, is_empty}
use Rattle.record.specs.Setting.{same_setting, is_zero_setting}
use Rattle.channel.specs.declared.receiver.Receiver.{Receiver}
use Rattle.channel.specs.declared.sender.Sender.{Sender}
use Rattle.channel.specs.Key.{is_zero_key}
use Rattle.channel.specs.Receiver.{zero_receiver, is_zero_receiver}
use Rattle.channel.specs.Sender.{zero_sender, is_zero_sender}
use Rattle.channel.proofs.Zeros.{same_receiver, same_sender, receiver_test, sender_test}
use Rattle.rows.specs.Part.{iv_of}
use Rattle.rows.specs.Ends.{Ends, free_ends, is_free, row_words, receiver_part, receiver_of, sender_of, ends_of, receiver_words, sender_words, put_receiver, put_sender}

pub zeros_free : ends_of (replicate row_words 0) ≡ free_ends
unfolding receiver_of sender_of iv_of window_of word_open
zeros_free = refl

pub free_told : is_free free_ends ≡ true
unfolding is_free is_zero_receiver is_zero_sender is_zero_setting same_setting is_zero_key is_empty window_of word_open blank
free_told = refl

-- a receiver with a limit is not all zeros
pub limit_not_free : (e : Ends) → eqb e.receiver.setting.limit 0 ≡ false → is_free e ≡ false
unfolding is_free is_zero_receiver is_zero_setting same_setting
limit_not_free e h = rw (h, and-false)

-- ---- `==` at the zeros tells whether it is free

module _ (w : List ℕ) (f : (j : ℕ) → Fits w64 (get_or w j 0)) where
  pub receiver_blank : {r z : Receiver} → r ≡ receiver_of w → z ≡ zero_receiver → same_receiver r z ≡ is_zero_receiver (receiver_of w)
  unfolding receiver_of iv_of
  receiver_blank e h =
      rw e (receiver_test (receiver_of w)
      (record { iv = refl; marks = typed_four (f 7) (f 8) (f 9) (f 10) })
      (record { iv = refl; marks = typed_four (f 15) (f 16) (f 17) (f 18) })
      h)

  pub sender_blank : {s z : Sender} → s ≡ sender_of w → z ≡ zero_sender → same_sender s z ≡ is_zero_sender (sender_of w)
  unfolding sender_of iv_of
  sender_blank e h = rw e (sender_test (sender_of w) refl h)

-- ---- lengths

pub receiver_length : (r : Receiver) → length (receiver_words r) ≡ receiver_part
unfolding receiver_words
receiver_length r = refl

pub sender_length : (s : Sender) → length (sender_words s) ≡ 7
unfolding sender_words
sender_length s = refl

pub put_receiver_length : (w : List ℕ) (r : Receiver) → length w ≡ row_words → length (put_receiver w r) ≡ row_words
put_receiver_length w r h = simp (length-append, length-drop, receiver_length) (omega arith)

pub put_sender_length : (w : List ℕ) (s : Sender) → length w ≡ row_words → length (put_sender w s) ≡ row_words
put_sender_length w s h = simp (length-append, length-take, sender_length) (omega arith)
