-- What was sent, as Build left it in its buffer, and what a Settle shows of a record with that associated data and text.
-- Assumes nothing.
use Prim.Native.Nat.{ℕ, ◌≤◌}
use mathlib.Core.Path.{◌≡◌, sym, ◌∙◌}
use mathlib.Core.Bool.{false}
use mathlib.Core.List.{List}
use lib.ListN.{length}
use borrow.Author.Tests.{ltb-false}
use Rattle.answers.proofs.Table.{row_passed}
use Rattle.answers.specs.Refusal as Refusal
use Rattle.answers.specs.Table.{first}
use Rattle.channel.specs.Sender.{sender_rows, build_rows, built, build_out}
use Rattle.channel.specs.declared.sender.Sender.{Sender}
use Rattle.record.specs.Setting.{bad_setting}
use Rattle.record.specs.Shape.{most_length, data_place, data_len}
use Rattle.record.specs.View.{view_of}
use Rattle.record.specs.Write.{length_for, form_rows, room_rows}
use Rattle.record.specs.declared.setting.Setting.{Setting}
use Rattle.record.proofs.Fronts.{text_for, assoc_for}
use Rattle.record.proofs.Shown.{view_built}
use Rattle.promises.specs.World.{Sent, sent_of, assoc_of}
use Rattle.promises.proofs.Builds.{buffer_assoc, buffer_text}

-- a record that was built: with some random bytes, its associated data and its text are those of its number and data
pub record Made (s : Setting) (b : Sent) : Type 0 where
  pub random : List ℕ
  pub fits : length_for s (length b.item.app) (length random) ≤ most_length s
  pub assoc : b.assoc ≡ assoc_for s b.item.number b.item.app random
  pub text : b.text ≡ text_for s b.item.app random

-- a Build that refuses nothing makes one
pub made_build : (s : Sender) (app random out : List ℕ) → first (build_rows s (length app) (length random) (length out)) ≡ 0
    → Made s.setting (sent_of s app (built s (length app) (length random)) (build_out s app random out))
unfolding sent_of build_rows sender_rows form_rows room_rows
made_build s app random out e =
    record {
      random = random;
      fits = ltb-false _ _ (row_passed Refusal.size (build_rows s (length app) (length random) (length out)) tt e);
      assoc = buffer_assoc s app random out e;
      text = buffer_text s app random out e;
    }

-- of a record with its associated data, and with its text, the view is its data
pub shown : (s : Setting) (b : Sent) (r plain : List ℕ) → bad_setting s ≡ false → Made s b → b.assoc ≡ assoc_of s r
    → plain ≡ b.text → view_of s.mode (data_place s r) (data_len s r plain) r plain ≡ b.item.app
shown s b r plain g M a t =
    rw (t ∙ M.text) (view_built s b.item.number r b.item.app M.random g M.fits (sym a ∙ M.assoc))
