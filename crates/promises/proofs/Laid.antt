-- Demand 2, the layout: what Build leaves in its buffer is page 01's table, offset by offset.
-- Assumes nothing.
use Prim.Native.Nat.{ℕ, ◌+◌}
use mathlib.Core.Path.{◌≡◌, ap, ◌∙◌}
use mathlib.Core.List.{List}
use mathlib.Core.Logic.{inl}
use native.Mathlib.Omega.{arith}
use lib.ListN.{length, drop}
use Rattle.channel.specs.Sender.{build_out}
use Rattle.channel.specs.declared.ffi.Built.{Built}
use Rattle.channel.specs.declared.sender.Sender.{Sender}
use Rattle.octets.specs.Fields.{field}
use Rattle.record.specs.Header.{length_at}
use Rattle.record.specs.Shape.{head_len}
use Rattle.record.specs.Write.{length_for, front_of}
use Rattle.record.specs.declared.setting.Setting.{Setting}
use Rattle.record.proofs.Modes.{clear_mode, sealed_mode}
use Rattle.record.proofs.Offsets.{session_row, low_row, length_row, inner_row, data_clear_row, data_sealed_row, random_row}
use Rattle.record.proofs.Page.{values}
use Rattle.promises.specs.Laid.{Laid}
use Rattle.promises.specs.Premises.{CanBuild}
use Rattle.promises.specs.ReadBack.{built_of}
use Rattle.promises.proofs.Words.{page_numbers}
use Rattle.promises.proofs.Builds.{build_passes, build_answers, buffer_is, unwritten}

module _ (s : Sender) (app random out : List ℕ) (B : CanBuild s app random out) where
  abbrev t : Setting
  t = s.setting

  text_clear : t.mode ≡ 0 → (built_of s app random out).text ≡ head_len t + length app
  text_clear m =
      let v = values t in
      ap (λ (b : Built). b.text) (build_answers s app random out B) ∙ omega (arith, v.clear (clear_mode t m) (length app) (length random))

  text_sealed : t.mode ≡ 1 → (built_of s app random out).text ≡ head_len t + 2 + length app + length random
  text_sealed m =
      let v = values t in
      ap (λ (b : Built). b.text) (build_answers s app random out B) ∙ omega (arith, v.sealed (sealed_mode t m) (length app) (length random))

  -- page 01's table holds of Build's buffer at exit
  pub laid : Laid t s.next app random out (build_out s app random out)
  laid =
      let v = values t in
      let n = page_numbers t (λ x. B.state (inl x)) in
      let x = build_out s app random out in
      let y = drop (length (front_of t s.next app random)) out in
      let e = buffer_is s app random out (build_passes s app random out B) in
      let len : field x (length_at t) 2 ≡ length_for t (length app) (length random) = length_row t s.next app random x y e B.size in
      record {
        session = session_row t s.next app random x y e B.declared.session;
        low = low_row t s.next app random x y e;
        len_clear = λ m. len ∙ n.clear m (length app) (length random);
        len_sealed = λ m. len ∙ n.sealed m (length app) (length random);
        inner = λ m. rw v.inner at (inner_row t s.next app random x y e (sealed_mode t m) B.size);
        data_clear = λ m. data_clear_row t s.next app random x y e (clear_mode t m);
        data_sealed = λ m. rw v.inner at (data_sealed_row t s.next app random x y e (sealed_mode t m));
        random_next = λ m. rw v.inner at (random_row t s.next app random x y e (sealed_mode t m));
        unwritten_clear = λ m. rw (text_clear m) at (unwritten s app random out);
        unwritten_sealed = λ m. rw (text_sealed m) at (unwritten s app random out);
      }
