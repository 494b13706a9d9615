-- Demand 2, the frame: a record of Build's bytes, a sealed text of the same length and as many bytes as a MAC has passes the checks of a
-- receiver that is set the same, and its ends are Build's.
-- Assumes nothing.
use Prim.Native.Nat.{ℕ, ◌+◌, ◌-◌, ◌≤◌}
use mathlib.Core.Path.{◌≡◌, sym, ap, ◌∙◌}
use mathlib.Core.List.{List, ◌++◌, append_assoc}
use native.Mathlib.Omega.{arith}
use lib.ListN.{length, take, drop, length-append}
use lib.Seq.{take-add, take_at, drop_at}
use Rattle.answers.specs.Table.{first}
use Rattle.channel.specs.Sender.{build_out}
use Rattle.channel.specs.declared.ffi.Built.{Built}
use Rattle.channel.specs.declared.sender.Sender.{Sender}
use Rattle.record.specs.Header.{head_of}
use Rattle.record.specs.Read.{record_rows}
use Rattle.record.specs.Shape.{mac_len, text_end, assoc_end}
use Rattle.record.specs.Write.{length_for, text_end_for, assoc_end_for, total_for}
use Rattle.record.specs.declared.setting.Setting.{Setting}
use Rattle.record.proofs.Fronts.{ends_ordered, clear_for, assoc_for, assoc_length, rest_length}
use Rattle.record.proofs.Passes.{least_built, record_length, record_passes}
use Rattle.record.proofs.Sizes.{same_text, same_assoc}
use Rattle.promises.specs.Premises.{CanBuild}
use Rattle.promises.specs.ReadBack.{built_of, plain, wire}
use Rattle.promises.proofs.Builds.{build_passes, build_answers, buffer_assoc}

-- with Build's own text in the text's place, the record is Build's buffer up to the end of the text, and the MAC
pub wire_own : (s : Sender) (app random out mac : List ℕ) → CanBuild s app random out
    → wire s app random out (plain s app random out) mac ≡ take (built_of s app random out).text (build_out s app random out) ++ mac
wire_own s app random out mac B =
    let b = built_of s app random out in
    let x = build_out s app random out in
    let o : b.assoc ≤ b.text = rw (build_answers s app random out B) (ends_ordered s.setting (length app) (length random)) in
    let z : b.assoc + (b.text - b.assoc) ≡ b.text = omega arith in
    sym (append_assoc (take b.assoc x) (take (b.text - b.assoc) (drop b.assoc x)) mac)
    ∙ ap (λ (y : List ℕ). y ++ mac) (sym (take-add b.assoc (b.text - b.assoc) x) ∙ ap (λ (k : ℕ). take k x) z)

module _ (s : Sender) (app random out sealed mac : List ℕ) (B : CanBuild s app random out)
    (hc : length sealed ≡ (built_of s app random out).text - (built_of s app random out).assoc) (hm : length mac ≡ mac_len s.setting) where
  abbrev t : Setting
  t = s.setting

  abbrev len : ℕ
  len = length_for t (length app) (length random)

  abbrev rest : List ℕ
  rest = clear_for t app ++ (sealed ++ mac)

  -- it is the associated data that was built, the sealed text and the MAC
  pub wire_parts : wire s app random out sealed mac ≡ assoc_for t s.next app random ++ (sealed ++ mac)
  wire_parts = rw (build_answers s app random out B) (ap (λ (x : List ℕ). x ++ (sealed ++ mac)) (buffer_assoc s app random out (build_passes s app random out B)))

  -- so it is a header and what is behind it,
  pub wire_head : wire s app random out sealed mac ≡ head_of t s.next len ++ rest
  wire_head = wire_parts ∙ append_assoc (head_of t s.next len) (clear_for t app) (sealed ++ mac)

  -- as many bytes as the Length says
  pub wire_rest : length rest ≡ len
  wire_rest = rest_length t app random sealed mac (rw (build_answers s app random out B) at hc) hm

  -- the frame passes
  pub frame_passes : first (record_rows t (wire s app random out sealed mac)) ≡ 0
  frame_passes = rw wire_head (record_passes t s.next len rest wire_rest B.declared.session B.size (least_built t (length app) (length random)))

  -- ---- its length and its ends

  pub wire_length : length (wire s app random out sealed mac) ≡ total_for t (length app) (length random)
  wire_length = ap length wire_head ∙ record_length t s.next len rest wire_rest ∙ omega arith

  -- it is as long as Build says
  pub wire_total : length (wire s app random out sealed mac) ≡ (built_of s app random out).total
  wire_total = wire_length ∙ ap (λ (b : Built). b.total) (sym (build_answers s app random out B))

  -- the reader's ends are the writer's
  pub wire_text_end : text_end t (wire s app random out sealed mac) ≡ text_end_for t (length app) (length random)
  wire_text_end = same_text t (length app) (length random) (wire s app random out sealed mac) wire_length

  pub wire_assoc_end : assoc_end t (wire s app random out sealed mac) ≡ assoc_end_for t (length app) (length random)
  wire_assoc_end = same_assoc t (length app) (length random) (wire s app random out sealed mac) wire_length

  -- the reader's associated data is what was built
  pub wire_assoc : take (assoc_end t (wire s app random out sealed mac)) (wire s app random out sealed mac) ≡ assoc_for t s.next app random
  wire_assoc =
      rw wire_assoc_end
      (ap (λ (x : List ℕ). take (assoc_end_for t (length app) (length random)) x) wire_parts
      ∙ take_at (assoc_for t s.next app random) (sealed ++ mac) _ (assoc_length t s.next app random))

  -- the MAC stands last, where the text ends
  pub wire_mac : drop (built_of s app random out).text (wire s app random out sealed mac) ≡ mac
  wire_mac =
      let front : List ℕ = assoc_for t s.next app random ++ sealed in
      let e : wire s app random out sealed mac ≡ front ++ mac =
      wire_parts ∙ sym (append_assoc (assoc_for t s.next app random) sealed mac) in
      let l : length front ≡ text_end_for t (length app) (length random) =
      omega (arith, wire_length, ap length e, length-append front mac) in
      ap (λ (b : Built). drop b.text (wire s app random out sealed mac)) (build_answers s app random out B)
      ∙ ap (λ (x : List ℕ). drop (text_end_for t (length app) (length random)) x) e ∙ drop_at front mac _ l
