use Prim.Native.Nat.{ℕ}
use mathlib.Core.List.{List}
use mathlib.Core.Path.{ap, ◌∙◌}
use lib.Bits.{bit_xor}
use lib.ListN.{get_or}
use mir.Syntax.{w8}
use mir.Val.{Fits}
use Rattle.octets.specs.Fields.{field, little}
use Rattle.octets.proofs.Xor.{xor_field}
use Rattle.record.proofs.Distinct.{masked, each_same}
use borrow.Author.Rules.{rules}
use Rattle.record.proofs.nonces.masked.Goals as goal

pub returns : goal.returns
returns c =
    let b : List ℕ = c.args.b in
    let n : ℕ = c.args.number in
    let x : List ℕ = little 8 (bit_xor (field b 0 8) n) in
    let typed : (i : ℕ) → Fits w8 (get_or b i 0) = λ i. search rules in
    c.bytes_of.ensures ∙ ap (λ (w : ℕ). little 8 (bit_xor w n)) c.word_of.ensures
    ∙ each_same (λ i. get_or x i 0) (masked b (little 8 n)) 0 8 (λ i h. xor_field b (λ j. (typed j).fits) 8 n i h)
