use Rattle.std.proofs.Common.{rules, ◌≡◌, Ok, Err}
use Rattle.channel.proofs.Look.{key_some, key_none}
use Rattle.channel.proofs.Calls.{slot_bad, slot_none, slot_ok, gaps_no, gaps_ok}
use native.Mathlib.Omega.{arith}
use mathlib.Core.Path.{sym, ◌∙◌}
use Rattle.channel.proofs.receiver.Receiver.gaps.Goals as goal

pub returns-then-is_bad : goal.returns-then-is_bad
returns-then-is_bad c = gaps_no _ _ 1 (slot_bad _ _ (sym c.is_bad.ensures ∙ c.if-is_bad.true)) (λ z. omega arith)

pub returns-in_err-key : goal.returns-in_err-key
returns-in_err-key c =
    let why = c.in_err-key.field-0.0 in
    let none : c.key_at.result ≡ Err why = search rules in
    let up : c.from_residual.result ≡ Err why = search rules in
    let k = key_none _ _ (sym c.key_at.ensures ∙ none) in
    rw (up, k.1) (gaps_no _ _ 3 (slot_none _ _ (sym c.is_bad.ensures ∙ c.if-is_bad.false) k.0) (λ z. omega arith))

pub returns : goal.returns
returns c =
    let there : c.key_at.result ≡ Ok c.in_ok-key.key = search rules in
    let k = key_some _ _ (sym c.key_at.ensures ∙ there) in
    rw (c.gaps.ensures, k.1, c.rule.ensures) (gaps_ok _ _ (slot_ok _ _ (sym c.is_bad.ensures ∙ c.if-is_bad.false) k.0))
