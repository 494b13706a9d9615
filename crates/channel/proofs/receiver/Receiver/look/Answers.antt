use Rattle.std.proofs.Common.{rules, ◌≡◌, Ok, Err}
use Rattle.answers.proofs.Answer.{number_some}
use Rattle.channel.proofs.Look.{key_some, key_none, look_bad, look_none, look_read, look_place, look_ok}
use mathlib.Core.Path.{refl, sym, ◌∙◌}
use Rattle.channel.proofs.receiver.Receiver.look.Goals as goal

pub returns-then-is_bad : goal.returns-then-is_bad
returns-then-is_bad c = look_bad _ _ _ (sym c.is_bad.ensures ∙ c.if-is_bad.true)

pub returns-in_err-key : goal.returns-in_err-key
returns-in_err-key c =
    let why = c.in_err-key.field-0.0 in
    let none : c.key_at.result ≡ Err why = search rules in
    let up : c.from_residual.result ≡ Err why = search rules in
    let k = key_none _ _ (sym c.key_at.ensures ∙ none) in
    rw (up, k.1) (look_none _ _ _ (sym c.is_bad.ensures ∙ c.if-is_bad.false) k.0)

pub returns-in_err-read : goal.returns-in_err-read
returns-in_err-read c =
    let why = c.in_err-read.field-0.0 in
    let there : c.key_at.result ≡ Ok c.in_ok-key.key = search rules in
    let k = key_some _ _ (sym c.key_at.ensures ∙ there) in
    let read : c.read.result ≡ Err why = search rules in
    let up : c.from_residual-in_err-read.result ≡ Err why = search rules in
    rw up (look_read _ _ _ (sym c.is_bad.ensures ∙ c.if-is_bad.false) k.0 _ (rw read at c.read.ensures) (number_some why))

pub returns-in_err-number : goal.returns-in_err-number
returns-in_err-number c =
    let why = c.in_err-number.field-0.0 in
    let there : c.key_at.result ≡ Ok c.in_ok-key.key = search rules in
    let k = key_some _ _ (sym c.key_at.ensures ∙ there) in
    let read : c.read.result ≡ Ok c.in_ok-read.read = search rules in
    let place : c.place.result ≡ Err why = search rules in
    let up : c.from_residual-in_err-number.result ≡ Err why = search rules in
    rw up
    (look_place _ _ _ (sym c.is_bad.ensures ∙ c.if-is_bad.false) k.0 _ (rw read at c.read.ensures) refl _
    (rw (place, k.1) at c.place.ensures) (number_some why))

pub returns : goal.returns
returns c =
    let there : c.key_at.result ≡ Ok c.in_ok-key.key = search rules in
    let k = key_some _ _ (sym c.key_at.ensures ∙ there) in
    let read : c.read.result ≡ Ok c.in_ok-read.read = search rules in
    let place : c.place.result ≡ Ok c.in_ok-number.number = search rules in
    look_ok _ _ _ (sym c.is_bad.ensures ∙ c.if-is_bad.false) k.0 _ (rw read at c.read.ensures) refl _
    (rw (place, k.1) at c.place.ensures) k.1 refl
