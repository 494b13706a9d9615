use Rattle.std.proofs.Common.{rules, ◌≡◌, Ok, Err, Some, None}
use mathlib.Core.Path.{sym, ap, ◌∙◌}
use Rattle.answers.proofs.Answer.{number_some}
use Rattle.answers.specs.declared.refusal.Refusal.TheVariants.{Rows}
use Rattle.channel.specs.Sender.{new_sender}
use Rattle.rows.specs.Ends.{is_free, with_sender, put_receiver, put_sender}
use Rattle.channel.specs.declared.receiver.Receiver.{Receiver}
use Rattle.controller.specs.Table.{has}
use Rattle.controller.specs.Words.{no_words}
use Rattle.controller.proofs.Scanning.{found_told, none_found, lowest_found}
use Rattle.controller.proofs.Entering.{setting_why, receiver_opened, sender_opened, open_clash, open_setting, open_twice, open_full, open_new}
use Rattle.controller.proofs.opening.open.Goals as goal

pub returns-then-clash : goal.returns-then-clash
returns-then-clash c = open_clash _ _ _ _ (sym c.clash.ensures ∙ c.if-clash.true)

pub returns-in_err-receiver : goal.returns-in_err-receiver
returns-in_err-receiver c =
    let a = c.args in
    let why = c.in_err-receiver.field-0.0 in
    let opened : c.open.result ≡ Err why = search rules in
    let up : c.from_residual.result ≡ Err why = search rules in
    let refused = setting_why a.setting a.iv _ (rw opened at c.open.ensures) in
    rw up (open_setting _ _ a.iv a.iw (sym c.clash.ensures ∙ c.if-clash.false) _ refused (number_some why))

pub returns-then-twice : goal.returns-then-twice
returns-then-twice c =
    let a = c.args in
    let opened : c.open.result ≡ Ok c.in_ok-receiver.receiver = search rules in
    let well = setting_why a.setting a.iv _ (rw opened at c.open.ensures) in
    let taken = sym (found_told (has a.setting.session) a.table.now) ∙ rw (← c.find_open.ensures, ← c.is_some-twice.ensures) c.if-twice.true in
    open_twice _ _ a.iv a.iw (sym c.clash.ensures ∙ c.if-clash.false) well taken

pub returns-in_err-free : goal.returns-in_err-free
returns-in_err-free c =
    let a = c.args in
    let opened : c.open.result ≡ Ok c.in_ok-receiver.receiver = search rules in
    let well = setting_why a.setting a.iv _ (rw opened at c.open.ensures) in
    let once = sym (found_told (has a.setting.session) a.table.now) ∙ rw (← c.find_open.ensures, ← c.is_some-twice.ensures) c.if-twice.false in
    let none : c.find_free.result ≡ None = search rules in
    let up : c.from_residual-in_err-free.result ≡ Err Rows = search rules in
    let full = none_found is_free a.table.now (sym c.find_free.ensures ∙ none) in
    rw up (open_full _ _ a.iv a.iw (sym c.clash.ensures ∙ c.if-clash.false) well once full)

pub returns : goal.returns
returns c =
    let a = c.args in
    let opened : c.open.result ≡ Ok c.in_ok-receiver.receiver = search rules in
    let opened_too : c.open-2.result ≡ Ok c.in_ok-sender.sender = search rules in
    let well = setting_why a.setting a.iv _ (rw opened at c.open.ensures) in
    let once = sym (found_told (has a.setting.session) a.table.now) ∙ rw (← c.find_open.ensures, ← c.is_some-twice.ensures) c.if-twice.false in
    let free : c.find_free.result ≡ Some c.in_ok-free.free = search rules in
    let room = lowest_found is_free a.table.now c.in_ok-free.free (sym c.find_free.ensures ∙ free) in
    let receiver = receiver_opened a.setting a.iv _ (rw opened at c.open.ensures) well in
    let sender = sender_opened a.setting a.iw _ (rw opened_too at c.open-2.ensures) well in
    rw c.put_row.ensures
    (open_new _ _ a.iv a.iw (sym c.clash.ensures ∙ c.if-clash.false) well once room.0 c.in_ok-free.free room.1 c.with_sender.result.words
    (c.with_sender.ensures.0 ∙ (λ i. put_sender (c.with_receiver-half.ensures.0 i) (sender i))
    ∙ ap (λ (r : Receiver). put_sender (put_receiver no_words r) (new_sender a.setting a.iw)) receiver)
    (c.with_sender.ensures.1 ∙ (λ i. with_sender (c.with_receiver-half.ensures.1 i) (sender i))
    ∙ ap (λ (r : Receiver). record { receiver = r; sender = new_sender a.setting a.iw }) receiver))
