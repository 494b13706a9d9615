-- Two answers that a contract of this crate allows are one.
-- Assumes nothing.
use mathlib.Core.Path.{◌≡◌, ap}
use Rattle.std.specs.Prelude.{Result}
use Rattle.answers.specs.declared.refusal.Refusal.{Refusal}
use Rattle.answers.proofs.Answer.{answer_once}
use Rattle.answers.proofs.OneAnswer.{OneAnswer, one}
use Rattle.numbers.proofs.OneAnswer.{placed_once}
use Rattle.record.specs.declared.reader.Record.{Record}
use Rattle.record.specs.declared.writer.Form.{Form}
use Rattle.record.specs.Read.{Reading}
use Rattle.record.specs.Write.{Formed}
use Rattle.record.specs.Told.{as_reading, as_formed}
use Rattle.record.proofs.setting.Setting.zeros.Reads as zeros
use Rattle.record.proofs.setting.Setting.auth_only.Reads as auth-only
use Rattle.record.proofs.setting.Setting.number_first.Reads as number-first
use Rattle.record.proofs.setting.Setting.has_partial.Reads as has-partial
use Rattle.record.proofs.setting.Setting.is_bad.Reads as is-bad
use Rattle.record.proofs.setting.Setting.rule.Reads as rule
use Rattle.record.proofs.nonces.nonce.Reads as nonce
use Rattle.record.proofs.incoming.Incoming.read.Reads as read
use Rattle.record.proofs.incoming.Incoming.place.Reads as place
use Rattle.record.proofs.incoming.Incoming.data_len.Reads as data-len
use Rattle.record.proofs.incoming.Incoming.inner_bad.Reads as inner-bad
use Rattle.record.proofs.views.view.Reads as view
use Rattle.record.proofs.writer.Form.plan.Reads as plan
use Rattle.record.proofs.writer.write.Reads as write

-- results that are the same numbers are one
reading_once : (x y : Result Record Refusal) → as_reading x ≡ as_reading y → x ≡ y
reading_once x y e =
    answer_once _ x y (ap (λ (r : Reading). r.answer) e)
    (ap (λ (r : Reading). record { assoc = r.assoc; text = r.text; plain = r.plain; place = r.place }) e)

pub formed_once : (x y : Result Form Refusal) → as_formed x ≡ as_formed y → x ≡ y
formed_once x y e =
    answer_once _ x y (ap (λ (f : Formed). f.answer) e) (ap (λ (f : Formed). record { assoc = f.assoc; text = f.text; total = f.total }) e)

pub zeros_one : OneAnswer zeros.Post (λ κs x s. x)
zeros_one κs a x y s t p q = one p q

pub auth_only_one : OneAnswer auth-only.Post (λ κs x s. x)
auth_only_one κs a x y s t p q = one p q

pub number_first_one : OneAnswer number-first.Post (λ κs x s. x)
number_first_one κs a x y s t p q = one p q

pub has_partial_one : OneAnswer has-partial.Post (λ κs x s. x)
has_partial_one κs a x y s t p q = one p q

pub is_bad_one : OneAnswer is-bad.Post (λ κs x s. x)
is_bad_one κs a x y s t p q = one p q

pub rule_one : OneAnswer rule.Post (λ κs x s. x)
rule_one κs a x y s t p q = one p q

pub nonce_one : OneAnswer nonce.Post (λ κs x s. x)
nonce_one κs a x y s t p q = one p q

pub read_one : OneAnswer read.Post (λ κs x s. x)
read_one κs a x y s t p q = reading_once x y (one p q)

pub place_one : OneAnswer place.Post (λ κs x s. x)
place_one κs a x y s t p q = placed_once x y (one p q)

pub data_len_one : OneAnswer data-len.Post (λ κs x s. x)
data_len_one κs a x y s t p q = one p q

pub inner_bad_one : OneAnswer inner-bad.Post (λ κs x s. x)
inner_bad_one κs a x y s t p q = one p q

-- the bytes of the part
pub view_one : OneAnswer view.Post (λ κs x s. x.now)
view_one κs a x y s t p q = one p q

pub plan_one : OneAnswer plan.Post (λ κs x s. x)
plan_one κs a x y s t p q = formed_once x y (one p q)

-- the answer, and the buffer at exit
pub write_form_one : OneAnswer write.Post (λ κs x s. x)
write_form_one κs a x y s t p q = formed_once x y (one p.0 q.0)

pub write_one : OneAnswer write.Post (λ κs x s. s.1.1.1.1.0.now)
write_one κs a x y s t p q = one p.1 q.1
