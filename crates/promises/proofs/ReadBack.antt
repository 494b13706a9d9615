-- Demand 2: what our sender builds and the cipher seals, our receiver reads back as the same application data.
-- Assumes nothing.
use Prim.Native.Nat.{ℕ, ◌-◌}
use mathlib.Core.Path.{◌≡◌, ap, ◌∙◌}
use mathlib.Core.List.{List, []}
use lib.ListN.{length}
use Rattle.channel.specs.Call.{Answer}
use Rattle.channel.specs.declared.receiver.Receiver.{Receiver}
use Rattle.channel.specs.declared.ffi.Built.{Built}
use Rattle.channel.specs.declared.sender.Sender.{Sender}
use Rattle.record.specs.Shape.{mac_len}
use Rattle.record.proofs.Modes.{clear_mode}
use Rattle.record.proofs.Fronts.{text_clear}
use Rattle.promises.specs.Premises.{CanBuild, CanTake}
use Rattle.promises.specs.ReadBack.{built_of, plain, ReadBack}
use Rattle.promises.proofs.Builds.{build_answers}
use Rattle.promises.proofs.FramePasses.{wire_total, wire_mac}
use Rattle.promises.proofs.Settles.{plain_is, offer_answers, settle_answers, settle_shows}

-- in mode 0 Build's text is empty
pub no_text : (s : Sender) (app random out : List ℕ) → CanBuild s app random out → s.setting.mode ≡ 0 → plain s app random out ≡ []
no_text s app random out B m = plain_is s app random out B ∙ text_clear s.setting app random (clear_mode s.setting m)

-- the sender builds, any text of the text's length and any bytes of the MAC's length go over the wire, and the receiver reads it back
pub read_back : (s : Sender) (app random out sealed mac : List ℕ) (r : Receiver) (slot : ℕ)
    → CanBuild s app random out → CanTake r slot s
    → length sealed ≡ (built_of s app random out).text - (built_of s app random out).assoc → length mac ≡ mac_len s.setting
    → ReadBack s app random out sealed mac r slot
read_back s app random out sealed mac r slot B R hc hm =
    let b = build_answers s app random out B in
    let o = offer_answers s app random out sealed mac B hc hm r slot R in
    record {
      builds = ap (λ (x : Built). x.answer) b;
      number = ap (λ (x : Built). x.number) b;
      total = wire_total s app random out sealed mac B hc hm;
      mac_last = wire_mac s app random out sealed mac B hc hm;
      offered = o;
      no_text = no_text s app random out B;
      settled_it = rw o (ap (λ (a : Answer). a.code) (settle_answers s app random out sealed mac B hc hm r slot R));
      shown = rw o (settle_shows s app random out sealed mac B hc hm r slot R);
    }
