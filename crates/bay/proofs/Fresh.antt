-- New keys: what is assumed for the bay gives what T4 assumes of a channel.
-- Assumes nothing.
use Prim.Native.Nat.{ℕ}
use mathlib.Core.Logic.{inl, inr, ◌≢◌}
use mathlib.Core.Bool.{Bool}
use mathlib.Core.List.{List, Memᴰ}
use Rattle.channel.specs.Call.{Call, offer, settle, gaps, change_key, drop_old}
use Rattle.promises.specs.World.{World, Cipher, Honest, HonestCall}
use Rattle.bay.specs.Peer.{Foreign, HonestIn, HonestCallIn}

module _ {K : Type 0} (C : Cipher K) (sendKey receiveKey : ℕ → K) (others : List (Foreign K)) where
  -- the cipher's yes is to a record of this channel, for the key is used by no other
  honest_settle : (w : World) (r : List ℕ) (count number : ℕ) (passed : Bool) (plain : List ℕ)
      → HonestIn C sendKey receiveKey others w r count number passed plain → Honest C sendKey receiveKey w r count number passed plain
  honest_settle w r count number passed plain H =
      record {
        alike = H.bay.alike;
        no_reuse = H.bay.no_reuse;
        own = H.bay.own;
        genuine = λ y. elim (H.bay.genuine y) [ inl b ↦ b | inr e ↦ absurd (H.fresh e.one e.there e.under_key) ];
      }

  pub honest_call : (w : World) (c : Call) → HonestCallIn C sendKey receiveKey others w c → HonestCall C sendKey receiveKey w c
  honest_call w (offer r slot) H = tt
  honest_call w (settle r slot count number passed plain) H = honest_settle w r count number passed plain H
  honest_call w (gaps slot) H = tt
  honest_call w (change_key iv) H = tt
  honest_call w drop_old H = tt

  -- and what holds of a channel alone holds in a bay whose other channels have other keys
  pub honest_in : ((x : Foreign K) → Memᴰ x others → (c : ℕ) → x.key ≢ receiveKey c)
      → (w : World) (c : Call) → HonestCall C sendKey receiveKey w c → HonestCallIn C sendKey receiveKey others w c
  honest_in f w (offer r slot) H = tt
  honest_in f w (settle r slot count number passed plain) H =
      record {
        bay = record { alike = H.alike; no_reuse = H.no_reuse; own = H.own; genuine = λ y. inl (H.genuine y) };
        fresh = λ x m. f x m count;
      }
  honest_in f w (gaps slot) H = tt
  honest_in f w (change_key iv) H = tt
  honest_in f w drop_old H = tt
