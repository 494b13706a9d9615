-- T3 bites: each wrong sender fails it, on a closed run, by computation; the right one does not.
-- Assumes nothing.
use Prim.Native.Nat.{ℕ, zero, suc, ◌+◌}
use mathlib.Core.Path.{◌≡◌, refl, ap, ◌∙◌}
use mathlib.Core.Bool.{Bool, true, ◌&&◌}
use mathlib.Core.List.{List, [], ◌∷◌, map}
use lib.Dec.{eqb}
use lib.ListN.{length}
use borrow.Author.Tests.{eq-eqb}
use Rattle.promises.specs.SendRun.{Send, sending, from}
use Rattle.promises.specs.Ways.{Fails, Sends, used_in, T3}
use Rattle.promises.specs.WrongReceivers.{set, iv}
use Rattle.promises.specs.WrongSenders.{gives_back, goes_on, made_up_number, wrong_senders}
use Rattle.promises.proofs.Computing.{computing}
use Rattle.promises.proofs.Failing.{fails}
use Rattle.promises.proofs.Sends as Sends

-- what a sender uses under a key count on its run
uses : Sends × List Send × ℕ → List ℕ
uses x = used_in x.0 set iv x.1 x.2

out_of_order : map uses wrong_senders ≡ (0 ∷ 0 ∷ []) ∷ (1 ∷ []) ∷ (5 ∷ []) ∷ []
unfolding computing gives_back goes_on made_up_number uses
out_of_order = refl

-- n, n + 1 and on
abbrev in_order : ℕ → List ℕ → Bool
in_order n [] = true
in_order n (x ∷ l) = eqb x n && in_order (n + 1) l

from_in_order : (n k : ℕ) → in_order n (from n k) ≡ true
unfolding from
from_in_order n zero = refl
from_in_order n (suc k) = rw (eq-eqb n n refl) (from_in_order (n + 1) k)

T3-in_order : (x : Sends × List Send × ℕ) → T3 x.0 → in_order 0 (uses x) ≡ true
unfolding uses
T3-in_order x t = ap (in_order 0) (t set iv x.1 x.2) ∙ from_in_order 0 (length (uses x))

-- T3 fails of each wrong sender
pub wrong_senders_fail : Fails (λ x. T3 x.0) wrong_senders
wrong_senders_fail = fails _ uses (in_order 0) T3-in_order wrong_senders _ out_of_order tt

-- and holds of the right one
pub right_sends : T3 sending
right_sends = Sends.used_in_order
