-- Laws of runs that are joined.
-- Assumes nothing.
use Prim.Native.Nat.{ℕ}
use mathlib.Core.Path.{◌≡◌, refl, sym, ap, ◌∙◌}
use mathlib.Core.Bool.{cond}
use mathlib.Core.List.{List, [], ◌∷◌, ◌++◌, append_assoc}
use Rattle.channel.specs.Call.{Call, Answer, Effect, Outcome}
use Rattle.channel.specs.View.{View}
use Rattle.channel.specs.declared.sender.Sender.{Sender}
use Rattle.promises.specs.Run.{after_by, answers_by, reach_by}
use Rattle.promises.specs.SendRun.{Send, sending, sent_by, sender_after}
use Rattle.rows.specs.Ends.{Ends}
use Rattle.controller.specs.Calls.{TableCall, table_after}
use Rattle.bay.specs.Reach.{reaches}
use Rattle.bay.specs.TableRun.{table_run}
use Rattle.bay.specs.RowRun.{gather, Reply, reply_of, replies_of, StaysOpen}

-- ---- of a channel

module _ {S : Type 0} (looks : S → View) (decides : View → Call → Outcome) (changes : S → Effect → S) where
  pub reach_join : (s : S) (xs ys : List Call)
      → reach_by looks decides changes s (xs ++ ys) ≡ reach_by looks decides changes (reach_by looks decides changes s xs) ys
  unfolding reach_by
  reach_join s [] ys = refl
  reach_join s (x ∷ xs) ys = reach_join (after_by looks decides changes s x) xs ys

  pub answers_join : (s : S) (xs ys : List Call) → answers_by looks decides changes s (xs ++ ys)
      ≡ answers_by looks decides changes s xs ++ answers_by looks decides changes (reach_by looks decides changes s xs) ys
  unfolding reach_by answers_by
  answers_join s [] ys = refl
  answers_join s (x ∷ xs) ys = ap (λ (l : List Answer). (decides (looks s) x).answer ∷ l) (answers_join (after_by looks decides changes s x) xs ys)

pub sent_join : (s : Sender) (xs ys : List Send) → sender_after s (xs ++ ys) ≡ sender_after (sender_after s xs) ys
unfolding sent_by
sent_join s [] ys = refl
sent_join s (x ∷ xs) ys = sent_join (sending s x).next xs ys

pub replies_join : (s : Sender) (xs ys : List Send) → replies_of s (xs ++ ys) ≡ replies_of s xs ++ replies_of (sender_after s xs) ys
unfolding sent_by replies_of
replies_join s [] ys = refl
replies_join s (x ∷ xs) ys = ap (λ (l : List Reply). reply_of s x ∷ l) (replies_join (sending s x).next xs ys)

-- ---- of the table

pub run_join : (t : List Ends) (xs ys : List TableCall) → table_run t (xs ++ ys) ≡ table_run (table_run t xs) ys
unfolding table_run
run_join t [] ys = refl
run_join t (x ∷ xs) ys = run_join (table_after t x) xs ys

pub gather_join : {A : Type 0} (f : List Ends → TableCall → List A) (i : ℕ) (t : List Ends) (xs ys : List TableCall)
    → gather f i t (xs ++ ys) ≡ gather f i t xs ++ gather f i (table_run t xs) ys
unfolding gather table_run
gather_join f i t [] ys = refl
gather_join f i t (x ∷ xs) ys =
    ap (λ (l : List _). cond (reaches i t x) (f t x) [] ++ l) (gather_join f i (table_after t x) xs ys)
    ∙ sym (append_assoc (cond (reaches i t x) (f t x) []) _ _)

pub open_before : (i : ℕ) (t : List Ends) (xs ys : List TableCall) → StaysOpen i t (xs ++ ys) → StaysOpen i t xs
open_before i t [] ys k = tt
open_before i t (x ∷ xs) ys k = (k.0, open_before i (table_after t x) xs ys k.1)
