-- Runs of a receiver's calls, each given the state that the last one returned, and what a run marks and hands out. A run is over the
-- receiver's look, the table's outcome and the change as parameters: so a wrong one can be run, too.
-- Assumes nothing.
use Rattle.std.specs.Prelude.{ℕ, cond, List, [], ◌∷◌, ◌++◌, eqb}
use Rattle.answers.specs.Refusal.{authentic}
use Rattle.channel.specs.Call.{Call, offer, settle, gaps, change_key, drop_old, Answer, Effect, Outcome}
use Rattle.channel.specs.Receiver.{look, change}
use Rattle.channel.specs.Rules.{outcome}
use Rattle.channel.specs.View.{View}
use Rattle.channel.specs.declared.receiver.Receiver.{Receiver}
use Rattle.record.specs.View.{view_of}
use Rattle.record.specs.declared.setting.Setting.{Setting}

module _ {S : Type 0} (looks : S → View) (decides : View → Call → Outcome) (changes : S → Effect → S) where
  unfoldable pub after_by : S → Call → S
  after_by s c = changes s (decides (looks s) c).effect

  unfoldable pub answers_by : S → List Call → List Answer
  answers_by s [] = []
  answers_by s (c ∷ cs) = (decides (looks s) c).answer ∷ answers_by (after_by s c) cs

  -- the state after a run
  unfoldable pub reach_by : S → List Call → S
  reach_by s [] = s
  reach_by s (c ∷ cs) = reach_by (after_by s c) cs

-- the answers of a run of the receiver, and the state after it
abbrev pub answers_of : Receiver → List Call → List Answer
answers_of = answers_by look outcome change

abbrev pub reached : Receiver → List Call → Receiver
reached = reach_by look outcome change

-- ---- what a run marks and hands out, read off its calls and answers

-- the key count and number of each record that was authentic
unfoldable pub marked_by : Call → Answer → List (ℕ × ℕ)
marked_by (offer r slot) a = []
marked_by (settle r slot count number passed plain) a = cond (authentic a.code) ((count, number) ∷ []) []
marked_by (gaps slot) a = []
marked_by (change_key iv) a = []
marked_by drop_old a = []

unfoldable pub all_marked : List Call → List Answer → List (ℕ × ℕ)
all_marked [] rest = []
all_marked (c ∷ cs) [] = []
all_marked (c ∷ cs) (a ∷ rest) = marked_by c a ++ all_marked cs rest

-- a piece of application data, under a key count and a number
pub record Item : Type 0 where
  pub count : ℕ
  pub number : ℕ
  pub app : List ℕ

abbrev pub pair_of : Item → ℕ × ℕ
pair_of x = (x.count, x.number)

-- the data that the view of a Settle's answer shows
unfoldable pub handed_by : Setting → Call → Answer → List Item
handed_by s (offer r slot) a = []
handed_by s (settle r slot count number passed plain) a =
    cond (eqb a.code 0) ((record { count = count; number = number; app = view_of s.mode a.place a.length r plain }) ∷ []) []
handed_by s (gaps slot) a = []
handed_by s (change_key iv) a = []
handed_by s drop_old a = []

unfoldable pub all_handed : Setting → List Call → List Answer → List Item
all_handed s [] rest = []
all_handed s (c ∷ cs) [] = []
all_handed s (c ∷ cs) (a ∷ rest) = handed_by s c a ++ all_handed s cs rest
