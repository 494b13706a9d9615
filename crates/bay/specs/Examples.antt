-- Runs of the table that are computed.
-- Assumes nothing.
use Rattle.std.specs.Prelude.{ℕ, ◌≡◌, true, List, [], ◌∷◌, replicate}
use Rattle.answers.specs.Refusal as Refusal
use Rattle.channel.specs.Call.{settle}
use Rattle.promises.specs.Examples.{set_to, iv, item, early, late_record}
use Rattle.promises.specs.Toy.{key_of, toy, wire}
use Rattle.promises.specs.World.{start, Each, hands_out, handed_in}
use Rattle.rows.specs.Ends.{Ends}
use Rattle.controller.specs.Table.{size}
use Rattle.controller.specs.Doors.{session}
use Rattle.controller.specs.Calls.{TableCall, enter, leave, receive, open_in, table_after}
use Rattle.bay.specs.Reach.{code_in}
use Rattle.bay.specs.TableRun.{empty_table}
use Rattle.bay.specs.RowRun.{StaysOpen, new_row, opened}
use Rattle.bay.specs.Peer.{through_row, BayStep, calls_in, steps_to, Foreign, HonestBay, HonestCallIn}

-- ---- T4's assumptions for the bay, met

-- another row's record, under a key of its own
unfoldable pub elsewhere : ℕ → List (Foreign (List ℕ))
elsewhere m = record { key = replicate 32 9; sent = early m } ∷ []

abbrev pub row_in : ℕ → ℕ
row_in m = new_row (empty_table size) (set_to m)

abbrev pub table_in : ℕ → List Ends
table_in m = opened (empty_table size) (set_to m) iv iv

-- promises' run with a forged record, a repeated one, a key change and a late record, through a row
abbrev pub run_in : ℕ → List BayStep
run_in m = through_row (row_in m) (late_record m)

pub record MetInRow (m : ℕ) : Type 0 where
  pub granted : (open_in (empty_table size) (set_to m)).0 ≡ 0
  pub stays : StaysOpen (row_in m) (table_in m) (calls_in (run_in m))
  -- the data of three records, each once
  pub handed : handed_in (set_to m) (start (set_to m) iv (set_to m) iv) (steps_to (row_in m) (table_in m) (run_in m))
      ≡ item 0 0 (8 ∷ 9 ∷ []) ∷ item 1 0 (6 ∷ []) ∷ item 0 1 (5 ∷ []) ∷ []
  pub honest : Each (HonestCallIn (toy (set_to m)) key_of key_of (elsewhere m)) (start (set_to m) iv (set_to m) iv) (steps_to (row_in m) (table_in m) (run_in m))

-- ---- a row that is opened again with the same keys

-- the number that each call of a run answers
unfoldable pub codes_in : List Ends → List TableCall → List ℕ
codes_in t [] = []
codes_in t (c ∷ cs) = code_in t c ∷ codes_in (table_after t c) cs

-- a record is delivered, and again; then the row is closed and opened with the same keys, and it is delivered once more
unfoldable pub reopened : ℕ → List TableCall
reopened m =
    let deliver = receive (session (wire (early m))) (settle (wire (early m)) 0 0 0 true (early m).text) in
    enter (set_to m) iv iv ∷ deliver ∷ deliver ∷ leave 0 ∷ enter (set_to m) iv iv ∷ deliver ∷ []

-- it is handed out, refused as a repeat, and after the reopening handed out again
abbrev pub HandedAgain : ℕ → Type 0
HandedAgain m = codes_in (empty_table size) (reopened m) ≡ 0 ∷ 0 ∷ Refusal.repeat ∷ 0 ∷ 0 ∷ 0 ∷ []

-- what the row's earlier channel sealed
unfoldable pub sealed_earlier : ℕ → List (Foreign (List ℕ))
sealed_earlier m = record { key = key_of 0; sent = early m } ∷ []

-- that last delivery: all that T4 assumes holds of it but that the key is new, and it hands out what was not sealed in this channel
pub record OldKeys (m : ℕ) : Type 0 where
  pub bay : HonestBay (toy (set_to m)) key_of key_of (sealed_earlier m) (start (set_to m) iv (set_to m) iv) (wire (early m)) 0 0 true (early m).text
  pub handed : hands_out (set_to m) (start (set_to m) iv (set_to m) iv) (settle (wire (early m)) 0 0 0 true (early m).text) ≡ item 0 0 (8 ∷ 9 ∷ []) ∷ []
  pub sealed : (start (set_to m) iv (set_to m) iv).sealed ≡ []
