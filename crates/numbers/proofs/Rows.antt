-- Every row of page 01's table is what the definitions give: antt computes it.
-- Assumes nothing.
use Prim.Native.Nat.{◌^◌, ◌<◌}
use mathlib.Core.Bool.{Bool, true, false, cond}
use mathlib.Core.Path.{◌≡◌, refl, ◌∙◌}
use mathlib.Core.List.{map}
use lib.Dec.{eqb, lit<}
use Rattle.answers.specs.Table.{given}
use Rattle.numbers.specs.Number.{whole, nearest, number_rows}
use Rattle.numbers.specs.Word.{most, bit}
use Rattle.numbers.specs.Window.{marked, verdict}
use Rattle.numbers.specs.Contract.{width_of, no_place}
use Rattle.numbers.specs.Table.{Row, row_word, row_rule, answered_row, worked, rows}
use Rattle.numbers.proofs.Laws.{placed_of}

-- what the definitions give, by the window's number alone
computed : Row → Row
computed r =
    let n = nearest r.next r.low in
    answered_row r (given (verdict (width_of row_rule) row_rule.limit r.next (row_word r) n) (record { answer = 0; number = n }) no_place)

row_word_lt : (b : Bool) → cond b 0 1 < 2 ^ most
row_word_lt true = lit< tt
row_word_lt false = lit< tt

worked_is : (r : Row) → worked r ≡ computed r
unfolding worked computed
worked_is r i = answered_row r (placed_of row_rule r.next (row_word r) r.low (row_word_lt (eqb r.next 0)) i)

-- rows p1 to p10
pub table : map worked rows ≡ rows
unfolding rows computed whole nearest number_rows bit marked verdict width_of
table = (λ i. map (λ r. worked_is r i) rows) ∙ refl
