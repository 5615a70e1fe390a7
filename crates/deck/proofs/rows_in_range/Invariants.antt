use Rattle.std.proofs.Common.{◌*◌, ◌≡◌, true}
use Rattle.choose.specs.Below.{all_below}
use Rattle.rows.specs.Range.{row_in_range}
use Rattle.rows.specs.Section.{row_from}
use Rattle.deck.proofs.rows_in_range.Given as goal

-- the rows passed are in range
abbrev pub invariant-loop-i : goal.invariant-loop-i
invariant-loop-i l = all_below l.i (λ i. row_in_range (row_from l.part (i * 16))) ≡ true
