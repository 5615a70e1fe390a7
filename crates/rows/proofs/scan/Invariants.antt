use Rattle.std.proofs.Common.{◌≡◌, ◌≤◌, drop, length}
use Rattle.rows.specs.Packing.{scanned_in}
use Rattle.rows.proofs.scan.Given as goal

-- the rows that are left give, from the outputs so far, what all rows give
abbrev pub invariant-loop-row : goal.invariant-loop-row
invariant-loop-row l = (l.row-index ≤ length l.rows) × (scanned_in l.o (drop l.row-index l.rows) l.key ≡ scanned_in 0 l.rows l.key)
