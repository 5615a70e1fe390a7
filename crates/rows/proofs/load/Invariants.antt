use Rattle.std.proofs.Common.{◌≡◌}
use Rattle.rows.specs.Table.{filled_table}
use Rattle.rows.proofs.load.Given as goal

-- the table holds the first rows of the section,
-- and empty rows after them
abbrev pub invariant-loop-filled : goal.invariant-loop-filled
invariant-loop-filled l = l.table ≡ filled_table l.s l.filled
