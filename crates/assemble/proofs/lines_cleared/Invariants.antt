-- The last line ends where the bytes so far end or before, and there are no more lines than bytes.
use Rattle.std.proofs.Common.{◌+◌, ◌≤◌}
use Rattle.assemble.proofs.lines_cleared.Given as goal

abbrev pub invariant-loop-i : goal.invariant-loop-i
invariant-loop-i l = record { ends : l.last ≤ l.i; numbers : l.number ≤ l.i + 1 }
