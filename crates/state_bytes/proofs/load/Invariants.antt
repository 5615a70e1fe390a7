use Rattle.std.proofs.Common.{◌≡◌}
use Rattle.std.proofs.Math.Seq.{paste}
use Rattle.state_bytes.specs.Bytes.{padded}
use Rattle.state_bytes.proofs.load.Given as goal

-- the first i bytes stand in their places
abbrev pub invariant-loop-i : goal.invariant-loop-i
invariant-loop-i l = l.file ≡ paste l.initial.file 0 (padded l.s 26) l.i
