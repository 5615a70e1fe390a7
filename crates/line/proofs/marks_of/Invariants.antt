-- The marks so far and the pieces left give what all pieces give.
use Rattle.std.proofs.Common.{length, ◌≡◌}
use Rattle.pieces.specs.Parts.{pieces_of}
use Rattle.line.specs.Marks.{no_marks, marks_from}
use Rattle.line.specs.Coded.{marks_as}
use Rattle.line.proofs.marks_of.Given as goal

abbrev pub invariant-loop-piece : goal.invariant-loop-piece
invariant-loop-piece l = marks_from (marks_as l.m) (pieces_of l.left) ≡ marks_from no_marks (pieces_of l.line)

abbrev pub decreases-loop-piece : goal.decreases-loop-piece
decreases-loop-piece l = length l.left
