-- Where there is no piece, there is no number.
use Rattle.line.proofs.Steps.{no-number}
use Rattle.line.proofs.operand.Goals as goal

pub returns-in_err-piece : goal.returns-in_err-piece
returns-in_err-piece c = rw c.from_residual.ensures (no-number _ c.in_err-piece.ensures.first)
