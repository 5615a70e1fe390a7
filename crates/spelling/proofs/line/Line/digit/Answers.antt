-- No digit is nothing more.
use Rattle.spelling.proofs.Laws.{nothing}
use Rattle.spelling.proofs.line.Line.digit.Goals as goal

pub returns-in_default : goal.returns-in_default
returns-in_default c = rw c.in_default.is (nothing c.args.self.now 1)
