-- A byte that has room stands after the others.
use Rattle.std.proofs.Common.{arith}
use Rattle.spelling.proofs.Laws.{pushed, full}
use Rattle.spelling.proofs.line.Line.push.Goals as goal

pub returns-then-self-lt40 : goal.returns-then-self-lt40
returns-then-self-lt40 c = record { text = pushed c.args.self.now c.args.b c.if-self-lt40.true (omega arith); short = omega arith }

pub returns-else-self-lt40 : goal.returns-else-self-lt40
returns-else-self-lt40 c = full c.args.self.now c.args.b c.if-self-lt40.false (omega arith)
