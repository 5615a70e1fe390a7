-- A space is nothing more.
use borrow.Author.Tests.{eq-eqb}
use Rattle.spelling.proofs.Laws.{nothing}
use Rattle.spelling.proofs.line.Line.letter.Goals as goal

pub returns-else-c-ne32 : goal.returns-else-c-ne32
returns-else-c-ne32 c = rw (eq-eqb _ _ c.if-c-ne32.false) (nothing c.args.self.now 1)
