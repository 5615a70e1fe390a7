-- A space and the name.
use Rattle.spelling.proofs.Laws.{nothing, ◌then◌}
use Rattle.spelling.proofs.line.Line.mark.Goals as goal

pub returns-in-Some : goal.returns-in-Some
returns-in-Some c = rw c.in-Some.is (c.push.ensures then c.letters.ensures)

pub returns-in_default : goal.returns-in_default
returns-in_default c = rw c.in_default.is (nothing c.args.self.now 5)
