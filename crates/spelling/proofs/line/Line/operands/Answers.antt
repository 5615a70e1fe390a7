-- The first and then the second.
use Rattle.spelling.specs.Spelling.{operands_of}
use Rattle.spelling.proofs.Laws.{operand-given, ◌then◌}
use Rattle.spelling.proofs.line.Line.operands.Goals as goal

pub returns : goal.returns
unfolding operands_of
returns c =
    let first = rw (c.then_some.ensures, operand-given) at c.operand.ensures in
    let second = rw (c.then_some-2.ensures, operand-given) at c.operand-2.ensures in
    rw (← c.first_of-first.ensures, ← c.second_of-second.ensures) (first then second)
