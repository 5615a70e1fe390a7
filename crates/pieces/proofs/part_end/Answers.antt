-- Nothing stands past the end; before it the part ends at the first mark of what is left.
use Rattle.std.proofs.Common.{arith, drop}
use Rattle.pieces.proofs.Laws.{mark-past}
use Rattle.pieces.proofs.Firsts.{to-mark, rest}
use Rattle.pieces.proofs.part_end.Goals as goal

pub returns-then-text-at : goal.returns-then-text-at
returns-then-text-at c = omega (arith, mark-past c.args.mark c.args.text.now c.args.at c.if-text-at.true)

pub returns : goal.returns
returns c = rw (c.length_to.ensures.before, rest, to-mark c.args.mark (drop c.args.at c.args.text.now))
