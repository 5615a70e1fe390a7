-- The first mark, or the end.
use Rattle.std.proofs.Common.{◌==◌}
use Rattle.pieces.proofs.Firsts.{or_end}
use Rattle.pieces.proofs.length_to.Goals as goal

pub returns-clause-before : goal.returns-clause-before
returns-clause-before c = rw (c.unwrap_or.ensures, c.place_of.ensures) (or_end (λ x. x == c.args.mark) c.args.text.now)
