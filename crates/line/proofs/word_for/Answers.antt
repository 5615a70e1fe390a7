-- Marks that are bad make no word.
use mathlib.Core.Path.{sym}
use Rattle.line.proofs.Steps.{bad_marks}
use Rattle.line.proofs.word_for.Goals as goal

pub returns-in_err-t : goal.returns-in_err-t
returns-in_err-t c = rw c.from_residual.ensures (sym (bad_marks c.args.top _ c.in_err-t.ensures))
