-- Each digit read goes over from those left to the number; what is over the widest field stays over it.
use mathlib.Core.Path.{sym}
use Rattle.std.proofs.Common.{arith, rules}
use Rattle.pieces.proofs.Laws.{read_number, no_number, read_past}
use Rattle.pieces.proofs.number_of.Goals as goal

pub returns-then-is_empty : goal.returns-then-is_empty
returns-then-is_empty c = λ h. omega (arith, no_number c.args.piece.now (search rules))

pub loop-c-init : goal.loop-c-init
loop-c-init c = record { within = omega arith; same = sym (read_number c.args.piece.now (search rules)) }

pub returns-then-n-ge2048 : goal.returns-then-n-ge2048
returns-then-n-ge2048 c =
    λ h. omega
    (arith, c.loop-c.invariant.same, read_past c.loop-c.n c.args.piece.now c.loop-c.c-index (search rules) (omega (arith, c.in_ok-n.ensures)))
