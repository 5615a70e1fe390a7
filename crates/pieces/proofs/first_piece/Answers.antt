-- A line has no piece only where it has no byte but spaces; else the first piece ends at the first space after it.
use mathlib.Core.Path.{sym, ◌∙◌}
use Rattle.std.proofs.Common.{arith}
use Rattle.pieces.proofs.Firsts.{piece_first, after-piece, no_pieces, rest}
use Rattle.pieces.proofs.first_piece.Goals as goal

pub returns-in_err-filled-clause-first : goal.returns-in_err-filled-clause-first
returns-in_err-filled-clause-first c = rw c.from_residual.ensures (no_pieces _ (sym c.start.ensures ∙ c.in_err-filled.was))

pub returns-clause-first : goal.returns-clause-first
returns-clause-first c =
    rw (c.split_at.ensures.front, c.split_at.ensures.back, c.length_to.ensures.before, rest)
    (piece_first _ _ (sym c.start.ensures ∙ c.in_ok-filled.was))

pub returns-clause-after : goal.returns-clause-after
returns-clause-after c =
    rw (c.split_at.ensures.back, rest)
    (after-piece _ _ _ _ (sym c.start.ensures ∙ c.in_ok-filled.was) (omega (arith, c.split_at.ensures.front_len)))
