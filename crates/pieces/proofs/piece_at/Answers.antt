-- The piece starts where the spaces end, and ends at the next.
use mathlib.Core.Path.{◌≡◌}
use Rattle.std.proofs.Common.{arith, length, ◌-◌, ◌==◌, not, drop, length-drop}
use Rattle.pieces.specs.Counted.{spaces_of}
use Rattle.pieces.proofs.Laws.{piece-found, piece-past}
use Rattle.pieces.proofs.Firsts.{or_end, to-piece, rest}
use Rattle.pieces.proofs.piece_at.Goals as goal

pub returns-then-end-at : goal.returns-then-end-at
returns-then-end-at c = piece-past _ _ c.if-end-at.true

pub returns : goal.returns
returns c =
    let l = drop c.args.at c.args.line.now in
    let left : length c.args.line.now - c.args.at ≡ length l = omega (arith, length-drop c.args.at c.args.line.now) in
    let spaces : c.unwrap_or.result ≡ spaces_of l =
    rw (c.unwrap_or.ensures, c.start.ensures, rest, left, or_end (λ x. not (x == 32)) l, to-piece l) in
    piece-found _ _ _ _ (omega arith) (rw spaces) c.part_end-to.ensures
