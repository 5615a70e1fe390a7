-- The digits left, read on from `n`, make the piece's number.
use Rattle.std.proofs.Common.{◌≡◌, ◌<◌, drop}
use Rattle.pieces.specs.Read.{value_of}
use Rattle.pieces.proofs.Laws.{read_from}
use Rattle.pieces.proofs.number_of.Given as goal

abbrev pub invariant-loop-c : goal.invariant-loop-c
invariant-loop-c l = record { within : l.n < 0x800; same : read_from l.n (drop l.c-index l.piece) ≡ value_of l.piece }
