-- A line names no top byte where a piece is not there or its mnemonic is too long.
use mathlib.Core.Path.{◌≡◌}
use mathlib.Core.List.{[], ◌∷◌}
use Rattle.std.proofs.Common.{rules}
use Rattle.pieces.specs.Parts.{pieces_of}
use Rattle.line.proofs.Steps.{no-piece-named, one_piece-named, long-named}
use Rattle.line.proofs.parted.Goals as goal

pub returns-in_err-address : goal.returns-in_err-address
returns-in_err-address c = rw c.from_residual.ensures (no-piece-named _ c.in_err-address.ensures.first)

pub returns-in_err-mnemonic : goal.returns-in_err-mnemonic
returns-in_err-mnemonic c =
    let one : pieces_of c.args.line.now ≡ c.in_ok-address.address.now ∷ pieces_of c.in_ok-address.rest.now = search rules in
    let none : pieces_of c.in_ok-address.rest.now ≡ [] = search rules in
    rw c.from_residual-in_err-mnemonic.ensures (one_piece-named _ _ (rw none at one))

pub returns-in_err-name : goal.returns-in_err-name
returns-in_err-name c =
    let one : pieces_of c.args.line.now ≡ c.in_ok-address.address.now ∷ pieces_of c.in_ok-address.rest.now = search rules in
    let two : pieces_of c.in_ok-address.rest.now ≡ c.in_ok-mnemonic.mnemonic.now ∷ pieces_of c.in_ok-mnemonic.rest.now = search rules in
    rw c.from_residual-in_err-name.ensures (long-named _ _ _ _ (rw two at one) c.in_err-name.ensures)
