-- Each number that stands in front is an operand, and the marks stand after them.
use Rattle.std.proofs.Common.{rules}
use Rattle.pieces.specs.Parts.{pieces_of}
use Rattle.line.specs.Coded.{FirstNumber}
use Rattle.line.proofs.Steps.{no_operand, one-operand, two-operands}
use Rattle.line.proofs.tail_of.Goals as goal

pub returns-in_err-marks : goal.returns-in_err-marks
returns-in_err-marks c = rw (c.from_residual.ensures, no_operand (pieces_of c.args.line.now) c.in_default.ensures) c.in_err-marks.ensures

pub returns-in_default : goal.returns-in_default
returns-in_default c = rw (no_operand (pieces_of c.args.line.now) c.in_default.ensures, c.in_ok-marks.ensures)

pub returns-in_err-marks-2 : goal.returns-in_err-marks-2
returns-in_err-marks-2 c =
    let one : FirstNumber (pieces_of c.args.line.now) c.in-Some.first (pieces_of c.in-Some.after.now) = search rules in
    rw (c.from_residual-in_err-marks-2.ensures, one-operand one c.in_default-operand.ensures) c.in_err-marks-2.ensures

pub returns-in_default-operand : goal.returns-in_default-operand
returns-in_default-operand c =
    let one : FirstNumber (pieces_of c.args.line.now) c.in-Some.first (pieces_of c.in-Some.after.now) = search rules in
    rw (one-operand one c.in_default-operand.ensures, c.in_ok-marks-2.ensures)

pub returns-in_err-marks-3 : goal.returns-in_err-marks-3
returns-in_err-marks-3 c =
    let one : FirstNumber (pieces_of c.args.line.now) c.in-Some.first (pieces_of c.in-Some.after.now) = search rules in
    let two : FirstNumber (pieces_of c.in-Some.after.now) c.in-Some-operand.second (pieces_of c.in-Some-operand.last.now) = search rules in
    rw (c.from_residual-in_err-marks-3.ensures, two-operands one two) c.in_err-marks-3.ensures

pub returns : goal.returns
returns c =
    let one : FirstNumber (pieces_of c.args.line.now) c.in-Some.first (pieces_of c.in-Some.after.now) = search rules in
    let two : FirstNumber (pieces_of c.in-Some.after.now) c.in-Some-operand.second (pieces_of c.in-Some-operand.last.now) = search rules in
    rw (two-operands one two, c.in_ok-marks-3.ensures)
