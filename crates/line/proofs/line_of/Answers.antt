-- The first of 10, 11 and 12, or the word at its address.
use mathlib.Core.Path.{◌≡◌, sym}
use Rattle.std.proofs.Common.{Option, None, Some, Result, Ok, Err, rules}
use Rattle.refusals.specs.declared.Refusal.{Refusal}
use Rattle.pieces.specs.Parts.{pieces_of}
use Rattle.pieces.specs.Read.{value_of}
use Rattle.line.specs.Line.{tail_of, word_for}
use Rattle.line.specs.Coded.{Nameless, Named}
use Rattle.line.specs.declared.Placed.{Placed}
use Rattle.line.proofs.Steps.{line-10, line-11, line-12, line_word}
use Rattle.line.proofs.line_of.Goals as goal

pub returns-in_err-address : goal.returns-in_err-address
returns-in_err-address c =
    let none : Nameless (pieces_of c.args.line.now) = search rules in
    let r : c.from_residual.result ≡ Err Refusal.Mnemonic = search rules in
    rw r (sym (line-10 c.args.next (pieces_of c.args.line.now) none))

pub returns-in_err-word : goal.returns-in_err-word
returns-in_err-word c =
    let named : Named (pieces_of c.args.line.now) c.in_ok-address.address.now c.in_ok-address.top (pieces_of c.in_ok-address.rest.now) = search rules in
    let none : word_for c.in_ok-address.top (tail_of (pieces_of c.in_ok-address.rest.now)) ≡ None = search rules in
    let r : c.from_residual-in_err-word.result ≡ Err Refusal.Operand = search rules in
    rw r (sym (line-11 c.args.next named none))

pub returns-in_err-address-2 : goal.returns-in_err-address-2
returns-in_err-address-2 c =
    let named : Named (pieces_of c.args.line.now) c.in_ok-address.address.now c.in_ok-address.top (pieces_of c.in_ok-address.rest.now) = search rules in
    let some : word_for c.in_ok-address.top (tail_of (pieces_of c.in_ok-address.rest.now)) ≡ Some c.in_ok-word.word = search rules in
    let r : c.from_residual-in_err-address-2.result ≡ Err Refusal.Address = search rules in
    rw r (sym (line-12 c.args.next named some (search rules)))

pub returns : goal.returns
returns c =
    let named : Named (pieces_of c.args.line.now) c.in_ok-address.address.now c.in_ok-address.top (pieces_of c.in_ok-address.rest.now) = search rules in
    let some : word_for c.in_ok-address.top (tail_of (pieces_of c.in_ok-address.rest.now)) ≡ Some c.in_ok-word.word = search rules in
    let same : c.in_ok-address-2.address ≡ value_of c.in_ok-address.address.now = search rules in
    rw same (sym (line_word c.args.next named some (search rules) (search rules)))
