-- A piece that is no mark, or comes again, makes the marks bad; where no piece is left, the marks so far are all.
use mathlib.Core.Path.{◌≡◌, sym, ap, ◌∙◌}
use mathlib.Core.Bool.{false}
use mathlib.Core.List.{◌∷◌}
use Rattle.std.proofs.Common.{rules}
use Rattle.pieces.specs.Parts.{pieces_of}
use Rattle.pieces.specs.Read.{name_of}
use Rattle.line.specs.Marks.{Marks, with_mark}
use Rattle.line.specs.Coded.{marks_as}
use Rattle.line.proofs.Steps.{no_name, no_mark, bad-piece, next-piece, no-piece-left}
use Rattle.line.proofs.marks_of.Goals as goal

pub returns-in_err-name_of : goal.returns-in_err-name_of
returns-in_err-name_of c =
    let there : pieces_of c.loop-piece.left.now ≡ c.in-Some.piece.now ∷ pieces_of c.in-Some.rest.now = search rules in
    let bad : (with_mark (marks_as c.loop-piece.m) (name_of c.in-Some.piece.now)).good ≡ false =
    rw (no_name c.in-Some.piece.now c.in_err-name_of.ensures) (no_mark (marks_as c.loop-piece.m)) in
    rw c.from_residual.ensures (sym (ap (λ (s : Marks). s.good) c.loop-piece.invariant) ∙ bad-piece (marks_as c.loop-piece.m) there bad)

pub returns-in_err-m : goal.returns-in_err-m
returns-in_err-m c =
    let there : pieces_of c.loop-piece.left.now ≡ c.in-Some.piece.now ∷ pieces_of c.in-Some.rest.now = search rules in
    let bad : (with_mark (marks_as c.loop-piece.m) (name_of c.in-Some.piece.now)).good ≡ false = rw (← c.in_ok-name_of.ensures.1) c.in_err-m.ensures in
    rw c.from_residual-in_err-m.ensures (sym (ap (λ (s : Marks). s.good) c.loop-piece.invariant) ∙ bad-piece (marks_as c.loop-piece.m) there bad)

pub loop-piece-preserved : goal.loop-piece-preserved
loop-piece-preserved c =
    let there : pieces_of c.loop-piece.left.now ≡ c.in-Some.piece.now ∷ pieces_of c.in-Some.rest.now = search rules in
    let more : with_mark (marks_as c.loop-piece.m) (name_of c.in-Some.piece.now) ≡ marks_as c.in_ok-m.m = rw (← c.in_ok-name_of.ensures.1) c.in_ok-m.ensures in
    next-piece (marks_as c.loop-piece.m) there more ∙ c.loop-piece.invariant

pub returns : goal.returns
returns c = sym c.loop-piece.invariant ∙ no-piece-left (marks_as c.loop-piece.m) (pieces_of c.loop-piece.left.now) c.in_default.ensures.first
