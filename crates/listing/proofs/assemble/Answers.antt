-- The first pass tells whether the text is good and what it needs, the second writes it.
use mathlib.Core.Path.{◌≡◌, refl, sym, ◌∙◌}
use Rattle.std.proofs.Common.{Err, rules}
use Rattle.listing.proofs.Lines.{text_not-0, refused, short, done}
use Rattle.listing.proofs.assemble.Goals as goal

pub returns-in_err-needed : goal.returns-in_err-needed
returns-in_err-needed c =
    let same : c.from_residual.result ≡ Err c.in_err-needed.field-0.0 = search rules in
    rw same (refused c.args.text.now c.args.words.now _ c.in_err-needed.ensures.0 (text_not-0 c.in_err-needed.field-0.0))

pub returns-then-words-needed : goal.returns-then-words-needed
returns-then-words-needed c = short c.args.text.now c.args.words.now _ c.in_ok-needed.ensures.0 refl c.if-words-needed.true

pub returns : goal.returns
returns c =
    let told = c.in_ok-needed.ensures.0 in
    let all = done c.args.text.now c.args.words.now _ told refl c.if-words-needed.false in
    (c.assembled-2.ensures.0 ∙ sym told ∙ all.0, c.assembled-2.ensures.1 ∙ all.1)
