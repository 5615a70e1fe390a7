-- The first word that is looked for, and one that is looked past.
use mathlib.Core.Path.{sym, ap, ◌∙◌}
use Rattle.std.specs.Prelude.{Err}
use Rattle.code.specs.Word.{number_of}
use Rattle.listing.specs.Listed.{place_below}
use Rattle.listing.proofs.Laws.{first-here, first-after, first_none}
use Rattle.listing.proofs.first_with.Goals as goal

pub returns-then-is_unread : goal.returns-then-is_unread
returns-then-is_unread c =
    let test = rw c.word.ensures at (sym c.is_unread.ensures ∙ c.if-is_unread.true) in
    let here = first-here c.args.words.now c.args.n c.loop-i.i c.loop-i-test.true (number_of (Err c.args.why)) test in
    sym (ap (place_below c.args.n) c.loop-i.invariant ∙ here)

pub loop-i-preserved : goal.loop-i-preserved
loop-i-preserved c =
    let test = rw c.word.ensures at (sym c.is_unread.ensures ∙ c.if-is_unread.false) in
    c.loop-i.invariant ∙ first-after c.args.words.now c.args.n c.loop-i.i c.loop-i-test.true (number_of (Err c.args.why)) test

pub returns : goal.returns
returns c =
    let none = first_none c.args.words.now c.args.n c.loop-i.i c.loop-i-test.false (number_of (Err c.args.why)) in
    sym (ap (place_below c.args.n) c.loop-i.invariant ∙ none)
