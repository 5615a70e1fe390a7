-- Each answer is the one that the tests before it leave.
use mathlib.Core.Path.{sym}
use Rattle.listing.proofs.Answers.{among, over, other_length, unlisted, short, done}
use Rattle.listing.proofs.list_words.Goals as goal

pub returns-in-Some-clause-told : goal.returns-in-Some-clause-told
returns-in-Some-clause-told c = over c.args.words.now c.args.text.now _ c.count-n.ensures.0 _ c.in-Some.ensures

pub returns-then-not-words-clause-told : goal.returns-then-not-words-clause-told
returns-then-not-words-clause-told c =
    other_length c.args.words.now c.args.text.now _ c.count-n.ensures.0 (sym c.in_default.ensures) c.if-not-words.true

pub returns-in-Some-first_with-clause-told : goal.returns-in-Some-first_with-clause-told
returns-in-Some-first_with-clause-told c =
    unlisted c.args.words.now c.args.text.now _ c.count-n.ensures.0 (sym c.in_default.ensures) c.if-not-words.false _ c.in-Some-first_with.ensures

pub returns-then-text-needed-clause-told : goal.returns-then-text-needed-clause-told
returns-then-text-needed-clause-told c =
    short c.args.words.now c.args.text.now _ c.count-n.ensures.0 (sym c.in_default.ensures) c.if-not-words.false
    (sym c.in_default-first_with.ensures) _ c.listed-needed.ensures.ends c.if-text-needed.true

pub returns-clause-told : goal.returns-clause-told
returns-clause-told c =
    done c.args.words.now c.args.text.now _ c.count-n.ensures.0 (sym c.in_default.ensures) c.if-not-words.false
    (sym c.in_default-first_with.ensures) _ c.listed-needed.ensures.ends c.if-text-needed.false c.listed.ensures

-- a place that is found is among the words
pub returns-in-Some-clause-among : goal.returns-in-Some-clause-among
returns-in-Some-clause-among c = among c.args.words.now _ c.count-n.ensures.0 _ _ c.in-Some.ensures

pub returns-in-Some-first_with-clause-among : goal.returns-in-Some-first_with-clause-among
returns-in-Some-first_with-clause-among c = among c.args.words.now _ c.count-n.ensures.0 _ _ c.in-Some-first_with.ensures
