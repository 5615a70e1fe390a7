-- A word that breaks a rule is told, one that breaks none is looked past.
use mathlib.Core.Path.{sym, ◌∙◌}
use Rattle.profile.proofs.Laws.{rule_not-0, broken-here, broken-after, none_left}
use Rattle.profile.proofs.first_broken.Goals as goal

pub returns-in-Some : goal.returns-in-Some
returns-in-Some c =
    let here = rw c.word.ensures at c.in-Some.ensures in
    let broken = broken-here c.args.words.now c.args.n c.loop-address.address c.loop-address-test.true (λ z. rule_not-0 c.in-Some.rule (here ∙ z)) in
    rw here (sym (c.loop-address.invariant ∙ broken))

pub loop-address-preserved : goal.loop-address-preserved
loop-address-preserved c =
    let here = rw c.word.ensures at c.in_default.ensures in
    c.loop-address.invariant ∙ broken-after c.args.words.now c.args.n c.loop-address.address c.loop-address-test.true (sym here)

pub returns : goal.returns
returns c = sym (c.loop-address.invariant ∙ none_left c.args.words.now c.args.n c.loop-address.address c.loop-address-test.false)
