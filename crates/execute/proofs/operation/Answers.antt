-- When the loop ends it has run the operation's one or two cycles.
use Rattle.std.proofs.Common.{◌≡◌, ◌∙◌, ◌+◌, ◌/◌, ◌%◌, ap, sym, add-one, arith, rules}
use Rattle.execute.proofs.Cycled.{flagged, operates}
use Rattle.execute.proofs.operation.Goals as goal

pub loop-preserved : goal.loop-preserved
loop-preserved c = rw (add-one c.loop.counter, c.loop.invariant, ← c.designators.ensures, ← c.step-y.ensures)

pub returns : goal.returns
returns c =
    let x = c.args in
    let e : c.loop.counter ≡ 1 + x.code / 2 % 2 = omega arith in
    rw c.after.ensures
    (ap (flagged x.g x.f x.code x.at.b x.at.a) (sym c.loop.invariant) ∙ rw e (operates x.g x.f x.code x.at.b x.at.a x.file.now _ (search rules)))
