-- The attempt is refused, or it counts and its place is written; and after the last one the run is whole.
use Rattle.std.proofs.Common.{arith, refl}
use Rattle.attempt.specs.Outcome.{unrefused, outcome_of}
use Rattle.engine.proofs.Loop.{turned, stopped, ends}
use Rattle.engine.proofs.attempts.Goals as goal
use Rattle.refusals.specs.Refusals.{number_of}
use Rattle.refusals.proofs.Laws.{not-0}
use Rattle.state.specs.File.{leaves}

pub loop-i-preserved : goal.loop-i-preserved
loop-i-preserved c =
    rw c.put4.ensures
    (turned _ _ _ _ _ _ _ _ _ _ _ c.loop-i.invariant c.loop-i-test.true _ _
    (rw (c.sample-sample.ensures, c.whole-m.ensures) at c.inputs.ensures) (rw (c.load-table.ensures, c.whole-m.ensures) at c.scan-o.ensures)
    (leaves c.attempt.new.file (unrefused c.in-Ok.done)) (rw c.sample-sample.ensures at c.in-Ok.ensures) refl (omega arith))

pub returns-in-Err : goal.returns-in-Err
returns-in-Err c =
    stopped _ _ _ _ _ _ _ _ _ _ _ c.loop-i.invariant c.loop-i-test.true _ _
    (rw (c.sample-sample.ensures, c.whole-m.ensures) at c.inputs.ensures) (rw (c.load-table.ensures, c.whole-m.ensures) at c.scan-o.ensures)
    (leaves c.attempt.new.file (outcome_of c.loop-i.core 0 0 (number_of c.in-Err.refusal))) (rw c.sample-sample.ensures at c.in-Err.ensures)
    (not-0 c.in-Err.refusal)

pub returns : goal.returns
returns c = ends _ _ _ _ _ _ _ _ _ _ _ c.loop-i.invariant (omega (arith, c.loop-i-test.false, c.loop-i.auto.i-end))
