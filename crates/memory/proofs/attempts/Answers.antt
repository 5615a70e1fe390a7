-- The attempt is refused, or it counts and the memory takes its request; and after the last one the run is whole.
use Rattle.std.proofs.Common.{arith, refl, ◌∙◌}
use Rattle.attempt.specs.Outcome.{unrefused, outcome_of}
use Rattle.memory.proofs.Loop.{turned, stopped, ends}
use Rattle.memory.proofs.attempts.Goals as goal
use Rattle.memory.specs.Run.{seen_by}
use Rattle.refusals.specs.Refusals.{number_of}
use Rattle.refusals.proofs.Laws.{not-0}
use Rattle.state.specs.File.{leaves}

pub loop-i-preserved : goal.loop-i-preserved
unfolding seen_by
loop-i-preserved c =
    rw (c.after-kept.ensures, c.put4.ensures, c.store.ensures)
    (turned _ _ _ _ _ _ _ _ _ _ _ _ _ _ c.loop-i.invariant c.loop-i-test.true _ _
    (rw (c.sample-external.ensures, c.whole-m.ensures) at c.inputs.ensures) (rw (c.load-table.ensures, c.whole-m.ensures) at c.scan-o.ensures)
    (leaves c.attempted.new.file (unrefused c.in-Ok.done)) (rw c.sample-external.ensures at c.in-Ok.ensures)
    _ c.transfer-transfer.ensures refl (omega arith))

pub returns-in-Err : goal.returns-in-Err
unfolding seen_by
returns-in-Err c =
    stopped _ _ _ _ _ _ _ _ _ _ _ _ _ _ c.loop-i.invariant c.loop-i-test.true _ _
    (rw (c.sample-external.ensures, c.whole-m.ensures) at c.inputs.ensures) (rw (c.load-table.ensures, c.whole-m.ensures) at c.scan-o.ensures)
    (leaves c.attempted.new.file (outcome_of c.loop-i.core 0 0 (number_of c.in-Err.refusal))) (rw c.sample-external.ensures at c.in-Err.ensures)
    (not-0 c.in-Err.refusal)

pub returns : goal.returns
returns c = ends _ _ _ _ _ _ _ _ _ _ _ _ _ _ c.loop-i.invariant (omega (arith, c.loop-i-test.false, c.loop-i.auto.i-end))
