-- A byte that has room stands in its place, and the others nowhere.
use mathlib.Core.Path.{sym, ◌∙◌}
use Rattle.std.proofs.Common.{arith}
use Rattle.listing.proofs.Laws.{past_end, sets-step, sets-past}
use Rattle.listing.proofs.put.Goals as goal
use Rattle.listing.proofs.put.Goals.{then-at-i, else-at-i}

pub loop-i-preserved : goal.loop-i-preserved
loop-i-preserved c = elim c.if-at-i.branch [
  | then-at-i w ↦ rw w.out-is (sym (sets-step c.loop-i.out c.args.at c.loop-i.i c.args.bytes.now c.loop-i-test.true) ∙ c.loop-i.invariant)
  | else-at-i w ↦ rw w.out-is (sym (sets-past c.loop-i.out c.args.at c.loop-i.i c.args.bytes.now (omega (arith, w.if-at-i.false))) ∙ c.loop-i.invariant)
]

pub returns-else-at-out : goal.returns-else-at-out
returns-else-at-out c = sym (past_end c.args.bytes.now _ _ c.if-at-out.false)
