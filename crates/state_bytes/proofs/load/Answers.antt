use Rattle.std.proofs.Common.{◌≡◌, arith, ◌∙◌}
use Rattle.state_bytes.proofs.Steps.{fill_more, loaded}
use Rattle.state_bytes.proofs.load.Goals as goal

pub loop-i-preserved : goal.loop-i-preserved
loop-i-preserved c =
    let step = fill_more c.args.file.now c.args.s.now c.loop-i.i c.byte_at.result in
    rw c.loop-i.invariant (step c.told-file c.loop-i-test.true c.byte_at.ensures)

pub returns : goal.returns
returns c =
    let all : c.loop-i.i ≡ 26 = omega arith in
    record { core = c.core_in.ensures; file = c.loop-i.invariant ∙ rw all (loaded c.args.file.now c.args.s.now c.told-file) }
