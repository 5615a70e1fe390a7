-- The buffer is written in two parts, or has another length.
use Rattle.std.proofs.Common.{arith}
use Rattle.state_bytes.proofs.Steps.{stored, unstored}
use Rattle.state_bytes.proofs.store.Goals as goal

pub returns-then-out-eq-STATE_BYTES : goal.returns-then-out-eq-STATE_BYTES
returns-then-out-eq-STATE_BYTES c =
    rw (c.copy_from_slice.ensures.after, c.copy_from_slice-then-out-eq-STATE_BYTES.ensures.after, c.tail.ensures)
    (stored c.args.out.now c.args.file.now c.args.core (omega arith))

pub returns-else-out-eq-STATE_BYTES : goal.returns-else-out-eq-STATE_BYTES
returns-else-out-eq-STATE_BYTES c = unstored c.args.out.now c.args.file.now c.args.core c.if-out-eq-STATE_BYTES.false
