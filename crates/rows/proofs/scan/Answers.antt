use Rattle.std.proofs.Common.{◌∙◌, sym}
use Rattle.rows.proofs.Steps.{scan-end}
use Rattle.rows.proofs.scan.Goals as goal

pub returns : goal.returns
returns c =
    let all = sym (scan-end c.args.rows.now c.loop-row.row-index c.loop-row.o c.key-key.result c.loop-row-test.false) ∙ c.loop-row.invariant.1 in
    rw (c.unpacked.ensures, all, c.key-key.ensures)
