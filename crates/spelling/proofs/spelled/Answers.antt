-- Its parts one after the other.
use Rattle.std.proofs.Common.{arith}
use Rattle.spelling.specs.Spelling.{spelled_of}
use Rattle.spelling.proofs.Laws.{◌then◌, alone}
use Rattle.spelling.proofs.spelled.Goals as goal

pub returns : goal.returns
unfolding spelled_of
returns c =
    let all = c.number.ensures then c.push.ensures then c.letters.ensures then c.operands.ensures then c.marks.ensures then c.push-2.ensures in
    rw (← c.mnemonic_of.ensures, ← c.form_of.ensures, ← c.low_of.ensures.0)
    (record { text = alone all c.new-line.ensures (omega arith); short = all.short })
