-- One word of the gap, and those after it.
use Rattle.std.proofs.Common.{◌≡◌, ◌-◌, arith}
use Rattle.listing.specs.Assembled.{bytes_of}
use Rattle.listing.proofs.Laws.{word-step, gap_step}
use Rattle.listing.proofs.fill.Goals as goal

pub loop-at-preserved : goal.loop-at-preserved
loop-at-preserved c = rw (c.put_word.ensures, ← word-step) (rw (gap_step _ _ _ c.loop-at-test.true) at c.loop-at.invariant)

pub returns : goal.returns
unfolding bytes_of
returns c = let all : c.args.address - c.loop-at.at ≡ 0 = omega arith in rw all at c.loop-at.invariant
