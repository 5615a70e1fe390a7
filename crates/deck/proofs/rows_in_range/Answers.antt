use mathlib.Core.Path.{◌≡◌, sym, ap, ◌∙◌}
use borrow.Author.Tests.{le-leb}
use Rattle.std.proofs.Common.{arith, ◌/◌, length}
use Rattle.choose.proofs.Table.{all-fails}
use Rattle.rows.specs.Range.{row_in_range}
use Rattle.deck.specs.Ranges.{rows_part_in_range}
use Rattle.deck.proofs.Every.{rows-every}
use Rattle.deck.proofs.rows_in_range.Goals as goal

pub returns-then-not-in_range : goal.returns-then-not-in_range
unfolding rows_part_in_range
returns-then-not-in_range c =
    let part = c.args.part.now in
    let out = sym (c.in_range.ensures ∙ ap row_in_range c.row_at.ensures) ∙ c.if-not-in_range.true in
    rw (le-leb (length part / 16) 128 (omega arith), rows-every part (length part / 16)) (sym (all-fails _ _ c.loop-i.i c.loop-i-test.true out))

pub returns : goal.returns
unfolding rows_part_in_range
returns c =
    let part = c.args.part.now in
    let e : c.loop-i.i ≡ length part / 16 = omega arith in
    rw (le-leb (length part / 16) 128 (omega arith), rows-every part (length part / 16)) (sym (rw e at c.loop-i.invariant))
