-- A bad line gives the report, a good one its gap and its word; then the lines after it.
use mathlib.Core.Path.{sym, ◌∙◌}
use Rattle.std.proofs.Common.{arith}
use Rattle.line.proofs.Laws.{taken}
use Rattle.listing.specs.Assembled.{bytes_of}
use Rattle.listing.proofs.Laws.{gap-word-step}
use Rattle.listing.proofs.Lines.{bad-words, bad-refusal, good-words, good-refusal, no_words, no-refusal}
use Rattle.listing.proofs.assembled.Goals as goal

pub returns-in-Err : goal.returns-in-Err
unfolding bytes_of
returns-in-Err c =
    let bad = sym c.in-Err.ensures in (
      sym (c.loop-line.invariant.report ∙ bad-refusal _ _ _ c.in-Some.ensures.first _ _ _ bad),
      sym (rw (bad-words _ _ _ c.in-Some.ensures.first _ _ bad) at c.loop-line.invariant.written),
    )

pub overflow_add-next : goal.overflow_add-next
overflow_add-next c = omega (arith, (taken _ _ _ _ (sym c.in-Ok.ensures)).below)

pub loop-line-preserved : goal.loop-line-preserved
loop-line-preserved c =
    let good = sym c.in-Ok.ensures in
    let t = taken _ _ _ _ good in
    let step = good-words _ _ _ c.in-Some.ensures.first _ _ _ good in
    record {
      low = omega (arith, t.below);
      counted = omega (arith, t.rising, c.loop-line.invariant.counted);
      report = c.loop-line.invariant.report ∙ good-refusal _ _ _ c.in-Some.ensures.first _ _ _ _ good;
      written = rw (c.put_word.ensures, c.fill.ensures) (rw (step, gap-word-step _ _ _ _ _ t.rising) at c.loop-line.invariant.written);
    }

pub returns : goal.returns
unfolding bytes_of
returns c = (
  sym (c.loop-line.invariant.report ∙ no-refusal _ c.in_default.ensures.first _ _),
  sym (rw (no_words _ c.in_default.ensures.first _) at c.loop-line.invariant.written),
)
