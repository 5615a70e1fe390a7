-- One line of the listing, and those after it.
use mathlib.Core.Path.{◌≡◌, ap, ◌∙◌}
use Rattle.std.proofs.Common.{ℕ, List, length, ◌+◌, ◌*◌, ◌-◌, ◌<◌, ◌≤◌, ◌++◌, arith}
use lib.ListN.{length-append}
use Rattle.numbers.specs.Numbers.{word_at}
use Rattle.std.proofs.lemmas.List.Edits.{sets}
use Rattle.listing.specs.Laid.{Laid}
use Rattle.listing.specs.Listed.{word_line, listing_from}
use Rattle.listing.proofs.Laws.{sets-append, listing_step}
use Rattle.listing.proofs.listed.Invariants.{Goes, rest, whole}
use Rattle.listing.proofs.listed.Goals as goal

step : {before text : List ℕ} {at : ℕ} (words : List ℕ) (n i : ℕ) → i < n → Goes words n before text at i → (w : ℕ) → w ≡ word_at words i
    → (bs after : List ℕ) → bs ≡ word_line i w → length bs ≤ 40 → after ≡ sets text at bs → Goes words n before after (at + length bs) (i + 1)
step {before} {text} {at} words n i h goes w e bs after same few put =
    let split : rest words n i ≡ bs ++ rest words n (i + 1) = rw (same, e) (listing_step words n i h) in
    record {
      within = omega arith;
      short = omega (arith, goes.short);
      bytes = rw (put, ← sets-append, ← split) goes.bytes;
      ends = omega (arith, goes.ends, ap length split, length-append bs (rest words n (i + 1)));
    }

-- no line is left
all_laid : {before text : List ℕ} {at : ℕ} (words : List ℕ) (n i : ℕ) → n ≤ i → Goes words n before text at i → Laid before 0 (whole words n) (40 * n) text at
unfolding listing_from
all_laid {before} {text} {at} words n i h goes =
    let none : n - i ≡ 0 = omega arith in
    let all = rw none at goes.ends in
    record { bytes = rw none at goes.bytes; ends = omega (arith, all); short = omega (arith, all, goes.short, goes.within) }

pub loop-address-preserved : goal.loop-address-preserved
loop-address-preserved c =
    step c.args.words.now c.args.n _ c.loop-address-test.true c.loop-address.invariant _ c.word.ensures _ _
    (c.as_bytes-bytes.ensures.text ∙ c.word_line-line.ensures) c.as_bytes-bytes.ensures.short c.put.ensures

pub returns : goal.returns
returns c = all_laid c.args.words.now c.args.n c.loop-address.address c.loop-address-test.false c.loop-address.invariant
