-- What the bytes start with, by the place of each part.
use Rattle.std.proofs.Common.{◌≡◌, ◌∙◌, ◌+◌, ◌*◌, ◌≤◌, List, ℕ, length, take, drop, get_or, arith, get_or-take}
use lib.Seq.{drop-drop}
use Rattle.numbers.specs.Numbers.{pair_of}
use Rattle.deck.specs.Sections.{count_at, section_end, part_of}
use Rattle.deck.proofs.section.Goals as goal

count_is : (s count : List ℕ) → count ≡ take 2 s → pair_of (get_or count 0 0) (get_or count 1 0) ≡ count_at s 0
count_is s count e = rw (e, get_or-take 2 s 0 0 (omega arith), get_or-take 2 s 1 0 (omega arith))

parts_at : (s after : List ℕ) (size n : ℕ) → n ≡ count_at s 0 → after ≡ drop 2 s → length after + 2 ≡ length s → size * n ≤ length after
    → (section_end s 0 size ≤ length s) × (take (size * n) after ≡ part_of s 0 size) × (drop (size * n) after ≡ drop (section_end s 0 size) s)
unfolding section_end
parts_at s after size n e a l h = rw (← e) (omega arith, rw a, rw a (drop-drop (size * n) 2 s))

pub returns-then-n-after : goal.returns-then-n-after
returns-then-n-after c =
    let s = c.args.bytes.now in
    let start = c.in_ok-low.ensures.cases in
    let cut = c.split_at.ensures in
    let count = c.pair.ensures ∙ count_is s c.in_ok-low.field-0-0.now start.0 in
    let all = parts_at s c.in_ok-low.after.now c.args.size c.pair.result count start.1 start.2 c.if-n-after.true in
    (all.0, cut.front ∙ all.1, cut.back ∙ all.2)

pub returns-else-n-after : goal.returns-else-n-after
unfolding section_end
returns-else-n-after c =
    let s = c.args.bytes.now in
    let start = c.in_ok-low.ensures.cases in
    let count : c.pair.result ≡ count_at s 0 = c.pair.ensures ∙ count_is s c.in_ok-low.field-0-0.now start.0 in
    rw (← count) (omega (arith, start.2, c.if-n-after.false))
