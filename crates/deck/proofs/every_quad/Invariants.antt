use Rattle.std.proofs.Common.{◌≡◌, eqb, bit_and}
use Rattle.choose.specs.Below.{all_below}
use Rattle.numbers.specs.Numbers.{word_at}
use Rattle.deck.proofs.every_quad.Given as goal

-- nothing was seen just where the elements passed are clear
abbrev pub invariant-loop-b0 : goal.invariant-loop-b0
invariant-loop-b0 l = eqb l.seen 0 ≡ all_below l.b0-index (λ i. eqb (bit_and (word_at l.part i) l.unused) 0)
