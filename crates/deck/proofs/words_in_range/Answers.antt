use Rattle.std.proofs.Common.{arith}
use Rattle.numbers.proofs.Laws.{bytes-each}
use Rattle.deck.specs.Ranges.{words_in_range}
use Rattle.deck.proofs.Every.{words-every}
use Rattle.deck.proofs.words_in_range.Goals as goal

pub returns : goal.returns
unfolding words_in_range
returns c =
    let s = c.args.part.now in
    rw (c.every_quad.ensures, words-every s (bytes-each s (λ i. omega (arith, c.type_inv.part i))))
