use Rattle.std.proofs.Common.{arith}
use Rattle.numbers.proofs.Laws.{bytes-each}
use Rattle.deck.specs.Ranges.{samples_in_range}
use Rattle.deck.proofs.Every.{samples-every}
use Rattle.deck.proofs.samples_in_range.Goals as goal

pub returns : goal.returns
unfolding samples_in_range
returns c =
    let s = c.args.part.now in
    rw (c.every_quad.ensures, samples-every s (bytes-each s (λ i. omega (arith, c.type_inv.part i))))
