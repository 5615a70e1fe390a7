-- "Samples: data, lines (bit 0 REPLY, 1 BUSY, 2 COMPUTE, 3 RESET, 4 ICS), I0-I3 in bits 0-3": this order as a list, each number with its width.
use Rattle.std.specs.Prelude.{ℕ, List, [], ◌∷◌}
use Rattle.choose.specs.Bits.{from_bit0}
use Rattle.state.specs.declared.Sample.{Sample}

abbrev pub sample_order : Sample → List (ℕ × ℕ)
sample_order x = (2, x.dal) ∷ (1, from_bit0 (x.reply ∷ x.busy ∷ x.compute ∷ x.reset ∷ x.ics ∷ [])) ∷ (1, x.interrupts) ∷ []
