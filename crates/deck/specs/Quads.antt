-- How the code tests words and samples: both are numbers of four bytes with bits that are not used. This is the code's way only; Every
-- says that it is what Ranges asks.
use Rattle.std.specs.Prelude.{Bool, List, ℕ, ◌/◌, eqb, length}
use Rattle.std.specs.Int.Bits.{bit_and}
use Rattle.numbers.specs.Numbers.{word_at}
use Rattle.choose.specs.Below.{all_below}

-- no whole element of four bytes has one of the unused bits
unfoldable pub every_quad : List ℕ → ℕ → Bool
every_quad s unused = all_below (length s / 4) (λ i. eqb (bit_and (word_at s i) unused) 0)
