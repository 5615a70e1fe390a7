-- Tests as the bits of a number, listed from either end; and one bit of a number.
use Rattle.std.specs.Prelude.{ℕ, zero, suc, ◌+◌, ◌*◌, ◌/◌, ◌%◌, Bool, List, [], ◌∷◌}
use Rattle.choose.specs.Ranged.{bit}

-- "high to low": the number whose bits are x's and then these
abbrev pub down_from : ℕ → List Bool → ℕ
down_from x [] = x
down_from x (t ∷ ts) = down_from (x * 2 + bit t) ts

abbrev pub high_to_low : List Bool → ℕ
high_to_low ts = down_from 0 ts

-- "bit 0 .., 1 .., 2 ..": the number whose bits these are, from bit 0 up
abbrev pub from_bit0 : List Bool → ℕ
from_bit0 [] = 0
from_bit0 (t ∷ ts) = bit t + 2 * from_bit0 ts

-- bit j of x
abbrev pub bit_at : ℕ → ℕ → ℕ
bit_at x zero = x % 2
bit_at x (suc j) = bit_at (x / 2) j
