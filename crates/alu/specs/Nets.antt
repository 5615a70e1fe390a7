-- The carry nets of the byte adder. 02, L4: "Work out C4 and the carry into position 7 from the bits of the operands and the sum".
use Rattle.std.specs.Prelude.{ℕ, ◌+◌, ◌%◌, ◌^◌, Bool, eqb, leb}
use Rattle.std.specs.Int.Bits.{bit_xor}
use Rattle.choose.specs.Bits.{bit_at}
use Rattle.choose.specs.Ranged.{bit}

-- "the bits of p xor q xor s", s the sum of p, q and the carry in
abbrev pub nets_of : ℕ → ℕ → Bool → ℕ
nets_of p q c = bit_xor (bit_xor p q) (p + q + bit c)

-- net i is high
abbrev pub net_of : ℕ → ℕ → ℕ → Bool → Bool
net_of i p q c = eqb (bit_at (nets_of p q c) i) 1

-- the carry into position i: what the low i bits of p, q and the carry in sum to is 2^i or more
abbrev pub carry_into : ℕ → ℕ → ℕ → Bool → Bool
carry_into i p q c = leb (2 ^ i) (p % 2 ^ i + q % 2 ^ i + bit c)
