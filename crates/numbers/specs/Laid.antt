-- Numbers laid out one after the other, each with its width in bytes: where a number stands is told by the widths before it alone.
use Rattle.std.specs.Prelude.{◌≡◌, List, [], ◌∷◌, ℕ, zero, suc, ◌+◌, ◌*◌, ◌≤◌}
use Rattle.numbers.specs.Numbers.{byte_at}

-- the number in the w bytes from byte at on, "low first"
abbrev pub number_at : List ℕ → ℕ → ℕ → ℕ
number_at s at zero = 0
number_at s at (suc w) = byte_at s at + 256 * number_at s (at + 1) w

-- from byte at + past on, P of each number and what stands beside its width
abbrev pub Laid : (ℕ → ℕ → Type 0) → List ℕ → ℕ → ℕ → List (ℕ × ℕ) → Type 0
Laid P s at past [] = Unit {0}
Laid P s at past (f ∷ fs) = P (number_at s (at + past) f.0) f.1 × Laid P s at (past + f.0) fs

-- the bytes from at on hold these numbers: a width and a number each
abbrev pub LaidOut : List ℕ → ℕ → List (ℕ × ℕ) → Type 0
LaidOut s at fs = Laid ◌≡◌ s at 0 fs

-- none of the numbers there is over its limit: a width and a limit each
abbrev pub LaidWithin : List ℕ → ℕ → List (ℕ × ℕ) → Type 0
LaidWithin s at fs = Laid ◌≤◌ s at 0 fs
