-- A choice by ranges of a number, of anything: the form of a `match` with ranges.
use Rattle.std.specs.Prelude.{ℕ, Bool, true, false, List, [], ◌∷◌, ltb}

-- a test as a number
abbrev pub bit : Bool → ℕ
bit true = 1
bit false = 0

module _ {A : Type 0} where
  -- the first where the test holds, else the second
  abbrev pub pick : Bool → A → A → A
  pick true a b = a
  pick false a b = b

  -- what stands beside the first end above x; past them all, d
  unfoldable pub ranged : ℕ → List (ℕ × A) → A → A
  ranged x [] d = d
  ranged x (m ∷ ms) d = pick (ltb x m.0) m.1 (ranged x ms d)
