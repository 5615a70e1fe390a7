-- Tests over every number below n, and over every entry of a table: what the checker computes.
use Rattle.std.specs.Prelude.{ℕ, zero, suc, Bool, true, false, ◌&&◌, List, [], ◌∷◌, eqb}
use Rattle.std.specs.Bool.{beq}

-- f holds at every number below n
abbrev pub all_below : ℕ → (ℕ → Bool) → Bool
all_below zero f = true
all_below (suc n) f = f n && all_below n f

-- the numbers of each pair are equal
abbrev pub all_equal : List (ℕ × ℕ) → Bool
all_equal [] = true
all_equal (p ∷ ps) = eqb p.0 p.1 && all_equal ps

-- the tests of each pair are the same
abbrev pub all_same : List (Bool × Bool) → Bool
all_same [] = true
all_same (p ∷ ps) = beq p.0 p.1 && all_same ps

-- one more where the test holds
abbrev pub more : Bool → ℕ → ℕ
more true n = suc n
more false n = n

-- how many numbers below n have f
abbrev pub count_below : ℕ → (ℕ → Bool) → ℕ
count_below zero f = zero
count_below (suc n) f = more (f n) (count_below n f)

-- f holds at each entry of a table and its place, counted from i
abbrev pub every : (ℕ → ℕ → Bool) → ℕ → List ℕ → Bool
every f i [] = true
every f i (x ∷ xs) = f i x && every f (suc i) xs

module _ {A : Type 0} where
  -- f of i, i + 1, .., n of them
  abbrev pub firsts : (ℕ → A) → ℕ → ℕ → List A
  firsts f i zero = []
  firsts f i (suc n) = f i ∷ firsts f (suc i) n
