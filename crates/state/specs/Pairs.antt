-- Pairs by their designators, in 02's words. 02, L6.
use Rattle.std.specs.Prelude.{ℕ, ◌+◌, ◌-◌, ◌%◌, ◌≡◌, eqb}
use Rattle.choose.specs.Ranged.{pick}
use Rattle.state.specs.File.{slot_of}

-- a designator "with its lowest bit inverted": "of 3 it is 2; of 1, which names G register 2G+1, it is 0, register 2G"
abbrev pub inverted : ℕ → ℕ
inverted d = pick (eqb (d % 2) 1) (d - 1) (d + 1)

-- "pairs may now overlap crosswise": each has its low byte where the other has its high byte
pub record Crosswise (g a b : ℕ) : Type 0 where
  pub low : slot_of g b ≡ slot_of g (inverted a)
  pub high : slot_of g (inverted b) ≡ slot_of g a
