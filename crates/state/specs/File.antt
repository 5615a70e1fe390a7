-- The register file of 26, and the registers that designators name. 01, "Registers".
use Rattle.std.specs.Prelude.{ℕ, ◌+◌, ◌*◌, ◌%◌, List, ltb, leb, get_or, set}
use Rattle.std.specs.Int.Bits.{bit_xor}
use Rattle.choose.specs.Ranged.{pick}

-- what something leaves in the register file, and what it gives back: a cycle, flags, an effect, an outcome
pub record Leaves (A : Type 0) : Type 0 where
  pub file : List ℕ
  pub back : A

module _ {A : Type 0} where
  abbrev pub leaves : List ℕ → A → Leaves A
  leaves xs a = record { file = xs; back = a }

-- G0-GB stand at 0-11; "GC-GF are RC-RF", at 22-25
abbrev pub g_slot : ℕ → ℕ
g_slot j = pick (ltb j 12) j (10 + j)

-- "Designators 2-F are R2-RF", at 12-25; "0 and 1 name G register 2G or 2G+1"
unfoldable pub slot_of : ℕ → ℕ → ℕ
slot_of g d = pick (leb 2 (d % 16)) (10 + d % 16) (g_slot (g % 8 * 2 + d % 16))

-- 02, L6: "the high byte's designator is the low one's with its lowest bit inverted"
unfoldable pub high_of : ℕ → ℕ
high_of d = bit_xor (d % 16) 1

unfoldable pub register_of : List ℕ → ℕ → ℕ → ℕ
register_of xs g d = get_or xs (slot_of g d) 0

unfoldable pub written_of : List ℕ → ℕ → ℕ → ℕ → List ℕ
written_of xs g d v = set xs (slot_of g d) v
