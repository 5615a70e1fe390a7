-- 01's own names of the registers beside the 26 places of the file: "GC-GF are RC-RF, which makes 10 + 4 + 12 = 26".
use Rattle.std.specs.Prelude.{ℕ, ◌+◌, ◌-◌, ◌*◌, ◌<◌, ◌≡◌, ◌↔◌, ltb}
use Rattle.choose.specs.Ranged.{pick}
use Rattle.state.specs.File.{slot_of}

-- R2-RF, and G0-GB
pub data Register : Type 0 where
  R : ℕ → Register
  G : ℕ → Register

-- "GC-GF are RC-RF"
abbrev pub g_name : ℕ → Register
g_name j = pick (ltb j 0xC) (G j) (R j)

-- "Designators 2-F are R2-RF. Designators 0 and 1 name G register 2G or 2G+1, by G before the attempt"
abbrev pub name_of : ℕ → ℕ → Register
name_of g d = pick (ltb d 2) (g_name (2 * g + d)) (R d)

-- the places in their order, "G0-GB, R2-RF": 12 and 14, which are 10 and 4
abbrev pub name_at : ℕ → Register
name_at i = pick (ltb i 12) (G i) (R (i - 10))

-- a designator d with G g: "G (0-7)", and d has four bits
abbrev pub Designates : ℕ → ℕ → Type 0
Designates g d = (g < 8) × (d < 0x10)

-- two designators name one place exactly where 01 names one register by them
abbrev pub OnePlace : ℕ → ℕ → ℕ → ℕ → Type 0
OnePlace g d g' d' = (slot_of g d ≡ slot_of g' d') ↔ (name_of g d ≡ name_of g' d')

-- place i is reached
abbrev pub Reached : ℕ → Type 0
Reached i = (g : ℕ) × (d : ℕ) × Designates g d × (slot_of g d ≡ i)
