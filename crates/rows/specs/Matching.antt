-- "A row matches when, under its masks, LC, bit 17, the selected TR byte, TSR bits 1-0 and I0-I6 equal its values", bit by bit, and "Outputs of all matching
-- rows are ORed", bit by bit.
use Rattle.std.specs.Prelude.{ℕ, ◌^◌, ◌<◌, ◌≡◌, true, List, [], ◌∷◌, ◌⊎◌}
use Rattle.choose.specs.Bits.{bit_at}
use Rattle.rows.specs.Scan.{matched_of}
use Rattle.rows.specs.declared.Row.{Row}
use Rattle.rows.specs.declared.Inputs.{Inputs}
use Rattle.rows.specs.declared.Outputs.{Outputs}

-- every bit that the mask has is in the input as it is in the value
abbrev pub EqualUnder : ℕ → ℕ → ℕ → Type 0
EqualUnder input mask value = (j : ℕ) → bit_at mask j ≡ 1 → bit_at input j ≡ bit_at value j

pub record Matches (r : Row) (i : Inputs) : Type 0 where
  pub lc : EqualUnder i.lc r.mask.lc r.value.lc
  pub rni : EqualUnder i.rni r.mask.rni r.value.rni
  pub tr : EqualUnder i.tr r.mask.tr r.value.tr
  pub tsr : EqualUnder i.tsr r.mask.tsr r.value.tsr
  pub interrupts : EqualUnder i.interrupts r.mask.interrupts r.value.interrupts

-- "a row value with a bit outside its mask" is what this is not
abbrev pub InMask : ℕ → ℕ → Type 0
InMask value mask = (j : ℕ) → bit_at value j ≡ 1 → bit_at mask j ≡ 1

-- "Out of range includes any unused bit set, a row value with a bit outside its mask": LC and the address have 11 bits, RNI 1, TSR bits 1-0 2, I0-I6 7, lines 3
-- and the new TSR 3; the TR byte uses all 8
pub record RowInRange (r : Row) : Type 0 where
  pub lc-mask : r.mask.lc < 2 ^ 11
  pub rni-mask : r.mask.rni < 2 ^ 1
  pub tsr-mask : r.mask.tsr < 2 ^ 2
  pub interrupt-mask : r.mask.interrupts < 2 ^ 7
  pub lc-value : InMask r.value.lc r.mask.lc
  pub rni-value : InMask r.value.rni r.mask.rni
  pub tr-value : InMask r.value.tr r.mask.tr
  pub tsr-value : InMask r.value.tsr r.mask.tsr
  pub interrupt-value : InMask r.value.interrupts r.mask.interrupts
  pub address : r.outputs.address < 2 ^ 11
  pub lines : r.outputs.lines < 2 ^ 3
  pub new-tsr : r.outputs.new_tsr < 2 ^ 3

-- some row of the list that matches has bit j in its output
abbrev pub SomeRow : (Outputs → ℕ) → ℕ → Inputs → List Row → Type 0
SomeRow output j i [] = ⊥
SomeRow output j i (r ∷ rs) = ((matched_of r i ≡ true) × (bit_at (output r.outputs) j ≡ 1)) ⊎ SomeRow output j i rs
