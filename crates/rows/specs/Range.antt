-- Which rows are in range: "Out of range includes any unused bit set, a row value with a bit outside its mask".
use Rattle.std.specs.Prelude.{Bool, true, ◌&&◌, List, [], ◌∷◌, ℕ, ◌≤◌, eqb, leb}
use Rattle.std.specs.Int.Bits.{bit_and}
use Rattle.rows.specs.declared.Row.{Row}
use Rattle.rows.specs.declared.Inputs.{Inputs}
use Rattle.rows.specs.declared.Outputs.{Outputs}

-- "any unused bit set", in a mask: LC has 11 bits, RNI 1, TSR bits 1-0 2 and I0-I6 7; the TR byte uses all 8
unfoldable pub masks_fit : Inputs → Bool
masks_fit m = leb m.lc 2047 && leb m.rni 1 && leb m.tsr 3 && leb m.interrupts 127

-- the same, in an output: the address has 11 bits, the lines 3 and the new TSR 3
unfoldable pub outputs_fit : Outputs → Bool
outputs_fit o = leb o.address 2047 && leb o.lines 7 && leb o.new_tsr 7

-- "a row value with a bit outside its mask" is one that its mask changes
abbrev pub in_mask : ℕ → ℕ → Bool
in_mask value mask = eqb (bit_and value mask) value

-- none of the five values has a bit outside its mask
unfoldable pub values_in_masks : Row → Bool
values_in_masks r =
    in_mask r.value.lc r.mask.lc
    && in_mask r.value.rni r.mask.rni
    && in_mask r.value.tr r.mask.tr
    && in_mask r.value.tsr r.mask.tsr
    && in_mask r.value.interrupts r.mask.interrupts

-- "a row out of range" is one that is not this
unfoldable pub row_in_range : Row → Bool
row_in_range r = masks_fit r.mask && outputs_fit r.outputs && values_in_masks r

-- no row of a list is out of range
unfoldable pub rows_in_range : List Row → Bool
rows_in_range [] = true
rows_in_range (r ∷ rs) = row_in_range r && rows_in_range rs

-- the outputs that rows in range can give
pub record OutputsInRange (o : Outputs) : Type 0 where
  pub address : o.address ≤ 2047
  pub lines : o.lines ≤ 7
  pub tsr : o.new_tsr ≤ 7
