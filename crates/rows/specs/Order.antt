-- "Rows: 16 bytes, namely LC mask, LC value (2 each), RNI mask and value, TR byte mask and value, TSR mask and value, interrupt mask and value (1 each),
-- address (2), lines (bit 0 LTA, 1 LRA, 2 LTSR), new TSR": this order as a list, each number with its width.
use Rattle.std.specs.Prelude.{ℕ, List, [], ◌∷◌}
use Rattle.rows.specs.declared.Row.{Row}

abbrev pub row_order : Row → List (ℕ × ℕ)
row_order r =
    (2, r.mask.lc)
    ∷ (2, r.value.lc)
    ∷ (1, r.mask.rni)
    ∷ (1, r.value.rni)
    ∷ (1, r.mask.tr)
    ∷ (1, r.value.tr)
    ∷ (1, r.mask.tsr)
    ∷ (1, r.value.tsr)
    ∷ (1, r.mask.interrupts)
    ∷ (1, r.value.interrupts)
    ∷ (2, r.outputs.address)
    ∷ (1, r.outputs.lines)
    ∷ (1, r.outputs.new_tsr)
    ∷ []
