-- How the code matches rows: masks side by side in one number, values in another, outputs in a third, so that one AND and one comparison decide. This is the
-- code's way only; `scan-packed` says that it gives what Scan says of rows in range.
use Rattle.std.specs.Prelude.{Bool, List, [], ◌∷◌, ℕ, ◌+◌, ◌*◌, ◌/◌, ◌%◌, eqb}
use Rattle.std.specs.Int.Bits.{bit_and, bit_or}
use Rattle.choose.specs.Ranged.{pick}
use Rattle.rows.specs.declared.Row.{Row}
use Rattle.rows.specs.declared.Packed.{Packed}
use Rattle.rows.specs.declared.Inputs.{Inputs}
use Rattle.rows.specs.declared.Outputs.{Outputs}

-- LC in bits 0-10, RNI in 11, TSR bits 1-0 in 12-13, I0-I6 in 14-20, the TR byte above them
unfoldable pub side_by_side : Inputs → ℕ
side_by_side i = i.lc % 0x800 + 0x800 * (i.rni % 2) + 0x1000 * (i.tsr % 4) + 0x4000 * (i.interrupts % 128) + 0x20_0000 * i.tr

unfoldable pub packed_of : Row → Packed
packed_of r =
    record {
      mask = side_by_side r.mask;
      value = side_by_side r.value;
      outputs = r.outputs.address + 0x1_0000 * r.outputs.lines + 0x100_0000 * r.outputs.new_tsr;
    }

unfoldable pub packed_rows : List Row → List Packed
packed_rows [] = []
packed_rows (r ∷ rs) = packed_of r ∷ packed_rows rs

abbrev pub key_of : Inputs → ℕ
key_of i = side_by_side i

unfoldable pub matched_in : Packed → ℕ → Bool
matched_in p key = eqb (bit_and key p.mask) p.value

unfoldable pub merged_in : ℕ → Packed → ℕ → ℕ
merged_in o p key = pick (matched_in p key) (bit_or o p.outputs) o

-- the outputs o, and those of the rows after them
unfoldable pub scanned_in : ℕ → List Packed → ℕ → ℕ
scanned_in o [] key = o
scanned_in o (p ∷ ps) key = scanned_in (merged_in o p key) ps key

abbrev pub outputs_in : ℕ → Outputs
outputs_in o = record { address = o % 0x1_0000; lines = o / 0x1_0000 % 0x100; new_tsr = o / 0x100_0000 }

abbrev pub scan_in : List Packed → Inputs → Outputs
scan_in ps i = outputs_in (scanned_in 0 ps (key_of i))
