-- Laws that other crates cite, each by induction over the rows: of no rows, of rows in range, and of the table that `load` makes. Assumes nothing.
use mathlib.Core.Path.{◌≡◌, refl, ap, ◌∙◌}
use mathlib.Core.Bool.{true, ◌&&◌, and-eq-true_iff, and_assoc}
use mathlib.Core.List.{List, [], ◌∷◌, ◌++◌}
use Prim.Native.Nat.{ℕ, zero, suc, ◌*◌, ◌≤◌, zero-le}
use native.Mathlib.Numerals.{add-one}
use native.Mathlib.Omega.{arith}
use borrow.Author.Tests.{leb-true}
use lib.Bits.{or_lt}
use lib.Dec.{leb}
use lib.ListN.{length, take, length-append}
use lib.Seq.{take_at}
use Rattle.choose.proofs.Choice.{pick_all}
use Rattle.choose.proofs.Tests.{three}
use Rattle.rows.specs.declared.Row.{Row}
use Rattle.rows.specs.declared.Inputs.{Inputs}
use Rattle.rows.specs.declared.Outputs.{Outputs}
use Rattle.rows.specs.Scan.{matched_of, ored, merged_of, none, scan_from, scan_of}
use Rattle.rows.specs.Packing.{packed_rows, scanned_in, scan_in}
use Rattle.rows.specs.Section.{rows_of}
use Rattle.rows.specs.Table.{whole_rows, filled_table, table_of}
use Rattle.rows.specs.Range.{masks_fit, outputs_fit, values_in_masks, row_in_range, rows_in_range, OutputsInRange}

-- ---- no rows
pub scan-none : (i : Inputs) → scan_of [] i ≡ none
unfolding scan_from
scan-none i = refl

pub packed_none : (i : Inputs) → scan_in [] i ≡ none
unfolding scanned_in
packed_none i = refl

-- ---- rows in range
-- a row in range puts out what is in range
row-outputs : (r : Row) → row_in_range r ≡ true → (r.outputs.address ≤ 2047) × (r.outputs.lines ≤ 7) × (r.outputs.new_tsr ≤ 7)
unfolding row_in_range outputs_fit
row-outputs r h =
    let fit = (three (masks_fit r.mask) (outputs_fit r.outputs) (values_in_masks r) h).1 in
    let p = three (leb r.outputs.address 2047) (leb r.outputs.lines 7) (leb r.outputs.new_tsr 7) fit in
    (leb-true _ _ p.0, leb-true _ _ p.1, leb-true _ _ p.2)

-- OR sets no bit above those of its operands
ored-in-range : (o : Outputs) (r : Row) → OutputsInRange o → row_in_range r ≡ true → OutputsInRange (ored o r.outputs)
ored-in-range o r g h =
    let p = row-outputs r h in
    record {
      address = omega (arith, or_lt 11 o.address r.outputs.address (omega arith) (omega arith));
      lines = omega (arith, or_lt 3 o.lines r.outputs.lines (omega arith) (omega arith));
      tsr = omega (arith, or_lt 3 o.new_tsr r.outputs.new_tsr (omega arith) (omega arith));
    }

pub merged-in-range : (o : Outputs) (r : Row) (i : Inputs) → OutputsInRange o → row_in_range r ≡ true → OutputsInRange (merged_of o r i)
unfolding merged_of
merged-in-range o r i g h = pick_all OutputsInRange (matched_of r i) (ored o r.outputs) o (ored-in-range o r g h) g

from-in-range : (o : Outputs) (rs : List Row) (i : Inputs) → OutputsInRange o → rows_in_range rs ≡ true → OutputsInRange (scan_from o rs i)
unfolding scan_from rows_in_range
from-in-range o [] i g h = g
from-in-range o (r ∷ rs) i g h =
    let p = (and-eq-true_iff (row_in_range r) (rows_in_range rs)).0 h in
    from-in-range (merged_of o r i) rs i (merged-in-range o r i g p.0) p.1

-- where all rows are in range, so are their outputs
pub scan-in-range : (rs : List Row) (i : Inputs) → rows_in_range rs ≡ true → OutputsInRange (scan_of rs i)
scan-in-range rs i h = from-in-range none rs i (record { address = zero-le; lines = zero-le; tsr = zero-le }) h

-- rows one after the other are in range where each part is
pub range-append : (rs qs : List Row) → rows_in_range (rs ++ qs) ≡ rows_in_range rs && rows_in_range qs
unfolding rows_in_range
range-append [] qs = refl
range-append (r ∷ rs) qs = rw (range-append rs qs, and_assoc (row_in_range r) (rows_in_range rs) (rows_in_range qs))

-- ---- the table
pub rows-length : (s : List ℕ) (n : ℕ) → length (rows_of s n) ≡ n
unfolding rows_of
rows-length s zero = refl
rows-length s (suc n) = rw (length-append, rows-length s n) (add-one n)

rows-packed-length : (rs : List Row) → length (packed_rows rs) ≡ length rs
unfolding packed_rows
rows-packed-length [] = refl
rows-packed-length (r ∷ rs) = ap suc (rows-packed-length rs)

pub packed-length : (s : List ℕ) (n : ℕ) → length (packed_rows (rows_of s n)) ≡ n
packed-length s n = rows-packed-length (rows_of s n) ∙ rows-length s n

-- the first rows of a section's table are its rows, packed
pub table-rows : (s : List ℕ) → take (whole_rows s) (table_of s) ≡ packed_rows (rows_of s (whole_rows s))
unfolding filled_table
table-rows s = take_at (packed_rows (rows_of s (whole_rows s))) _ (whole_rows s) (packed-length s (whole_rows s))
