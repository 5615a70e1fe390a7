-- How the code holds a deck's rows: a table of 128 packed rows, filled up with empty ones. This is the code's way only; `table-rows` says that
-- the table's first rows are the section's.
use Rattle.std.specs.Prelude.{List, ◌++◌, ℕ, ◌-◌, ◌/◌, min, length, replicate}
use Rattle.rows.specs.declared.Packed.{Packed}
use Rattle.rows.specs.Packing.{packed_rows}
use Rattle.rows.specs.Section.{rows_of}

-- the row of sixteen zero bytes, packed: it matches always and puts nothing out
abbrev pub empty_row : Packed
empty_row = record { mask = 0; value = 0; outputs = 0 }

-- how many whole rows of the section go into a table: it has room for "0 to 128 translation rows"
abbrev pub whole_rows : List ℕ → ℕ
whole_rows s = min (length s / 16) 128

-- the first n rows, and empty rows up to 128
unfoldable pub filled_table : List ℕ → ℕ → List Packed
filled_table s n = packed_rows (rows_of s n) ++ replicate (128 - n) empty_row

-- the table of the section's whole rows
abbrev pub table_of : List ℕ → List Packed
table_of s = filled_table s (whole_rows s)
