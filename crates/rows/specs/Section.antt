-- The rows section of a deck: "Rows: 16 bytes", "low first".
use Rattle.std.specs.Prelude.{List, [], ◌∷◌, ◌++◌, ℕ, zero, suc, ◌+◌, ◌*◌}
use Rattle.numbers.specs.Numbers.{byte_at, pair_at}
use Rattle.rows.specs.declared.Row.{Row}

-- "LC mask, LC value (2 each), RNI mask and value, TR byte mask and value, TSR mask and value, interrupt mask and value
-- (1 each), address (2), lines (bit 0 LTA, 1 LRA, 2 LTSR), new TSR": the row that begins at byte a
unfoldable pub row_from : List ℕ → ℕ → Row
row_from s a = record {
  mask = record {
    lc = pair_at s a;
    rni = byte_at s (a + 4);
    tr = byte_at s (a + 6);
    tsr = byte_at s (a + 8);
    interrupts = byte_at s (a + 10);
  };
  value = record {
    lc = pair_at s (a + 2);
    rni = byte_at s (a + 5);
    tr = byte_at s (a + 7);
    tsr = byte_at s (a + 9);
    interrupts = byte_at s (a + 11);
  };
  outputs = record { address = pair_at s (a + 12); lines = byte_at s (a + 14); new_tsr = byte_at s (a + 15) };
}

-- the first n rows of the section
unfoldable pub rows_of : List ℕ → ℕ → List Row
rows_of s zero = []
rows_of s (suc n) = rows_of s n ++ (row_from s (n * 16) ∷ [])
