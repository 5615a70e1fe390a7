-- The steps of the loops of `scan` and `load`, one row more and none left, and a row past the end, by the laws of lists. Assumes nothing.
use mathlib.Core.Path.{◌≡◌, refl, sym, ap, ◌∙◌}
use mathlib.Core.Bool.{Bool, true, false}
use mathlib.Core.List.{List, [], ◌∷◌, ◌++◌, append_assoc}
use Prim.Native.Nat.{ℕ, suc, ◌+◌, ◌-◌, ◌*◌, ◌<◌, ◌≤◌, min}
use native.Mathlib.Numerals.{add-one}
use native.Mathlib.Omega.{arith}
use borrow.Author.Tests.{leb-true, leb-false}
use lib.Dec.{leb}
use lib.Seq.{drop-cons, set_at}
use lib.ListN.{length, get_or, set, replicate, drop, drop_of_length-le, get_or-eq_default}
use Rattle.rows.specs.declared.Row.{Row}
use Rattle.rows.specs.declared.Packed.{Packed}
use Rattle.rows.specs.Packing.{packed_of, packed_rows, merged_in, scanned_in}
use Rattle.rows.specs.Section.{row_from, rows_of}
use Rattle.rows.specs.Table.{empty_row, filled_table}
use Rattle.rows.proofs.Laws.{packed-length}

-- the row at k, as `scan` reads it
abbrev pub row_at : List Packed → ℕ → Packed
row_at ps k = get_or ps k empty_row

-- a step of `scan`: from what the row at k made of o, the rows that are left give the same
pub scan_step : (ps : List Packed) (k o key : ℕ) → k < length ps → scanned_in (merged_in o (row_at ps k) key) (drop (k + 1) ps) key
    ≡ scanned_in o (drop k ps) key
unfolding scanned_in
scan_step ps k o key l = rw (add-one, drop-cons ps k empty_row l)

-- the end of `scan`: no row is left
pub scan-end : (ps : List Packed) (k o key : ℕ) → length ps ≤ k → scanned_in o (drop k ps) key ≡ o
unfolding scanned_in
scan-end ps k o key l = rw (drop_of_length-le ps l)

-- from the end on all rows are the row of zeros
nothing-past : (s : List ℕ) (a : ℕ) → length s ≤ a → row_from s a ≡ row_from [] 0
unfolding row_from
nothing-past s a l =
    rw (
      none a (omega arith),
      none (a + 1) (omega arith),
      none (a + 2) (omega arith),
      none (a + 2 + 1) (omega arith),
      none (a + 4) (omega arith),
      none (a + 5) (omega arith),
      none (a + 6) (omega arith),
      none (a + 7) (omega arith),
      none (a + 8) (omega arith),
      none (a + 9) (omega arith),
      none (a + 10) (omega arith),
      none (a + 11) (omega arith),
      none (a + 12) (omega arith),
      none (a + 12 + 1) (omega arith),
      none (a + 14) (omega arith),
      none (a + 15) (omega arith),
    )
  where
    none : (b : ℕ) → length s ≤ b → get_or s b 0 ≡ 0
    none b h = get_or-eq_default s 0 h

-- a place past the end gives what the end gives
pub row_past : (s : List ℕ) (a n : ℕ) → n ≡ min a (length s) → row_from s n ≡ row_from s a
row_past s a n e = go (leb a (length s)) refl
  where
    go : (t : Bool) → leb a (length s) ≡ t → row_from s n ≡ row_from s a
    go true q = ap (row_from s) (omega (arith, e, leb-true a (length s) q))
    go false q = nothing-past s n (omega (arith, e, leb-false a (length s) q)) ∙ sym (nothing-past s a (omega (arith, leb-false a (length s) q)))

-- the start of `load`: an empty table
pub filled_none : (s : List ℕ) → replicate 128 empty_row ≡ filled_table s 0
unfolding filled_table rows_of packed_rows
filled_none s = refl

empty-more : (k : ℕ) → k < 128 → replicate (128 - k) empty_row ≡ empty_row ∷ replicate (128 - suc k) empty_row
empty-more k l = let e : 128 - k ≡ suc (128 - suc k) = omega arith in rw e

packed-append : (rs : List Row) (r : Row) → packed_rows (rs ++ (r ∷ [])) ≡ packed_rows rs ++ (packed_of r ∷ [])
unfolding packed_rows
packed-append [] r = refl
packed-append (q ∷ rs) r = rw (packed-append rs r)

-- a turn of `load`: the row is stored at k, and the rows before it stand
pub filled_more : (s : List ℕ) (k : ℕ) (p : Packed) → k < 128 → p ≡ packed_of (row_from s (k * 16)) → set (filled_table s k) k p ≡ filled_table s (k + 1)
unfolding filled_table rows_of
filled_more s k p l e =
    rw (
      add-one,
      empty-more k l,
      set_at (packed_rows (rows_of s k)) empty_row (replicate (128 - suc k) empty_row) p k (packed-length s k),
      packed-append,
      append_assoc,
      e,
    )
