-- A row's sixteen bytes are its numbers in 01's order. Assumes nothing.
use mathlib.Core.List.{List}
use Prim.Native.Nat.{ℕ}
use native.Mathlib.Nat.{add-zero}
use native.Mathlib.Omega.{arith}
use Rattle.numbers.specs.Laid.{LaidOut}
use Rattle.rows.specs.Order.{row_order}
use Rattle.rows.specs.Section.{row_from}

pub row-order : (s : List ℕ) (a : ℕ) → LaidOut s a (row_order (row_from s a))
unfolding row_from
row-order s a = rw (add-zero a) (omega arith)
