-- The table's columns beside what the instructions say of themselves, and beside 01's lists: tests that antt computes over the codes.
-- Assumes nothing.
use Prim.Native.Nat.{ℕ, ◌+◌, ◌*◌, ◌/◌, ◌<◌}
use mathlib.Core.Path.{◌≡◌}
use mathlib.Core.Bool.{Bool, true, false, ◌&&◌}
use lib.Dec.{eqb, ltb, eqb→eq, ltb→lt}
use Rattle.alu.specs.declared.Flags.{Flags}
use Rattle.attempt_laws.specs.Fate.{within}
use Rattle.choose.proofs.Table.{below}
use Rattle.choose.proofs.Tests.{both_left, both_right}
use Rattle.choose.specs.Ranged.{pick, ranged}
use Rattle.code.specs.CodeRows.{class_of, listed, status_flags_of, condition_flags_of, stores_number, stores_of, row_of}
use Rattle.code.specs.declared.Class.{Class}
use Rattle.code.specs.declared.Stores.{Stores}
use Rattle.code.proofs.Digits.{same-stores}
use Rattle.plan.specs.Plan.{plan_of, literal_plan_of}
use Rattle.table_laws.specs.Table.{compares_or_tests, sets_conditions, marks_in}
use Rattle.table_laws.proofs.Instructions.{Columns, nothing, literal_columns, columns70_to77, register_columns}

-- ---- the table marks what the instructions say of themselves, and no more

-- a word's columns by its class and top byte
abbrev pub word_columns : Class → ℕ → Flags → ℕ → Columns
word_columns Class.Unlisted top f v = nothing
word_columns Class.Jump top f v = nothing
word_columns Class.Conditional top f v = nothing
word_columns Class.Literal top f v = literal_columns (top / 0x10 * 0x10) v
word_columns Class.Register top f v = register_columns top f

pub row-says : (top : ℕ) (f : Flags) (v : ℕ) → top < 0x100
    → let s = word_columns (class_of top) top f v in
    (s.stores ≡ (row_of top).stores) × (s.flags ≡ (row_of top).flags)
unfolding row_of class_of ranged literal_columns literal_plan_of register_columns columns70_to77 plan_of stores_of condition_flags_of status_flags_of
row-says top f v h =
    let s = word_columns (class_of top) top f v in
    let t =
    below 0x100
    (λ x.
    eqb (stores_number (word_columns (class_of x) x f v).stores) (stores_number (row_of x).stores) &&
    eqb (word_columns (class_of x) x f v).flags (row_of x).flags) tt top h in (
      same-stores _ _ (eqb→eq _ _ (both_left (eqb (stores_number s.stores) (stores_number (row_of top).stores)) (eqb s.flags (row_of top).flags) t)),
      eqb→eq _ _ (both_right (eqb (stores_number s.stores) (stores_number (row_of top).stores)) (eqb s.flags (row_of top).flags) t),
    )

-- ---- the table has 01's lists

pub compare-row : (top : ℕ) → top < 0x100 → compares_or_tests top ≡ true → (row_of top).stores ≡ Stores.Nothing
unfolding compares_or_tests row_of class_of ranged stores_of
compare-row top h e =
    let test : ℕ → Bool = λ x. eqb (stores_number (row_of x).stores) 0 in
    same-stores _ Stores.Nothing (eqb→eq _ _ (rw e at (below 0x100 (λ x. pick (compares_or_tests x) (test x) true) tt top h)))

pub condition-row : (top : ℕ) → top < 0x100 → sets_conditions top ≡ false → (row_of top).flags < 0x10
unfolding sets_conditions row_of class_of ranged condition_flags_of status_flags_of
condition-row top h e = ltb→lt _ _ (rw e at (below 0x100 (λ x. pick (sets_conditions x) true (ltb (row_of x).flags 0x10)) tt top h))

-- AL, CL, NL, TL, LL
pub literal-row : (top : ℕ) → top < 0x100 → within 0x20 0x6F top ≡ true → (row_of top).flags < 0x10
unfolding row_of class_of ranged condition_flags_of status_flags_of
literal-row top h e = ltb→lt _ _ (rw e at (below 0x100 (λ x. pick (within 0x20 0x6F x) (ltb (row_of x).flags 0x10) true) tt top h))

pub cl-row : (top : ℕ) → top < 0x100 → within 0x30 0x3F top ≡ true → (row_of top).flags ≡ 0x0C
unfolding row_of class_of ranged condition_flags_of status_flags_of
cl-row top h e = eqb→eq _ _ (rw e at (below 0x100 (λ x. pick (within 0x30 0x3F x) (eqb (row_of x).flags 0x0C) true) tt top h))

-- each listed code's row marks the flags that 5.3.2 marks, and no others
flags-listed : (top : ℕ) → top < 0x100 → listed (class_of top) ≡ true → condition_flags_of top + status_flags_of top ≡ marks_in top
unfolding sets_conditions marks_in class_of ranged condition_flags_of status_flags_of
flags-listed top h e =
    let test : ℕ → Bool = λ x. eqb (condition_flags_of x + status_flags_of x) (marks_in x) in
    eqb→eq _ _ (rw e at (below 0x100 (λ x. pick (listed (class_of x)) (test x) true) tt top h))

pub row-flags : (top : ℕ) → top < 0x100 → listed (class_of top) ≡ true → (row_of top).flags ≡ marks_in top
unfolding row_of
row-flags top h e = rw e (flags-listed top h e)
