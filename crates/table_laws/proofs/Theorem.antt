-- The table's columns `stores` and `flags` hold of every attempt: what the row of the word taken at LC doesn't mark, no attempt writes.
-- Assumes nothing.
use Prim.Native.Nat.{ℕ, ◌/◌, ◌%◌, ◌<◌}
use mathlib.Core.Path.{◌≡◌, refl}
use mathlib.Core.Bool.{true, false, false≢true}
use mathlib.Core.List.{List}
use native.Mathlib.Omega.{arith}
use lib.Seq.{ext_get_or}
use Rattle.attempt.specs.Attempt.{executed_of, reset_of, outputs_of, attempt_of}
use Rattle.attempt.specs.Outcome.{Outcome}
use Rattle.attempt.specs.Effect.{jumped_of, literal_effect, register_effect, effect_of}
use Rattle.attempt_laws.proofs.Fate.{attempt-fate}
use Rattle.attempt_laws.specs.Fate.{Fate, refused, waited, reset, compute-low, completed, within, b_in, a_in, taken_word, fate_of, EndsAs}
use Rattle.code.proofs.Words.{apart-is}
use Rattle.code.specs.CodeRows.{class_of, listed, row_of}
use Rattle.code.specs.Word.{top_of, operands_in, fields_in}
use Rattle.code.specs.declared.Stores.{Stores}
use Rattle.code.specs.declared.Class.{Class}
use Rattle.rows.specs.declared.Outputs.{Outputs}
use Rattle.rows.specs.declared.Row.{Row}
use Rattle.state.specs.File.{Leaves, leaves}
use Rattle.state.specs.declared.Core.{Core}
use Rattle.state.specs.declared.Sample.{Sample}
use Rattle.table_laws.specs.Table.{stored_by, RegistersKept, FlagsKept, ConditionsKept, RowHolds, compares_or_tests, sets_conditions}
use Rattle.table_laws.proofs.Instructions.{Columns, KeepsRest, untouched, literal-keeps, registers-keep}
use Rattle.table_laws.proofs.Rows.{word_columns, row-says, compare-row, condition-row, literal-row, cl-row}

-- ---- every attempt

module _ (xs : List ℕ) (k : Core) (s : Sample) (o : Outputs) (word : ℕ) where
  abbrev WordKeeps : Columns → Leaves Outcome → Type 0
  WordKeeps y e = KeepsRest xs k.latches.g (b_in word) (a_in word) k.flags y (leaves e.file e.back.core.flags)

  executed-keeps : (c : Class) → listed c ≡ true
      → WordKeeps (word_columns c (top_of word) k.flags (word / 0x10 % 0x100)) (executed_of xs k (fields_in c word) s o)
  unfolding executed_of effect_of fields_in operands_in jumped_of literal_effect register_effect
  executed-keeps Class.Unlisted l = absurd (false≢true l)
  executed-keeps Class.Jump l = untouched xs k.latches.g (b_in word) (a_in word) k.flags _
  executed-keeps Class.Conditional l = untouched xs k.latches.g (b_in word) (a_in word) k.flags _
  executed-keeps Class.Literal l = literal-keeps xs k.latches.g (b_in word) (a_in word) k.flags _ _
  executed-keeps Class.Register l = registers-keep xs k s.dal (top_of word) (b_in word) (a_in word)

  ends-row : (e : Leaves Outcome) (f : Fate) → EndsAs word xs k s o e f → RowHolds word xs k e
  unfolding reset_of
  ends-row e (refused n) (z, q) = rw q (untouched _ _ _ _ _ _)
  ends-row e waited q = rw q (untouched _ _ _ _ _ _)
  ends-row e reset q = rw q (untouched _ _ _ _ _ _)
  ends-row e compute-low q = rw q (untouched _ _ _ _ _ _)
  ends-row e completed (w, a, q) =
      let (b, l, p) = apart-is word w a in
      let (stores, flags) = row-says (top_of word) k.flags (word / 0x10 % 0x100) (omega arith) in
      rw (q, ← p, ← stores, ← flags) (executed-keeps (class_of (top_of word)) l)

  ends-idle : (e : Leaves Outcome) (f : Fate) → EndsAs word xs k s o e f → (f ≡ completed → ⊥) → (e.file ≡ xs) × (e.back.core.flags ≡ k.flags)
  unfolding reset_of
  ends-idle e (refused n) (z, q) h = rw q (refl, refl)
  ends-idle e waited q h = rw q (refl, refl)
  ends-idle e reset q h = rw q (refl, refl)
  ends-idle e compute-low q h = rw q (refl, refl)
  ends-idle e completed q h = absurd (h refl)

module _ (ws : List ℕ) (rs : List Row) (xs : List ℕ) (k : Core) (s : Sample) where
  attempt-row : RowHolds (taken_word ws k) xs k (attempt_of ws rs xs k s)
  attempt-row = ends-row xs k s (outputs_of ws rs k s) (taken_word ws k) (attempt_of ws rs xs k s) (fate_of ws k s) (attempt-fate ws rs xs k s)

  -- an attempt writes only the registers that the row of the word taken at LC names
  pub attempt-registers :
      let word = taken_word ws k in
      RegistersKept k.latches.g (stored_by (row_of (top_of word)).stores (b_in word) (a_in word)) xs (attempt_of ws rs xs k s).file
  attempt-registers = attempt-row.registers

  -- so none, where the row names none
  pub attempt-stores : (row_of (top_of (taken_word ws k))).stores ≡ Stores.Nothing → (attempt_of ws rs xs k s).file ≡ xs
  unfolding stored_by
  attempt-stores e =
      let kept : RegistersKept _ _ _ _ = rw e at attempt-registers in
      ext_get_or 0 _ _ kept.size (λ i l. kept.byte i tt)

  -- and only the flags that the row marks
  pub attempt-flags : FlagsKept (row_of (top_of (taken_word ws k))).flags k.flags (attempt_of ws rs xs k s).back.core.flags
  attempt-flags = attempt-row.flags

  -- refusals, waits, RESET and COMPUTE low change no register and no flag
  pub attempt-idle : (fate_of ws k s ≡ completed → ⊥) → ((attempt_of ws rs xs k s).file ≡ xs) × ((attempt_of ws rs xs k s).back.core.flags ≡ k.flags)
  attempt-idle =
      ends-idle xs k s (outputs_of ws rs k s) (taken_word ws k) (attempt_of ws rs xs k s) (fate_of ws k s) (attempt-fate ws rs xs k s)

  -- ---- 01's sentences

  -- "Compare and test write no register", by 01's list
  pub compares-store-nothing : compares_or_tests (top_of (taken_word ws k)) ≡ true → (attempt_of ws rs xs k s).file ≡ xs
  compares-store-nothing e = attempt-stores (compare-row (top_of (taken_word ws k)) (omega arith) e)

  below-status : (row_of (top_of (taken_word ws k))).flags < 0x10 → ConditionsKept k.flags (attempt_of ws rs xs k s).back.core.flags
  below-status low =
      let h = attempt-flags in
      record { n = h.n (omega arith); z = h.z (omega arith); v = h.v (omega arith); c = h.c (omega arith) }

  -- "condition flags (N Z V C) only by LCF and odd codes 81-DF and E1-E7", by 01's list
  pub conditions-kept : sets_conditions (top_of (taken_word ws k)) ≡ false → ConditionsKept k.flags (attempt_of ws rs xs k s).back.core.flags
  conditions-kept e = below-status (condition-row (top_of (taken_word ws k)) (omega arith) e)

  -- "Literals touch status only": 20-6F
  pub literals-touch-status-only : within 0x20 0x6F (top_of (taken_word ws k)) ≡ true
      → ConditionsKept k.flags (attempt_of ws rs xs k s).back.core.flags
  literals-touch-status-only e = below-status (literal-row (top_of (taken_word ws k)) (omega arith) e)

  -- "CL leaves C4 and C8": 30-3F
  pub cl-leaves : within 0x30 0x3F (top_of (taken_word ws k)) ≡ true
      → let after = (attempt_of ws rs xs k s).back.core.flags in
      (after.c4 ≡ k.flags.c4) × (after.c8 ≡ k.flags.c8)
  cl-leaves e =
      let h = attempt-flags in
      let mask = cl-row (top_of (taken_word ws k)) (omega arith) e in
      (h.c4 (omega arith), h.c8 (omega arith))
