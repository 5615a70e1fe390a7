-- By THE table of top bytes and rows in range, an attempt by the tables that are handed to it is the attempt of 01.
-- Assumes nothing.
use Prim.Native.Nat.{ℕ, ◌<◌, ◌/◌, ◌%◌}
use mathlib.Core.Path.{◌≡◌, ◌∙◌, ap, refl, subst}
use mathlib.Core.Bool.{Bool, true, false, not, ◌||◌, false≢true}
use mathlib.Core.List.{List}
use native.Mathlib.Omega.{arith}
use lib.Dec.{T, eqb, ltb}
use lib.ListN.{length, get_or}
use Rattle.std.specs.Prelude.{Ok, Err}
use Rattle.choose.specs.Ranged.{pick, ranged}
use Rattle.choose.proofs.Table.{below}
use borrow.Author.Tests.{ltb-true}
use Rattle.choose.proofs.Tests.{holds}
use Rattle.code.specs.CodeRows.{class_of, cycles_of, listed, row_of}
use Rattle.code.specs.Entries.{entries, row_of_entry}
use Rattle.code.specs.Word.{Apart, top_of, code_in, code_of, same, operands_in, fields_in, apart_as, apart_of}
use Rattle.code.specs.declared.Unread.{Unread}
use Rattle.code.specs.declared.Class.{Class}
use Rattle.code.specs.declared.CodeRow.{CodeRow}
use Rattle.code.specs.declared.Fields.{Fields}
use Rattle.code.specs.declared.Operands.{Operands}
use Rattle.code.proofs.Digits.{row_at, class-of-row}
use Rattle.code.proofs.Tops.{cycles-of-code}
use Rattle.checks.specs.Asked.{refusal_by, waiting_by}
use Rattle.checks.specs.Checks.{word_refusal_of, waiting_of}
use Rattle.checks.proofs.Laws.{refusal-by-row, waiting-by-row, no-waiting}
use Rattle.numbers.specs.Numbers.{word_at}
use Rattle.rows.specs.Packing.{packed_rows, scan_in}
use Rattle.rows.specs.Range.{rows_in_range}
use Rattle.rows.specs.Scan.{scan_of, none}
use Rattle.rows.proofs.Packing.{scan-packed}
use Rattle.rows.specs.declared.Outputs.{Outputs}
use Rattle.rows.specs.declared.Inputs.{Inputs}
use Rattle.rows.specs.declared.Row.{Row}
use Rattle.state.specs.File.{Leaves}
use Rattle.state.specs.declared.Core.{Core}
use Rattle.state.specs.declared.Sample.{Sample}
use Rattle.attempt.specs.Outcome.{Outcome}
use Rattle.attempt.specs.Effect.{effect_of}
use Rattle.attempt.specs.Attempt.{when_refused, when_idle, reset_of, modified_of}
use Rattle.attempt.specs.Attempt.{executed_of, checked_of, taken_of, fetched_of, attempted_of, outputs_of, attempt_of}
use Rattle.attempt.specs.Lent.{done_by, two_by, checked_two_by, checked_kind, checked_by, taken_by, word_by, fetched_by, inputs_by, attempt_by}

-- what is no register code is below 70
abbrev early-test : ℕ → Bool
early-test top = not (listed (class_of top)) || (same (class_of top) Class.Register || ltb top 0x70)

all-early : (top : ℕ) → top < 0x100 → T (early-test top)
unfolding class_of ranged
all-early top h = below 0x100 early-test tt top h

early : (top : ℕ) (c : Class) → class_of top ≡ c → top < 0x100 → listed c ≡ true → same c Class.Register ≡ false → top < 0x70
early top c e h l r = ltb-true top 0x70 (holds (ltb top 0x70) (rw (e, l, r) at (all-early top h)))

code-early : (c : Class) (top : ℕ) → top < 0x70 → code_in c top < 0xE0
code-early Class.Unlisted top h = omega arith
code-early Class.Jump top h = omega arith
code-early Class.Conditional top h = omega arith
code-early Class.Literal top h = omega arith
code-early Class.Register top h = omega arith

module _ (w : ℕ) (o : Outputs) (xs : List ℕ) (k : Core) (s : Sample) where
  top_below : top_of w < 0x100
  top_below = omega arith

  cycles-as : (c : Class) → class_of (top_of w) ≡ c → listed c ≡ true → (row_of (top_of w)).cycles ≡ cycles_of (code_in c (top_of w))
  unfolding code_of
  cycles-as c e l = rw (← e) (cycles-of-code (top_of w) (rw e l))

  runs_on : (c : Class) → class_of (top_of w) ≡ c → listed c ≡ true → same c Class.Register ≡ false → waiting_of (code_in c (top_of w)) s ≡ false
  runs_on c e l other = no-waiting (code_in c (top_of w)) s (code-early c (top_of w) (early (top_of w) c e top_below l other))

  -- a word of each class, by the row of its top byte
  of-class : (c : Class) → class_of (top_of w) ≡ c → listed c ≡ true
      → checked_by (row_of (top_of w)) xs k (fields_in c w) s o ≡ checked_of xs k (fields_in c w) s o
  unfolding fields_in operands_in checked_kind checked_of word_refusal_of checked_two_by two_by done_by executed_of effect_of
  of-class Class.Unlisted e l = absurd (false≢true l)
  of-class Class.Jump e l = rw (cycles-as Class.Jump e l, runs_on Class.Jump e l refl)
  of-class Class.Conditional e l = rw (cycles-as Class.Conditional e l, runs_on Class.Conditional e l refl)
  of-class Class.Literal e l = rw (cycles-as Class.Literal e l, runs_on Class.Literal e l refl)
  of-class Class.Register e l =
      rw (
        refusal-by-row (top_of w) (w / 0x10 % 0x10) (rw e l),
        waiting-by-row (top_of w) s (rw e l),
        cycles-as Class.Register e l,
      )

  taken_as : (t : Bool) (c : Class) → class_of (top_of w) ≡ c
      → taken_by (pick t (pick (listed c) (Ok (fields_in c w)) (Err Unread.Unlisted)) (Err Unread.OutOfRange)) (row_of (top_of w)) o xs k s
      ≡ taken_of (pick t (pick (listed c) (Ok (fields_in c w)) (Err Unread.Unlisted)) (Err Unread.OutOfRange)) o xs k s
  taken_as false c e = refl
  taken_as true Class.Unlisted e = refl
  taken_as true Class.Jump e = of-class Class.Jump e refl
  taken_as true Class.Conditional e = of-class Class.Conditional e refl
  taken_as true Class.Literal e = of-class Class.Literal e refl
  taken_as true Class.Register e = of-class Class.Register e refl

  as_own : taken_by (apart_as (class_of (top_of w)) w) (row_of (top_of w)) o xs k s ≡ taken_of (apart_of w) o xs k s
  unfolding apart_as apart_of
  as_own = taken_as (ltb w 0x40_0000) (class_of (top_of w)) refl

  word-lent : word_by entries w o xs k s ≡ taken_of (apart_of w) o xs k s
  unfolding word_by
  word-lent =
      rw (row_at (top_of w) top_below)
      (ap (λ (c : Class). taken_by (apart_as c w) (row_of (top_of w)) o xs k s) (class-of-row (top_of w)) ∙ as_own)

module _ (ws : List ℕ) (rs : List Row) (xs : List ℕ) (k : Core) (s : Sample) (h : rows_in_range rs ≡ true) where
  abbrev word : ℕ
  word = modified_of (word_at ws k.address.lc) k.latches

  found : (t : Bool) (i : Inputs)
      → pick t (word_by entries word (scan_in (packed_rows rs) i) xs k s) (when_refused xs k 5)
      ≡ pick t (taken_of (apart_of word) (pick t (scan_of rs i) none) xs k s) (when_refused xs k 5)
  found true i = rw (scan-packed rs i h) (word-lent word (scan_of rs i) xs k s)
  found false i = refl

  fetched-lent : fetched_by entries ws (scan_in (packed_rows rs) (inputs_by ws k s)) xs k s ≡ fetched_of ws (outputs_of ws rs k s) xs k s
  unfolding fetched_by fetched_of outputs_of inputs_by
  fetched-lent = found (ltb k.address.lc (length ws / 4)) (inputs_by ws k s)

  pub attempt-lent : attempt_by entries ws (scan_in (packed_rows rs) (inputs_by ws k s)) xs k s ≡ attempt_of ws rs xs k s
  unfolding attempt_by attempt_of attempted_of
  attempt-lent = rw fetched-lent

-- an attempt that is refused leaves the registers, whatever the tables hold
module _ (xs : List ℕ) (k : Core) (s : Sample) where
  abbrev Keeps : Leaves Outcome → Type 0
  Keeps e = (e.back.refusal ≡ 0 → ⊥) → e.file ≡ xs

  two-keeps : (t u : Bool) (n : ℕ) (row : CodeRow) (w : Fields) (b a : ℕ) (o : Outputs)
      → Keeps (pick t (pick u (when_idle xs k 10) (two_by row xs k w b a s o)) (when_refused xs k n))
  unfolding two_by done_by
  two-keeps true true n row w b a o h = refl
  two-keeps true false n row w b a o h = absurd (h refl)
  two-keeps false u n row w b a o h = refl

  kind-keeps : (p : Operands) (row : CodeRow) (w : Fields) (o : Outputs) → Keeps (checked_kind p row xs k w s o)
  unfolding checked_kind checked_two_by done_by
  kind-keeps (Operands.Jump n) row w o h = refl
  kind-keeps (Operands.Literal v a) row w o h = absurd (h refl)
  kind-keeps (Operands.Two b a) row w o h =
      two-keeps (eqb (refusal_by row w.code b) 0) (waiting_by row w.code s) (refusal_by row w.code b) row w b a o h

  taken-keeps : (p : Apart) (row : CodeRow) (o : Outputs) → Keeps (taken_by p row o xs k s)
  taken-keeps (Ok w) row o h = kind-keeps w.operands row w o h
  taken-keeps (Err Unread.OutOfRange) row o h = refl
  taken-keeps (Err Unread.Unlisted) row o h = refl

  fetched-keeps : (t : Bool) (codes : List ℕ) (word : ℕ) (o : Outputs) → Keeps (pick t (word_by codes word o xs k s) (when_refused xs k 5))
  unfolding word_by
  fetched-keeps true codes w o h =
      let row = row_of_entry (get_or codes (top_of w) 0) in
      taken-keeps (apart_as row.class w) row o h
  fetched-keeps false codes w o h = refl

  sample-keeps : (reset compute : Bool) (e : Leaves Outcome) → Keeps e
      → Keeps (pick reset (when_idle xs (reset_of k) 11) (pick compute e (when_idle xs k 12)))
  sample-keeps true compute e keeps h = refl
  sample-keeps false true e keeps h = keeps h
  sample-keeps false false e keeps h = refl

  module _ (codes ws : List ℕ) (o : Outputs) where
    abbrev taken : Leaves Outcome
    taken = word_by codes (modified_of (word_at ws k.address.lc) k.latches) o xs k s

    fetched-as : pick (ltb k.address.lc (length ws / 4)) taken (when_refused xs k 5) ≡ fetched_by codes ws o xs k s
    unfolding fetched_by
    fetched-as = refl

    attempt-as : pick s.reset (when_idle xs (reset_of k) 11) (pick s.compute (fetched_by codes ws o xs k s) (when_idle xs k 12)) ≡ attempt_by codes ws o xs k s
    unfolding attempt_by
    attempt-as = refl

    pub refused-keeps : Keeps (attempt_by codes ws o xs k s)
    refused-keeps =
        let fetched = fetched-keeps (ltb k.address.lc (length ws / 4)) codes (modified_of (word_at ws k.address.lc) k.latches) o in
        subst Keeps attempt-as (sample-keeps s.reset s.compute (fetched_by codes ws o xs k s) (subst Keeps fetched-as fetched))
