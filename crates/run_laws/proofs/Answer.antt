-- The answer of a run, and how many samples it used.
-- Assumes nothing.
use mathlib.Core.Path.{◌≡◌, refl}
use mathlib.Core.Bool.{Bool, true, false}
use mathlib.Core.List.{List, [], ◌∷◌}
use mathlib.Core.Logic.{◌↔◌}
use Prim.Native.Nat.{ℕ, suc, ◌+◌, ◌/◌, ◌%◌, ◌<◌}
use native.Mathlib.Omega.{arith}
use borrow.Author.Tests.{eqb-true, eqb-false, ltb-true, lt-ltb}
use lib.Bits.{or_lt}
use lib.Dec.{eqb, ltb}
use lib.ListN.{length}
use Rattle.attempt.specs.Attempt.{modified_of, when_refused, checked_of, taken_of, fetched_of, attempted_of, outputs_of, attempt_of}
use Rattle.choose.proofs.Choice.{pick_all}
use Rattle.numbers.specs.Numbers.{word_at}
use Rattle.attempt_laws.proofs.Range.{attempt-in-range}
use Rattle.attempt_laws.proofs.Refusal.{executes}
use Rattle.checks.specs.Checks.{designator_refusal_of, word_refusal_of, waiting_of}
use Rattle.choose.specs.Ranged.{pick}
use Rattle.code.specs.CodeRows.{class_of, listed, options_of}
use Rattle.code.specs.Word.{Apart, top_of, apart_of}
use Rattle.code.specs.declared.Fields.{Fields}
use Rattle.code.specs.declared.Operands.{Operands}
use Rattle.engine.specs.Run.{World, stepped_of, stopped_of, run_from}
use Rattle.rows.specs.Range.{rows_in_range}
use Rattle.rows.specs.declared.Outputs.{Outputs}
use Rattle.rows.specs.declared.Row.{Row}
use Rattle.state.specs.Range.{InRange}
use Rattle.state.specs.declared.Core.{Core}
use Rattle.state.specs.declared.Latches.{Latches}
use Rattle.state.specs.declared.Sample.{Sample}
use Rattle.run_laws.specs.Laws.{SamplesInRange, WordsInRange, Number, Counted}
use Rattle.state.specs.File.{Leaves}
use Rattle.attempt.specs.Outcome.{Outcome}

-- ---- how many samples are used

-- an attempt, and v after the n samples that are left
one-counts : (n : ℕ) (w : World) (e : Leaves Outcome) (v : World) → Counted n (stepped_of w e) v → (t : Bool) → eqb e.back.refusal 0 ≡ t
    → Counted (suc n) w (pick t v (stopped_of w e.back.refusal))
unfolding stepped_of stopped_of
one-counts n w e v c true q = record { full = λ z. omega (arith, c.full z); short = λ z. omega (arith, c.short z) }
one-counts n w e v c false q = record { full = λ z. absurd (eqb-false _ 0 q z); short = λ z. omega arith }

module _ (ws : List ℕ) (rs : List Row) where
  -- 0, "all samples used"; "Numbers 5-8 return .. the counts up to it", which are fewer
  pub run-counts : (ss : List Sample) (w : World) → w.answer ≡ 0 → Counted (length ss) w (run_from ws rs ss w)
  unfolding run_from stepped_of stopped_of
  run-counts [] w e = record { full = λ z. omega arith; short = λ z. absurd (z e) }
  run-counts (s ∷ ss) w e =
      let x = attempt_of ws rs w.file w.core s in
      one-counts (length ss) w x (run_from ws rs ss (stepped_of w x)) (run-counts ss (stepped_of w x) refl) (eqb x.back.refusal 0) refl

  -- 0 exactly when "all samples used"
  pub run-zero : (ss : List Sample) (w : World) → w.answer ≡ 0
      → ((run_from ws rs ss w).answer ≡ 0) ↔ ((run_from ws rs ss w).attempts ≡ w.attempts + length ss)
  run-zero ss w e = (c.full, go (eqb (run_from ws rs ss w).answer 0) refl)
    where
      c : Counted (length ss) w (run_from ws rs ss w)
      c = run-counts ss w e

      go : (t : Bool) → eqb (run_from ws rs ss w).answer 0 ≡ t → (run_from ws rs ss w).attempts ≡ w.attempts + length ss → (run_from ws rs ss w).answer ≡ 0
      go true q h = eqb-true _ _ q
      go false q h = absurd (omega (arith, c.short (eqb-false _ 0 q)))

-- ---- the numbers of an attempt

two-number : (code b : ℕ) → Number (designator_refusal_of code b)
unfolding designator_refusal_of
two-number code b =
    pick_all Number (eqb code 0xAC) _ _ (λ z. (omega arith, omega arith, λ e. omega arith))
    (pick_all Number (ltb (options_of code) b) _ _ (λ z. (omega arith, omega arith, λ e. omega arith)) (λ z. absurd (z refl)))

check-number : (code : ℕ) (o : Operands) → Number (word_refusal_of code o)
unfolding word_refusal_of
check-number code (Operands.Jump n) z = absurd (z refl)
check-number code (Operands.Literal v r) z = absurd (z refl)
check-number code (Operands.Two b a) z = two-number code b z

-- a modification of 16 bits leaves a word below 2^22
modified-below : (w : ℕ) (l : Latches) → w < 0x40_0000 → l.modification < 65536 → modified_of w l < 0x40_0000
unfolding modified_of
modified-below w l h m =
    pick_all (λ (n : ℕ). n < 0x40_0000) l.marked _ w
    (omega (arith, or_lt 16 (w % 0x1_0000) l.modification (omega arith) (omega arith)))
    h

module _ (xs : List ℕ) (k : Core) (s : Sample) (o : Outputs) where
  abbrev Numbered : Leaves Outcome → Type 0
  Numbered e = Number e.back.refusal

  checked-number : (w : Fields) → Numbered (checked_of xs k w s o)
  unfolding checked_of
  checked-number w =
      pick_all Numbered (eqb (word_refusal_of w.code w.operands) 0) _ _
      (pick_all Numbered (waiting_of w.code s) _ _ (λ z. absurd (z refl)) (λ z. absurd (z (executes xs k w s o))))
      (check-number w.code w.operands)

  taken-number : (w : ℕ) → w < 0x40_0000 → Numbered (taken_of (apart_of w) o xs k s)
  unfolding apart_of
  taken-number w h =
      rw (lt-ltb w 0x40_0000 h)
      (pick_all (λ (a : Apart). Numbered (taken_of a o xs k s)) (listed (class_of (top_of w))) _ _ (checked-number _)
      (λ z. (omega arith, omega arith, λ e. omega arith)))

  fetched-number : (ws : List ℕ) → WordsInRange ws → k.latches.modification < 65536 → Numbered (fetched_of ws o xs k s)
  unfolding fetched_of
  fetched-number ws h m = go (ltb lc (length ws / 4)) refl
    where
      lc : ℕ
      lc = k.address.lc

      go : (t : Bool) → ltb lc (length ws / 4) ≡ t
          → Numbered (pick t (taken_of (apart_of (modified_of (word_at ws lc) k.latches)) o xs k s) (when_refused xs k 5))
      go true q = taken-number _ (modified-below (word_at ws lc) k.latches (h lc (ltb-true _ _ q)) m)
      go false q = λ z. (omega arith, omega arith, λ e. omega arith)

  attempted-number : (ws : List ℕ) → WordsInRange ws → k.latches.modification < 65536 → Numbered (attempted_of ws o xs k s)
  unfolding attempted_of
  attempted-number ws h m =
      pick_all Numbered s.reset _ _ (λ z. absurd (z refl))
      (pick_all Numbered s.compute _ _ (fetched-number ws h m) (λ z. absurd (z refl)))

-- "then at each attempt 5, 6, 7, 8", without 7: an attempt is refused with no other number
pub attempt-number : (ws : List ℕ) (rs : List Row) (xs : List ℕ) (k : Core) (s : Sample)
    → WordsInRange ws → k.latches.modification < 65536 → Number (attempt_of ws rs xs k s).back.refusal
unfolding attempt_of
attempt-number ws rs xs k s = attempted-number xs k s (outputs_of ws rs k s) ws

-- the same of a run: its answer is 0, 5, 6 or 8
pub run-number : (ws : List ℕ) (rs : List Row) → WordsInRange ws → rows_in_range rs ≡ true → (ss : List Sample) → SamplesInRange ss
    → (w : World) → InRange w.file w.core → w.answer ≡ 0 → Number (run_from ws rs ss w).answer
unfolding run_from stepped_of stopped_of
run-number ws rs g r [] d w h e = λ z. absurd (z e)
run-number ws rs g r (s ∷ ss) d w h e =
    let x = attempt_of ws rs w.file w.core s in
    pick_all (λ (v : World). Number v.answer) (eqb x.back.refusal 0) _ _
    (run-number ws rs g r ss d.1 (stepped_of w x) (attempt-in-range ws rs w.file w.core s r h d.0) refl)
    (attempt-number ws rs w.file w.core s g h.modification)
