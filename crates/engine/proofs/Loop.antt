-- Laws of the code's loop over the tables that are lent: what is left to run gives the whole run, one attempt after the other; and by THE table and rows in
-- range it is the run of 01. Assumes nothing.
use Prim.Native.Nat.{ℕ, suc, ◌+◌, ◌-◌, ◌*◌, ◌<◌, ◌≤◌}
use mathlib.Core.Path.{◌≡◌, refl, ap, sym, ◌∙◌}
use mathlib.Core.Bool.{Bool, true, false}
use mathlib.Core.List.{List, [], ◌∷◌}
use native.Mathlib.Omega.{arith}
use native.Mathlib.Numerals.{add-one}
use lib.Dec.{eqb}
use lib.ListN.{take}
use borrow.Author.Tests.{eq-eqb, ne_eqb, eqb-true}
use Rattle.choose.specs.Ranged.{pick}
use Rattle.attempt.specs.Attempt.{attempt_of}
use Rattle.attempt.specs.Lent.{attempt_by, inputs_by}
use Rattle.attempt.specs.Outcome.{Outcome}
use Rattle.attempt.proofs.Lent.{refused-keeps}
use Rattle.deck.specs.Elements.{sample_at}
use Rattle.rows.specs.Packing.{scan_in}
use Rattle.rows.specs.Table.{whole_rows, table_of}
use Rattle.rows.proofs.Laws.{packed_none}
use Rattle.rows.specs.declared.Inputs.{Inputs}
use Rattle.rows.specs.declared.Outputs.{Outputs}
use Rattle.rows.specs.declared.Packed.{Packed}
use Rattle.rows.specs.declared.Row.{Row}
use Rattle.state.specs.File.{Leaves}
use Rattle.state.specs.declared.Core.{Core}
use Rattle.state.specs.declared.Sample.{Sample}
use Rattle.engine.specs.Run.{World, world, put4_of, stepped_of, stopped_of, run_from, samples_from}
use Rattle.engine.specs.RunEnds.{unseen, lent_rows, inputs_for, after_of, next_by, run_by}

-- the samples that are left, before and after one of them
pub samples-step : (s : List ℕ) (i n : ℕ) → i < n → samples_from s i (n - i) ≡ sample_at s i ∷ samples_from s (i + 1) (n - (i + 1))
unfolding samples_from
samples-step s i n l =
    let e : n - i ≡ suc (n - (i + 1)) = omega arith in
    rw (e, add-one i)

pub samples-end : (s : List ℕ) (i n : ℕ) → n ≤ i → samples_from s i (n - i) ≡ []
unfolding samples_from
samples-end s i n l =
    let e : n - i ≡ 0 = omega arith in
    rw e

-- what is left of a run: nothing after a refusal
abbrev pub left_by : List ℕ → List ℕ → List Packed → List Sample → World → World
left_by codes ws ps ss w = pick (eqb w.answer 0) (run_by codes ws ps ss w) w

module _ (codes ws : List ℕ) (o : Outputs) (s : Sample) (w : World) where
  module _ (e : Leaves Outcome) (made : e ≡ attempt_by codes ws o w.file w.core s) where
    pub next-steps : e.back.refusal ≡ 0
        → world e.file e.back.core 0 (w.attempts + 1) (w.microcycles + e.back.cycles) (put4_of w.buffer (w.attempts * 4) e.back.request)
        ≡ next_by codes ws o s w
    unfolding next_by stepped_of
    next-steps h = rw (← made, eq-eqb e.back.refusal 0 h)

    -- "return the state before the refused attempt": the registers were left as they were
    pub next-stops : (e.back.refusal ≡ 0 → ⊥)
        → world e.file w.core e.back.refusal w.attempts w.microcycles w.buffer ≡ next_by codes ws o s w
    unfolding next_by stopped_of
    next-stops h =
        let refused : (attempt_by codes ws o w.file w.core s).back.refusal ≡ 0 → ⊥ = λ z. h (ap (λ (x : Leaves Outcome). x.back.refusal) made ∙ z) in
        let kept : e.file ≡ w.file = ap (λ (x : Leaves Outcome). x.file) made ∙ refused-keeps w.file w.core s codes ws o refused in
        rw (kept, ← made, ne_eqb e.back.refusal 0 h)

module _ (codes ws : List ℕ) (ps : List Packed) where
  run_none : (w : World) → run_by codes ws ps [] w ≡ w
  unfolding run_by
  run_none w = refl

  run-cons : (s : Sample) (ss : List Sample) (w : World)
      → run_by codes ws ps (s ∷ ss) w ≡ left_by codes ws ps ss (next_by codes ws (scan_in ps (inputs_by ws w.core s)) s w)
  unfolding run_by
  run-cons s ss w = refl

-- without rows it does not matter what they are matched against
unlooked-by : (t : Bool) (m : ℕ) (ps : List Packed) (i : Inputs) → (t ≡ true → m ≡ 0) → scan_in (take m ps) (pick t unseen i) ≡ scan_in (take m ps) i
unlooked-by true m ps i none = rw (none refl) (packed_none unseen ∙ sym (packed_none i))
unlooked-by false m ps i none = refl

pub unlooked : (m : ℕ) (ps : List Packed) (ws : List ℕ) (k : Core) (s : Sample) → scan_in (take m ps) (inputs_for m ws k s)
    ≡ scan_in (take m ps) (inputs_by ws k s)
unfolding inputs_for
unlooked m ps ws k s = unlooked-by (eqb m 0) m ps (inputs_by ws k s) (eqb-true m 0)

refused : (number : ℕ) → (number ≡ 0 → ⊥) → (x w : World) → pick (eqb number 0) x w ≡ w
refused number h x w = rw (ne_eqb number 0 h)

module _ (codes ws part samples : List ℕ) (n : ℕ) (start : World) where
  abbrev pub whole : World
  whole = run_by codes ws (lent_rows part) (samples_from samples 0 n) start

  -- what is known after i attempts: what is left to run from there gives the whole run
  pub record Good (i : ℕ) (core : Core) (microcycles : ℕ) (file requests : List ℕ) : Type 0 where
    pub counted : microcycles ≤ 255 * i
    pub same : run_by codes ws (lent_rows part) (samples_from samples i (n - i)) (world file core 0 i microcycles requests) ≡ whole

  module _ (i : ℕ) (core : Core) (microcycles : ℕ) (file requests : List ℕ) (good : Good i core microcycles file requests) where
    abbrev w : World
    w = world file core 0 i microcycles requests

    -- after the last one
    pub ends : i ≡ n → world file core 0 n microcycles requests ≡ whole
    ends l =
        ap (λ (j : ℕ). world file core 0 j microcycles requests) (sym l)
        ∙ sym
        (ap (λ (ss : List Sample). run_by codes ws (lent_rows part) ss w) (samples-end samples i n (omega arith)) ∙ run_none codes ws (lent_rows part) w)
        ∙ good.same

    -- one more attempt, by what the rows put out for what was seen
    module _ (l : i < n) (seen : Inputs) (o : Outputs) (ei : seen ≡ inputs_for (whole_rows part) ws core (sample_at samples i))
        (eo : o ≡ scan_in (lent_rows part) seen) (e : Leaves Outcome)
        (made : e ≡ attempt_by codes ws o file core (sample_at samples i)) where
      abbrev rest : List Sample
      rest = samples_from samples (i + 1) (n - (i + 1))

      put-out : o ≡ scan_in (lent_rows part) (inputs_by ws core (sample_at samples i))
      put-out = eo ∙ ap (scan_in (lent_rows part)) ei ∙ unlooked (whole_rows part) (table_of part) ws core (sample_at samples i)

      begun : whole ≡ left_by codes ws (lent_rows part) rest (next_by codes ws o (sample_at samples i) w)
      begun =
          sym good.same
          ∙ ap (λ (ss : List Sample). run_by codes ws (lent_rows part) ss w) (samples-step samples i n l)
          ∙ run-cons codes ws (lent_rows part) (sample_at samples i) rest w
          ∙ ap (λ (x : Outputs). left_by codes ws (lent_rows part) rest (next_by codes ws x (sample_at samples i) w)) (sym put-out)

      -- it counts
      pub turned : e.back.refusal ≡ 0 → e.back.cycles < 256
          → Good (i + 1) e.back.core (microcycles + e.back.cycles) e.file (put4_of requests (i * 4) e.back.request)
      turned h few = record {
        counted = omega (arith, good.counted, few);
        same = ap (left_by codes ws (lent_rows part) rest) (next-steps codes ws o (sample_at samples i) w e made h) ∙ sym begun;
      }

      -- it is refused
      pub stopped : (e.back.refusal ≡ 0 → ⊥) → world e.file core e.back.refusal i microcycles requests ≡ whole
      stopped h =
          let next = next-stops codes ws o (sample_at samples i) w e made h in
          sym (refused e.back.refusal h _ _)
          ∙ ap (left_by codes ws (lent_rows part) rest) next
          ∙ sym begun

-- where each attempt is the one of 01, so is the run
module _ (codes ws : List ℕ) (ps : List Packed) (rs : List Row)
    (same : (xs : List ℕ) (k : Core) (s : Sample) → attempt_by codes ws (scan_in ps (inputs_by ws k s)) xs k s ≡ attempt_of ws rs xs k s) where
  -- after an attempt
  then : (t : Bool) (ss : List Sample) (w : World) (e : Leaves Outcome) → t ≡ eqb e.back.refusal 0
      → ((w' : World) → run_by codes ws ps ss w' ≡ run_from ws rs ss w')
      → left_by codes ws ps ss (pick t (stepped_of w e) (stopped_of w e.back.refusal))
      ≡ pick t (run_from ws rs ss (stepped_of w e)) (stopped_of w e.back.refusal)
  unfolding stepped_of stopped_of
  then true ss w e told rest = rest (stepped_of w e)
  then false ss w e told rest = ap (λ (t : Bool). pick t (run_by codes ws ps ss (stopped_of w e.back.refusal)) (stopped_of w e.back.refusal)) (sym told)

  next-as : (s : Sample) (w : World)
      → next_by codes ws (scan_in ps (inputs_by ws w.core s)) s w ≡ after_of w (attempt_of ws rs w.file w.core s)
  unfolding next_by
  next-as s w = ap (after_of w) (same w.file w.core s)

  from_cons : (s : Sample) (ss : List Sample) (w : World)
      → let e = attempt_of ws rs w.file w.core s in
      run_from ws rs (s ∷ ss) w ≡ pick (eqb e.back.refusal 0) (run_from ws rs ss (stepped_of w e)) (stopped_of w e.back.refusal)
  unfolding run_from
  from_cons s ss w = refl

  pub run-as : (ss : List Sample) (w : World) → run_by codes ws ps ss w ≡ run_from ws rs ss w
  unfolding run_by run_from
  run-as [] w = refl
  run-as (s ∷ ss) w =
      run-cons codes ws ps s ss w
      ∙ ap (left_by codes ws ps ss) (next-as s w)
      ∙ then _ ss w (attempt_of ws rs w.file w.core s) refl (run-as ss)
      ∙ sym (from_cons s ss w)
