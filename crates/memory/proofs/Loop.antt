-- Laws of the code's loop over the tables that are lent: what is left to run gives the whole run, one attempt after the other; and by THE table and rows in
-- range it is the run of 01 and 02. Assumes nothing.
use Prim.Native.Nat.{ℕ, ◌+◌, ◌-◌, ◌*◌, ◌<◌, ◌≤◌, zero-le}
use mathlib.Core.Path.{◌≡◌, refl, ap, sym, ◌∙◌}
use mathlib.Core.Bool.{Bool, false}
use mathlib.Core.List.{List, [], ◌∷◌}
use native.Mathlib.Omega.{arith}
use lib.Dec.{eqb}
use lib.ListN.{length}
use borrow.Author.Tests.{ne_eqb}
use Rattle.choose.specs.Ranged.{pick}
use Rattle.attempt.specs.Lent.{attempt_by, inputs_by}
use Rattle.attempt.specs.Outcome.{Outcome}
use Rattle.bus_memory.specs.Memory.{seen_of, stored_in, kept_after, nothing_kept}
use Rattle.bus_memory.specs.declared.Kept.{Kept}
use Rattle.control.specs.Next.{inputs_of}
use Rattle.deck.specs.Elements.{sample_at}
use Rattle.engine.specs.Run.{world, put4_of, samples_from}
use Rattle.engine.specs.RunEnds.{inputs_for, lent_rows}
use Rattle.engine.proofs.Loop.{samples-step, samples-end, unlooked}
use Rattle.rows.specs.Packing.{scan_in}
use Rattle.rows.specs.Table.{whole_rows, table_of}
use Rattle.rows.specs.declared.Inputs.{Inputs}
use Rattle.rows.specs.declared.Outputs.{Outputs}
use Rattle.rows.specs.declared.Packed.{Packed}
use Rattle.state.specs.File.{Leaves}
use Rattle.state.specs.declared.Core.{Core}
use Rattle.state.specs.declared.Sample.{Sample}
use Rattle.memory.specs.Run.{Together, together, Attempts, seen_by, next_of, run_by}
use Rattle.memory.specs.Lent.{transfer_of, with_17, next_by, attempts_by}
use Rattle.memory.proofs.Next.{kept-alike, next-stops, next-takes}

-- nothing is run on after a refusal
over : (t : Bool) → t ≡ false → (x y : Together) → pick t x y ≡ y
over t e x y = rw e

-- what is left of a run: nothing after a refusal
abbrev pub left_by : Attempts → List ℕ → ℕ → List Sample → Together → Together
left_by attempt ws delay ss t = pick (eqb t.world.answer 0) (run_by attempt ws delay ss t) t

module _ (attempt : Attempts) (ws : List ℕ) (delay : ℕ) where
  pub run_none : (t : Together) → run_by attempt ws delay [] t ≡ t
  unfolding run_by
  run_none t = refl

  pub run-cons : (s : Sample) (ss : List Sample) (t : Together)
      → run_by attempt ws delay (s ∷ ss) t ≡ left_by attempt ws delay ss (next_of ws delay t (attempt t.world.file t.world.core (seen_by ws t s)))
  unfolding run_by
  run-cons s ss t = refl

-- rows are matched against what the memory leaves alone
pub rows-unmoved : (ws : List ℕ) (t : Together) (s : Sample) → inputs_by ws t.world.core (seen_by ws t s) ≡ inputs_by ws t.world.core s
unfolding inputs_by inputs_of seen_by seen_of
rows-unmoved ws t s = refl

module _ (codes ws : List ℕ) (ps : List Packed) (delay : ℕ) (s : Sample) (t : Together) where
  -- the attempt by what the rows put out is the attempt by the rows
  pub next-by-rows : next_by codes ws (scan_in ps (inputs_by ws t.world.core s)) delay s t
      ≡ next_of ws delay t (attempts_by codes ws ps t.world.file t.world.core (seen_by ws t s))
  unfolding next_by
  next-by-rows = rw (rows-unmoved ws t s)

module _ (codes ws part samples : List ℕ) (n delay : ℕ) (start : Together) where
  abbrev attempt : Attempts
  attempt = attempts_by codes ws (lent_rows part)

  abbrev pub whole : Together
  whole = run_by attempt ws delay (samples_from samples 0 n) start

  -- what is known after i attempts: what is left to run from there gives the whole run
  pub record Good (i : ℕ) (core : Core) (microcycles : ℕ) (kept : Kept) (file requests bytes : List ℕ) : Type 0 where
    pub counted : microcycles ≤ 255 * i
    pub same : run_by attempt ws delay (samples_from samples i (n - i)) (together (world file core 0 i microcycles requests) bytes kept) ≡ whole

  module _ (i : ℕ) (core : Core) (microcycles : ℕ) (kept : Kept) (file requests bytes : List ℕ)
      (good : Good i core microcycles kept file requests bytes) where
    abbrev t : Together
    t = together (world file core 0 i microcycles requests) bytes kept

    -- after the last one
    pub ends : i ≡ n → together (world file core 0 n microcycles requests) bytes kept ≡ whole
    ends l =
        ap (λ (j : ℕ). together (world file core 0 j microcycles requests) bytes kept) (sym l)
        ∙ sym (ap (λ (ss : List Sample). run_by attempt ws delay ss t) (samples-end samples i n (omega arith)) ∙ run_none attempt ws delay t)
        ∙ good.same

    -- one more attempt, by what the rows put out for what was seen
    module _ (l : i < n) (seen : Inputs) (o : Outputs) (ei : seen ≡ inputs_for (whole_rows part) ws core (sample_at samples i))
        (eo : o ≡ scan_in (lent_rows part) seen) (e : Leaves Outcome)
        (made : e ≡ with_17 ws (length bytes) kept core file (attempt_by codes ws o file core (seen_by ws t (sample_at samples i)))) where
      abbrev sample : Sample
      sample = sample_at samples i

      abbrev rest : List Sample
      rest = samples_from samples (i + 1) (n - (i + 1))

      put-out : o ≡ scan_in (lent_rows part) (inputs_by ws core sample)
      put-out = eo ∙ ap (scan_in (lent_rows part)) ei ∙ unlooked (whole_rows part) (table_of part) ws core sample

      begun : whole ≡ left_by attempt ws delay rest (next_by codes ws o delay sample t)
      begun =
          sym good.same
          ∙ ap (λ (ss : List Sample). run_by attempt ws delay ss t) (samples-step samples i n l)
          ∙ run-cons attempt ws delay sample rest t
          ∙ ap (left_by attempt ws delay rest)
          (sym (ap (λ (x : Outputs). next_by codes ws x delay sample t) put-out ∙ next-by-rows codes ws (lent_rows part) delay sample t))

      -- it counts
      pub turned : (transfer : Bool) → transfer ≡ transfer_of ws core e.back.request → e.back.refusal ≡ 0 → e.back.cycles < 256
          → Good (i + 1) e.back.core (microcycles + e.back.cycles) (kept_after delay kept transfer e.back.request) e.file
          (put4_of requests (i * 4) e.back.request) (stored_in bytes kept e.back.request)
      turned transfer et h few = record {
        counted = omega (arith, good.counted, few);
        same =
            rw (et, kept-alike ws core e.back.request delay kept)
            (ap (left_by attempt ws delay rest) (next-takes codes ws o delay sample t e made h) ∙ sym begun);
      }

      -- it is refused
      pub stopped : (e.back.refusal ≡ 0 → ⊥) → together (world e.file core e.back.refusal i microcycles requests) bytes kept ≡ whole
      stopped h =
          sym (over (eqb e.back.refusal 0) (ne_eqb e.back.refusal 0 h) _ _)
          ∙ ap (left_by attempt ws delay rest) (next-stops codes ws o delay sample t e made h)
          ∙ sym begun

-- before the first attempt all is left to run, and nothing is kept
pub begins : (codes ws part samples : List ℕ) (n delay : ℕ) (file : List ℕ) (first : Core) (requests bytes : List ℕ)
    → Good codes ws part samples n delay (together (world file first 0 0 0 requests) bytes nothing_kept) 0 first 0 nothing_kept file requests bytes
begins codes ws part samples n delay file first requests bytes = record {
  counted = zero-le;
  same =
      ap (λ (k : ℕ). run_by (attempts_by codes ws (lent_rows part)) ws delay (samples_from samples 0 k)
      (together (world file first 0 0 0 requests) bytes nothing_kept)) (omega arith);
}
