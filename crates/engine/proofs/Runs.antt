-- Laws of a run: its samples are as many as asked for, and an attempt that is not refused leads on.
-- Assumes nothing.
use Prim.Native.Nat.{ℕ, suc, zero}
use mathlib.Core.Path.{◌≡◌, refl, ap}
use mathlib.Core.List.{List, ◌∷◌}
use lib.ListN.{length}
use borrow.Author.Tests.{eq-eqb}
use Rattle.attempt.specs.Attempt.{attempt_of}
use Rattle.rows.specs.declared.Row.{Row}
use Rattle.state.specs.declared.Sample.{Sample}
use Rattle.engine.specs.Run.{World, stepped_of, run_from, samples_from}
use Rattle.state.specs.File.{Leaves}
use Rattle.attempt.specs.Outcome.{Outcome}

pub samples-length : (s : List ℕ) (n i : ℕ) → length (samples_from s i n) ≡ n
unfolding samples_from
samples-length s zero i = refl
samples-length s (suc n) i = ap suc (samples-length s n (suc i))

module _ (ws : List ℕ) (rs : List Row) where
  pub run-cons : (s : Sample) (ss : List Sample) (w : World) (e : Leaves Outcome) → e ≡ attempt_of ws rs w.file w.core s → e.back.refusal ≡ 0
      → run_from ws rs (s ∷ ss) w ≡ run_from ws rs ss (stepped_of w e)
  unfolding run_from
  run-cons s ss w e made h = rw (← made, eq-eqb e.back.refusal 0 h)
