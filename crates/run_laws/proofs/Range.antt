-- In range stays in range over a run.
-- Assumes nothing.
use mathlib.Core.Path.{◌≡◌}
use mathlib.Core.Bool.{true}
use mathlib.Core.List.{List, [], ◌∷◌}
use Prim.Native.Nat.{ℕ}
use lib.Dec.{eqb}
use Rattle.attempt.specs.Attempt.{attempt_of}
use Rattle.choose.proofs.Choice.{pick_all}
use Rattle.attempt_laws.proofs.Range.{attempt-in-range}
use Rattle.engine.specs.Run.{World, stepped_of, stopped_of, run_from}
use Rattle.rows.specs.Range.{rows_in_range}
use Rattle.rows.specs.declared.Row.{Row}
use Rattle.state.specs.Range.{InRange}
use Rattle.state.specs.declared.Sample.{Sample}
use Rattle.run_laws.specs.Laws.{SamplesInRange}

-- "state out of range" is never returned, whatever the words and however the run ends
pub run-in-range : (ws : List ℕ) (rs : List Row) → rows_in_range rs ≡ true → (ss : List Sample) → SamplesInRange ss
    → (w : World) → InRange w.file w.core → InRange (run_from ws rs ss w).file (run_from ws rs ss w).core
unfolding run_from stepped_of stopped_of
run-in-range ws rs r [] d w h = h
run-in-range ws rs r (s ∷ ss) d w h =
    let e = attempt_of ws rs w.file w.core s in
    pick_all (λ (v : World). InRange v.file v.core) (eqb e.back.refusal 0) _ _
    (run-in-range ws rs r ss d.1 (stepped_of w e) (attempt-in-range ws rs w.file w.core s r h d.0))
    h
