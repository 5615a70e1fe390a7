-- 02, L14: "A run names its marking": each state of the run has it. Assumes nothing.
use mathlib.Core.Path.{◌≡◌, refl, ◌∙◌}
use mathlib.Core.List.{List, [], ◌∷◌}
use Prim.Native.Nat.{ℕ}
use lib.Dec.{eqb}
use Rattle.attempt.specs.Attempt.{attempt_of}
use Rattle.attempt_laws.proofs.After.{attempt-marking}
use Rattle.choose.proofs.Choice.{pick_all}
use Rattle.engine.specs.Host.{deck_run}
use Rattle.engine.specs.Run.{World, stepped_of, stopped_of, run_from}
use Rattle.rows.specs.declared.Row.{Row}
use Rattle.state.specs.declared.Marking.{Marking}
use Rattle.state.specs.declared.Sample.{Sample}
use Rattle.state_bytes.specs.Bytes.{core_of}

pub run-marking : (ws : List ℕ) (rs : List Row) (ss : List Sample) (w : World) → (run_from ws rs ss w).core.marking ≡ w.core.marking
unfolding run_from stepped_of stopped_of
run-marking ws rs [] w = refl
run-marking ws rs (s ∷ ss) w =
    let x = attempt_of ws rs w.file w.core s in
    pick_all (λ (v : World). v.core.marking ≡ w.core.marking) (eqb x.back.refusal 0) _ _
    (run-marking ws rs ss (stepped_of w x) ∙ attempt-marking ws rs w.file w.core s) refl

pub deck-marking : (deck requests : List ℕ) (m : Marking) → (deck_run deck requests m).core.marking ≡ m
unfolding deck_run core_of
deck-marking deck requests m = run-marking _ _ _ _
