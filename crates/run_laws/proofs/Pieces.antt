-- A run in pieces: what comes after some samples goes on from what they left.
-- Assumes nothing.
use mathlib.Core.Path.{◌≡◌, refl}
use mathlib.Core.Bool.{Bool, true, false}
use mathlib.Core.List.{List, [], ◌∷◌, ◌++◌}
use Prim.Native.Nat.{ℕ, ◌+◌}
use borrow.Author.Tests.{eq-eqb}
use lib.Dec.{eqb}
use Rattle.attempt.specs.Attempt.{attempt_of}
use Rattle.choose.specs.Ranged.{pick}
use Rattle.engine.specs.Run.{World, stepped_of, stopped_of, run_from}
use Rattle.rows.specs.declared.Row.{Row}
use Rattle.state.specs.declared.Sample.{Sample}
use Rattle.run_laws.specs.Laws.{further}

module _ (ws : List ℕ) (rs : List Row) where
  -- one attempt with answer number, and then a where that is 0, which goes on from v
  pieces_step : (ts : List Sample) (w a v : World) (number : ℕ) → a ≡ further ws rs ts v → (t : Bool) → eqb number 0 ≡ t
      → pick t a (stopped_of w number) ≡ further ws rs ts (pick t v (stopped_of w number))
  unfolding stopped_of
  pieces_step ts w a v number e true q = e
  pieces_step ts w a v number e false q = rw q

  -- "one for each attempt": a run over samples in two pieces is the one over them all
  pub run-pieces : (ss ts : List Sample) (w : World) → w.answer ≡ 0 → run_from ws rs (ss ++ ts) w ≡ further ws rs ts (run_from ws rs ss w)
  unfolding run_from stepped_of
  run-pieces [] ts w e = rw (eq-eqb _ 0 e)
  run-pieces (s ∷ ss) ts w e =
      let x = attempt_of ws rs w.file w.core s in
      pieces_step ts w _ (run_from ws rs ss (stepped_of w x)) x.back.refusal (run-pieces ss ts (stepped_of w x) refl) _ refl
