-- The places of the request buffer that a run writes.
-- Assumes nothing.
use mathlib.Core.Path.{refl, ◌∙◌}
use mathlib.Core.List.{List, [], ◌∷◌}
use Prim.Native.Nat.{ℕ, ◌*◌}
use native.Mathlib.Omega.{arith}
use lib.Dec.{eqb}
use Rattle.attempt.specs.Attempt.{attempt_of}
use Rattle.choose.proofs.Choice.{pick_all}
use Rattle.engine.specs.Run.{World, stepped_of, stopped_of, run_from}
use Rattle.engine.proofs.Places.{put-length, put_other}
use Rattle.rows.specs.declared.Row.{Row}
use Rattle.state.specs.declared.Sample.{Sample}
use Rattle.run_laws.specs.Laws.{Placed}

-- "the places of earlier attempts are written, the others are untouched"
pub run-places : (ws : List ℕ) (rs : List Row) (ss : List Sample) (w : World) → Placed w (run_from ws rs ss w)
unfolding run_from stepped_of stopped_of
run-places ws rs [] w = record { size = refl; onward = omega arith; before = λ i d l. refl; past = λ i d l. refl }
run-places ws rs (s ∷ ss) w =
    let x = attempt_of ws rs w.file w.core s in
    let p = run-places ws rs ss (stepped_of w x) in
    let at = w.attempts * 4 in
    let n = x.back.request in
    pick_all (Placed w) (eqb x.back.refusal 0) _ _
    (record {
      size = p.size ∙ put-length w.buffer at n;
      onward = omega (arith, p.onward);
      before = λ i d l. p.before i d (omega arith) ∙ put_other w.buffer at n i d (λ lo hi. omega arith);
      past = λ i d l. p.past i d l ∙ put_other w.buffer at n i d (λ lo hi. omega (arith, p.onward));
    })
    (record { size = refl; onward = omega arith; before = λ i d l. refl; past = λ i d l. refl })
