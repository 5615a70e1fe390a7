-- 17 is in the place of a 33rd wait in a row, so no run of up to 32 samples is refused by it. Assumes nothing.
use Prim.Native.Nat.{ℕ, ◌+◌, ◌<◌, ◌≤◌}
use mathlib.Core.Path.{◌≡◌, refl}
use mathlib.Core.Bool.{Bool, true, false, ◌&&◌}
use mathlib.Core.List.{List, [], ◌∷◌}
use native.Mathlib.Omega.{arith}
use borrow.Author.Tests.{lt-leb}
use lib.Dec.{eqb, leb}
use lib.ListN.{length}
use Rattle.attempt.specs.Attempt.{attempt_of}
use Rattle.attempt.specs.Outcome.{Outcome}
use Rattle.attempt_laws.proofs.Never.{from-seven, attempt-never}
use Rattle.bus_memory.specs.Memory.{accessed, kept_address, accesses, transfer_waits, waits_after, kept_after, stuck_of, transfers}
use Rattle.bus_memory.specs.declared.Kept.{Kept}
use Rattle.choose.proofs.Choice.{pick_all}
use Rattle.deck.specs.Sections.{samples_part}
use Rattle.engine.proofs.Runs.{samples-length}
use Rattle.engine.specs.Run.{stepped_of, stopped_of}
use Rattle.memory.specs.Host.{deck_run_with}
use Rattle.memory.specs.Run.{Together, code_at, seen_by, taken_in, stopped_at, next_of, run_by, run_with}
use Rattle.rows.specs.declared.Row.{Row}
use Rattle.run_laws.specs.Returned.{sample_count}
use Rattle.state.specs.File.{Leaves}
use Rattle.state.specs.Marking.{marking_of}
use Rattle.state.specs.declared.Sample.{Sample}

one-false : (a c d : Bool) → a && false && c && d ≡ false
one-false true c d = refl
one-false false c d = refl

-- after fewer than 32 waits in a row an attempt is not refused by 17
not_stuck : (size request : ℕ) (transfer : Bool) (k : Kept) → k.waits < 32 → stuck_of size k transfer request ≡ false
unfolding stuck_of
not_stuck size request transfer k l = rw (lt-leb 32 k.waits l) (one-false (transfer_waits transfer request) (accessed k) (leb size (kept_address k)))

-- an attempt is at most one wait more
one-wait : (delay request : ℕ) (transfer : Bool) (k : Kept) → (kept_after delay k transfer request).waits ≤ k.waits + 1
unfolding kept_after waits_after
one-wait delay request transfer k =
    pick_all (λ (m : Kept). m.waits ≤ k.waits + 1) (accesses request) _ _ (omega arith)
    (pick_all (λ (n : ℕ). n ≤ k.waits + 1) (transfer_waits transfer request) _ _ (omega arith) (omega arith))

-- no 17 so far, and so many waits in a row at the most
abbrev Free : ℕ → Together → Type 0
Free n t = (t.world.answer ≡ 17 → ⊥) × (t.kept.waits ≤ n)

module _ (ws : List ℕ) (delay : ℕ) where
  next-free : (n : ℕ) (t : Together) (e : Leaves Outcome) → n < 32 → Free n t → (e.back.refusal ≡ 17 → ⊥) → Free (n + 1) (next_of ws delay t e)
  unfolding next_of taken_in stopped_at stepped_of stopped_of
  next-free n t e few free other =
      rw (not_stuck (length t.bytes) e.back.request (transfers (code_at ws t.world.core)) t.kept (omega arith))
      (pick_all (Free (n + 1)) (eqb e.back.refusal 0) _ _
      ((λ z. omega arith), omega (arith, one-wait delay e.back.request (transfers (code_at ws t.world.core)) t.kept))
      (other, omega arith))

  pub few-free : (rs : List Row) (ss : List Sample) (n : ℕ) (t : Together) → n + length ss ≤ 32 → Free n t
      → (run_with ws rs delay ss t).world.answer ≡ 17 → ⊥
  unfolding run_by
  few-free rs [] n t l free = free.0
  few-free rs (s ∷ ss) n t l free =
      let e = attempt_of ws rs t.world.file t.world.core (seen_by ws t s) in
      let next = next_of ws delay t e in
      let on = next-free n t e (omega arith) free (attempt-never 17 (from-seven 17 (omega arith) (λ z. omega arith)) ws rs _ _ _) in
      pick_all (λ (v : Together). v.world.answer ≡ 17 → ⊥) (eqb next.world.answer 0) (run_with ws rs delay ss next) next
      (few-free rs ss (n + 1) next (omega arith) on) on.0

-- so of a deck
pub few-samples : (deck memory : List ℕ) (delay : ℕ) (requests : List ℕ) (marking : ℕ) → sample_count deck ≤ 32
    → (deck_run_with deck memory delay requests (marking_of marking)).world.answer ≡ 17 → ⊥
unfolding deck_run_with
few-samples deck memory delay requests marking l =
    few-free _ delay _ _ 0 _ (omega (arith, samples-length (samples_part deck) (sample_count deck) 0)) ((λ z. omega arith), omega arith)
