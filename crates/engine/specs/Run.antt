-- A run: an attempt for each sample, one after the other, until one is refused. 01, "What is handed in" and "Numbers on the refusal slip".
use Rattle.std.specs.Prelude.{ℕ, zero, suc, ◌+◌, ◌*◌, ◌/◌, ◌%◌, List, [], ◌∷◌, eqb, set}
use Rattle.choose.specs.Ranged.{pick}
use Rattle.attempt.specs.Attempt.{attempt_of}
use Rattle.deck.specs.Elements.{sample_at}
use Rattle.rows.specs.declared.Row.{Row}
use Rattle.state.specs.declared.Core.{Core}
use Rattle.state.specs.declared.Sample.{Sample}
use Rattle.state.specs.File.{Leaves}
use Rattle.attempt.specs.Outcome.{Outcome}

-- all that a run has so far: registers and the rest of the state, the answer, the counts, and the request buffer's bytes
pub record World : Type 0 where
  pub file : List ℕ
  pub core : Core
  pub answer : ℕ
  pub attempts : ℕ
  pub microcycles : ℕ
  pub buffer : List ℕ

abbrev pub world : List ℕ → Core → ℕ → ℕ → ℕ → List ℕ → World
world xs k answer attempts microcycles buffer =
    record { file = xs; core = k; answer = answer; attempts = attempts; microcycles = microcycles; buffer = buffer }

-- a request in its place, "one 32-bit place for each sample", low byte first
unfoldable pub put4_of : List ℕ → ℕ → ℕ → List ℕ
put4_of b at x = set (set (set (set b at (x % 256)) (at + 1) (x / 256 % 256)) (at + 2) (x / 65536 % 256)) (at + 3) (x / 16777216 % 256)

-- an attempt that was not refused: its state, its place, and the counts
unfoldable pub stepped_of : World → Leaves Outcome → World
stepped_of w e =
    world e.file e.back.core 0 (w.attempts + 1) (w.microcycles + e.back.cycles)
    (put4_of w.buffer (w.attempts * 4) e.back.request)

-- "Numbers 5-8 return the state before the refused attempt and the counts up to it; the places of earlier attempts are written, the others are untouched"
unfoldable pub stopped_of : World → ℕ → World
stopped_of w number = world w.file w.core number w.attempts w.microcycles w.buffer

-- the samples that are left, from the world so far
unfoldable pub run_from : List ℕ → List Row → List Sample → World → World
run_from ws rs [] w = w
run_from ws rs (s ∷ ss) w =
    let e = attempt_of ws rs w.file w.core s in
    pick (eqb e.back.refusal 0) (run_from ws rs ss (stepped_of w e)) (stopped_of w e.back.refusal)

-- n samples of a samples section, from sample i on
unfoldable pub samples_from : List ℕ → ℕ → ℕ → List Sample
samples_from s i zero = []
samples_from s i (suc n) = sample_at s i ∷ samples_from s (suc i) n
