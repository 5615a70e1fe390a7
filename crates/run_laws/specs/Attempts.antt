-- The attempts of a run one by one, told without the run: "Samples: 0 to 65,535, one for each attempt". Each starts from what the one before it left.
use Rattle.std.specs.Prelude.{ℕ, zero, suc, ◌+◌, ◌*◌, ◌<◌, ◌≤◌, ◌≡◌, List, length}
use Rattle.attempt.specs.Attempt.{attempt_of}
use Rattle.attempt.specs.Outcome.{Outcome}
use Rattle.attempt_laws.specs.Fate.{fate_of, completed}
use Rattle.engine.specs.Run.{World}
use Rattle.numbers.specs.Numbers.{quad_at}
use Rattle.rows.specs.declared.Row.{Row}
use Rattle.state.specs.File.{Leaves, leaves}
use Rattle.state.specs.declared.Core.{Core}
use Rattle.state.specs.declared.Sample.{Sample}

-- f 0, f 1 and so on, n of them, added up
abbrev pub sum_below : ℕ → (ℕ → ℕ) → ℕ
sum_below zero f = 0
sum_below (suc n) f = sum_below n f + f n

-- an attempt from a state, its registers and its core, and the state that it leaves
abbrev pub attempt_from : List ℕ → List Row → Leaves Core → Sample → Leaves Outcome
attempt_from ws rs x s = attempt_of ws rs x.file x.back s

abbrev pub left_by : Leaves Outcome → Leaves Core
left_by e = leaves e.file e.back.core

module _ (ws : List ℕ) (rs : List Row) (at : ℕ → Sample) (first : Leaves Core) where
  -- the state after i attempts, and attempt i, counted from 0, which has sample i
  unfoldable pub state_after : ℕ → Leaves Core
  state_after zero = first
  state_after (suc i) = left_by (attempt_from ws rs (state_after i) (at i))

  abbrev pub attempt_at : ℕ → Leaves Outcome
  attempt_at i = attempt_from ws rs (state_after i) (at i)

  -- attempt i completes its word; none of the attempts from i to n - 1 does; attempt i is the last of the first n that does
  abbrev pub CompletesAt : ℕ → Type 0
  CompletesAt i = fate_of ws (state_after i).back (at i) ≡ completed

  abbrev pub NoneCompletes : ℕ → ℕ → Type 0
  NoneCompletes i n = (j : ℕ) → i ≤ j → j < n → CompletesAt j → ⊥

  abbrev pub LastCompleted : ℕ → ℕ → Type 0
  LastCompleted i n = (i < n) × CompletesAt i × NoneCompletes (suc i) n

abbrev pub state_of : World → Leaves Core
state_of w = leaves w.file w.core

-- From w, n samples led to v. `made` attempts passed, one after the other. Then all samples were used, or the next attempt was refused: "Numbers 5-8
-- return the state before the refused attempt and the counts up to it; the places of earlier attempts are written".
pub record Ran (ws : List ℕ) (rs : List Row) (at : ℕ → Sample) (n : ℕ) (w v : World) : Type 0 where
  pub made : ℕ
  pub passed : (j : ℕ) → j < made → (attempt_at ws rs at (state_of w) j).back.refusal ≡ 0
  pub used : v.answer ≡ 0 → made ≡ n
  pub refused : (v.answer ≡ 0 → ⊥) → (made < n) × ((attempt_at ws rs at (state_of w) made).back.refusal ≡ v.answer)
  pub state : state_of v ≡ state_after ws rs at (state_of w) made
  pub attempts : v.attempts ≡ w.attempts + made
  pub microcycles : v.microcycles ≡ w.microcycles + sum_below made (λ j. (attempt_at ws rs at (state_of w) j).back.cycles)
  pub places : (j : ℕ) → j < made → (w.attempts + j) * 4 + 4 ≤ length w.buffer
      → (attempt_at ws rs at (state_of w) j).back.request < 0x1_0000_0000
      → quad_at v.buffer ((w.attempts + j) * 4) ≡ (attempt_at ws rs at (state_of w) j).back.request
