-- The attempts of a run with a memory one by one, told without the run: each starts from what the one before it left, and sees the lines that the memory gives.
use Rattle.std.specs.Prelude.{ℕ, zero, suc, ◌<◌, ◌≡◌, Bool, ◌&&◌, List, [], ◌∷◌, ◌++◌, eqb, leb, length}
use Rattle.choose.specs.Ranged.{pick}
use Rattle.attempt.specs.Attempt.{attempt_of}
use Rattle.attempt.specs.Outcome.{Outcome}
use Rattle.memory.specs.Run.{Together, code_at, seen_by, taken_in, stopped_at}
use Rattle.rows.specs.declared.Row.{Row}
use Rattle.state.specs.File.{Leaves}
use Rattle.state.specs.declared.Sample.{Sample}
use Rattle.memory_laws.specs.History.{kind, is_transfer, accessed_before, address_before, waits_before}

-- at 0, at 1 and so on, n of them
unfoldable pub samples_below : (ℕ → Sample) → ℕ → List Sample
samples_below at zero = []
samples_below at (suc n) = samples_below at n ++ (at n ∷ [])

abbrev pub attempt_with : List ℕ → List Row → Together → Sample → Leaves Outcome
attempt_with ws rs t s = attempt_of ws rs t.world.file t.world.core (seen_by ws t s)

module _ (ws : List ℕ) (rs : List Row) (delay : ℕ) (at : ℕ → Sample) (first : Together) where
  -- what there is after i attempts, and attempt i, counted from 0: the lines that it sees, its code and its request
  unfoldable pub together_after : ℕ → Together
  together_after zero = first
  together_after (suc i) = taken_in ws delay (together_after i) (attempt_with ws rs (together_after i) (at i))

  abbrev pub seen_at : ℕ → Sample
  seen_at i = seen_by ws (together_after i) (at i)

  abbrev pub attempt_at : ℕ → Leaves Outcome
  attempt_at i = attempt_with ws rs (together_after i) (at i)

  abbrev pub code_before : ℕ → ℕ
  code_before i = code_at ws (together_after i).world.core

  abbrev pub request_at : ℕ → ℕ
  request_at i = (attempt_at i).back.request

  -- attempt i would be "a 33rd IB, IW, OB or OW wait in a row, the kept address beyond the memory"
  abbrev pub stuck_at : ℕ → Bool
  stuck_at i =
      (eqb (kind (request_at i)) 10 && is_transfer (code_before i)) && leb 32 (waits_before code_before request_at i) && accessed_before request_at i
      && leb (length first.bytes) (address_before request_at i)

  -- the number that attempt i is refused with, or 0: "17 in place of" the wait
  abbrev pub number_at : ℕ → ℕ
  number_at i = pick (eqb (attempt_at i).back.refusal 0) (pick (stuck_at i) 17 0) (attempt_at i).back.refusal

  -- none of the first n attempts is refused
  abbrev pub Passed : ℕ → Type 0
  Passed n = (j : ℕ) → j < n → number_at j ≡ 0

  -- n samples led to v: all were used; or attempt i was refused, and nothing is left of it: "the state being that after the 32nd, counts and places as for
  -- 5-8"
  pub data Course (n : ℕ) (v : Together) : Type 0 where
    used : Passed n → v ≡ together_after n → Course n v
    stopped : (i : ℕ) → i < n → Passed i → (number_at i ≡ 0 → ⊥) → v ≡ stopped_at (together_after i) (number_at i) → Course n v
