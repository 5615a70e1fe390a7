-- What the host is handed back after the attempts of a deck, one by one.
use Rattle.std.specs.Prelude.{ℕ, ◌*◌, ◌/◌, ◌<◌, ◌≤◌, ◌≡◌, List, length, get_or}
use Rattle.attempt.specs.Outcome.{Outcome}
use Rattle.deck.specs.Elements.{sample_at}
use Rattle.deck.specs.Sections.{words_part, rows_part, state_part, samples_part}
use Rattle.engine.specs.Host.{Hosted}
use Rattle.numbers.specs.Numbers.{quad_at}
use Rattle.rows.specs.Section.{rows_of}
use Rattle.rows.specs.declared.Row.{Row}
use Rattle.state.specs.File.{Leaves, leaves}
use Rattle.state.specs.Marking.{marking_of}
use Rattle.state.specs.declared.Core.{Core}
use Rattle.state_bytes.specs.Bytes.{file_of, core_of, bytes_of}
use Rattle.run_laws.specs.Attempts.{sum_below, state_after, attempt_at, NoneCompletes, LastCompleted}

abbrev pub deck_rows : List ℕ → List Row
deck_rows deck = rows_of (rows_part deck) (length (rows_part deck) / 16)

abbrev pub sample_count : List ℕ → ℕ
sample_count deck = length (samples_part deck) / 4

-- in a set of this marking
abbrev pub deck_state : List ℕ → ℕ → Leaves Core
deck_state deck marking = leaves (file_of (state_part deck)) (core_of (state_part deck) (marking_of marking))

-- the state before attempt i, counted from 0, and that attempt, with its own sample
abbrev pub state_in : List ℕ → ℕ → ℕ → Leaves Core
state_in deck marking i = state_after (words_part deck) (deck_rows deck) (sample_at (samples_part deck)) (deck_state deck marking) i

abbrev pub attempt_in : List ℕ → ℕ → ℕ → Leaves Outcome
attempt_in deck marking i = attempt_at (words_part deck) (deck_rows deck) (sample_at (samples_part deck)) (deck_state deck marking) i

-- attempt i is the last of the first n that completes its word; none of the first n does
abbrev pub LastCompletedIn : List ℕ → ℕ → ℕ → ℕ → Type 0
LastCompletedIn deck marking i n = LastCompleted (words_part deck) (deck_rows deck) (sample_at (samples_part deck)) (deck_state deck marking) i n

abbrev pub NoneCompletesIn : List ℕ → ℕ → ℕ → Type 0
NoneCompletesIn deck marking n = NoneCompletes (words_part deck) (deck_rows deck) (sample_at (samples_part deck)) (deck_state deck marking) 0 n

-- h is handed back after i attempts, none of them refused: "the counts up to it; the places of earlier attempts are written, the others are untouched",
-- and "the state returned is written there"
pub record Returned (deck requests : List ℕ) (marking : ℕ) (h : Hosted) (i : ℕ) : Type 0 where
  pub passed : (j : ℕ) → j < i → (attempt_in deck marking j).back.refusal ≡ 0
  pub state : h.state ≡ bytes_of (state_in deck marking i).file (state_in deck marking i).back
  pub attempts : h.report.attempts ≡ i
  pub microcycles : h.report.microcycles ≡ sum_below i (λ j. (attempt_in deck marking j).back.cycles)
  pub written : (j : ℕ) → j < i → quad_at h.requests (j * 4) ≡ (attempt_in deck marking j).back.request
  pub size : length h.requests ≡ length requests
  pub untouched : (k d : ℕ) → i * 4 ≤ k → get_or h.requests k d ≡ get_or requests k d

-- "Numbers 5-8 return the state before the refused attempt and the counts up to it": attempt i is refused with the number that is answered
pub record Refused (deck requests : List ℕ) (marking : ℕ) (h : Hosted) (i : ℕ) : Type 0 where
  pub sample : i < sample_count deck
  pub number : (attempt_in deck marking i).back.refusal ≡ h.report.answer
  pub returned : Returned deck requests marking h i
