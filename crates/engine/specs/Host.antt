-- What the bench host is handed back. 01, "What is handed in" and "Numbers on the refusal slip".
use Rattle.std.specs.Prelude.{ℕ, ◌/◌, List, eqb, length}
use Rattle.choose.specs.Ranged.{pick}
use Rattle.deck.specs.Sections.{words_part, rows_part, state_part, samples_part}
use Rattle.deck.specs.Ranges.{deck_refusal_of}
use Rattle.rows.specs.Section.{rows_of}
use Rattle.state.specs.Marking.{marking_of}
use Rattle.state.specs.declared.Marking.{Marking}
use Rattle.state_bytes.specs.Bytes.{file_of, core_of, stored_of}
use Rattle.engine.specs.declared.Report.{Report}
use Rattle.engine.specs.Run.{World, world, run_from, samples_from}

-- the report, and what the request buffer and the state buffer then hold
pub record Hosted : Type 0 where
  pub report : Report
  pub requests : List ℕ
  pub state : List ℕ

abbrev pub hosted : Report → List ℕ → List ℕ → Hosted
hosted r b s = record { report = r; requests = b; state = s }

abbrev pub reported : ℕ → ℕ → ℕ → Report
reported answer attempts microcycles = record { answer = answer; attempts = attempts; microcycles = microcycles }

-- the run of a deck's own words, rows, state and samples, by a set of this marking
unfoldable pub deck_run : List ℕ → List ℕ → Marking → World
deck_run deck requests marking =
    run_from (words_part deck) (rows_of (rows_part deck) (length (rows_part deck) / 16))
    (samples_from (samples_part deck) 0 (length (samples_part deck) / 4))
    (world (file_of (state_part deck)) (core_of (state_part deck) marking) 0 0 0 requests)

-- "Numbers 1-4 and 9 return no attempts and no microcycles and change nothing", and 24 of 02, L14, alike; else the run's answer, counts and places, and
-- "the state returned is written there"
unfoldable pub host_of : List ℕ → List ℕ → List ℕ → ℕ → Hosted
host_of deck requests state marking =
    let number = deck_refusal_of deck (length requests) (length state) marking in
    let w = deck_run deck requests (marking_of marking) in
    pick (eqb number 0)
    (hosted (reported w.answer w.attempts w.microcycles) w.buffer (stored_of w.file w.core state))
    (hosted (reported number 0 0) requests state)
