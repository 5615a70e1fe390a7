-- What the bench host is handed back of a run with a memory. 02, L7.
use Rattle.std.specs.Prelude.{ℕ, ◌/◌, List, eqb, length}
use Rattle.choose.specs.Ranged.{pick}
use Rattle.bus_memory.specs.Memory.{nothing_kept, memory_refusal_of}
use Rattle.deck.specs.Sections.{words_part, rows_part, state_part, samples_part}
use Rattle.deck.specs.Ranges.{deck_refusal_of}
use Rattle.engine.specs.Host.{Hosted, hosted, reported}
use Rattle.engine.specs.Run.{world, samples_from}
use Rattle.rows.specs.Section.{rows_of}
use Rattle.state.specs.Marking.{marking_of}
use Rattle.state.specs.declared.Marking.{Marking}
use Rattle.state_bytes.specs.Bytes.{file_of, core_of, stored_of}
use Rattle.memory.specs.Run.{Together, together, run_with}

-- what the host is handed back of any run, and the memory's bytes
pub record Remembered : Type 0 where
  pub host : Hosted
  pub memory : List ℕ

abbrev pub remembered : Hosted → List ℕ → Remembered
remembered h bytes = record { host = h; memory = bytes }

-- "Order: 9, then 1, 2, 3, 4", 24 "right after 9", and 16 "after 4"
unfoldable pub refusal_with : List ℕ → ℕ → ℕ → ℕ → ℕ → ℕ → ℕ
refusal_with deck memory delay requests state marking =
    let number = deck_refusal_of deck requests state marking in
    pick (eqb number 0) (memory_refusal_of memory delay) number

-- the run of a deck's own words, rows, state and samples, which are the external lines: it starts with nothing kept
unfoldable pub deck_run_with : List ℕ → List ℕ → ℕ → List ℕ → Marking → Together
deck_run_with deck memory delay requests marking =
    run_with (words_part deck) (rows_of (rows_part deck) (length (rows_part deck) / 16)) delay
    (samples_from (samples_part deck) 0 (length (samples_part deck) / 4))
    (together (world (file_of (state_part deck)) (core_of (state_part deck) marking) 0 0 0 requests) memory nothing_kept)

-- "16 .. returns no attempts and no microcycles and changes nothing, the memory included", as 9, 24 and 1-4 do
unfoldable pub host_with : List ℕ → List ℕ → ℕ → List ℕ → List ℕ → ℕ → Remembered
host_with deck memory delay requests state marking =
    let number = refusal_with deck (length memory) delay (length requests) (length state) marking in
    let t = deck_run_with deck memory delay requests (marking_of marking) in
    let w = t.world in
    pick (eqb number 0)
    (remembered (hosted (reported w.answer w.attempts w.microcycles) w.buffer (stored_of w.file w.core state)) t.bytes)
    (remembered (hosted (reported number 0 0) requests state) memory)
