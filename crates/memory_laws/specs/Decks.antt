-- The deck whose samples have the lines that the memory gave, of a deck that was run with a memory.
use Rattle.std.specs.Prelude.{ℕ, zero, suc, ◌+◌, ◌*◌, ◌/◌, ◌%◌, List, [], ◌∷◌, ◌++◌}
use Rattle.choose.specs.Ranged.{bit}
use Rattle.bus_memory.specs.Memory.{nothing_kept}
use Rattle.cuts.specs.Decks.{deck_of}
use Rattle.deck.specs.Elements.{sample_at}
use Rattle.deck.specs.Sections.{words_part, rows_part, state_part, samples_part}
use Rattle.engine.specs.Run.{world}
use Rattle.memory.specs.Run.{Together, together}
use Rattle.run_laws.specs.Returned.{deck_rows, sample_count}
use Rattle.state.specs.Marking.{marking_of}
use Rattle.state.specs.declared.Sample.{Sample}
use Rattle.state_bytes.specs.Bytes.{file_of, core_of}
use Rattle.memory_laws.specs.Attempts.{seen_at}

-- before the first attempt of a deck's run with a memory
abbrev pub deck_start : List ℕ → List ℕ → List ℕ → ℕ → Together
deck_start deck memory requests marking =
    together (world (file_of (state_part deck)) (core_of (state_part deck) (marking_of marking)) 0 0 0 requests) memory nothing_kept

-- "Samples: data, lines (bit 0 REPLY, 1 BUSY, 2 COMPUTE, 3 RESET, 4 ICS), I0-I3 in bits 0-3"
abbrev pub lines_byte : Sample → ℕ
lines_byte s = bit s.reply + 2 * bit s.busy + 4 * bit s.compute + 8 * bit s.reset + 16 * bit s.ics

abbrev pub sample_bytes : Sample → List ℕ
sample_bytes s = s.dal % 256 ∷ s.dal / 256 ∷ lines_byte s ∷ s.interrupts ∷ []

-- the bytes of n samples, at 0, at 1 and so on
unfoldable pub section_below : (ℕ → Sample) → ℕ → List ℕ
section_below at zero = []
section_below at (suc n) = section_below at n ++ sample_bytes (at n)

-- attempt i of a deck's run with a memory sees these lines
abbrev pub deck_seen : List ℕ → List ℕ → ℕ → List ℕ → ℕ → ℕ → Sample
deck_seen deck memory delay requests marking =
    seen_at (words_part deck) (deck_rows deck) delay (sample_at (samples_part deck)) (deck_start deck memory requests marking)

-- the same words, rows and state, and those lines in the place of the external ones
unfoldable pub seen_deck : List ℕ → List ℕ → ℕ → List ℕ → ℕ → List ℕ
seen_deck deck memory delay requests marking =
    deck_of (words_part deck) (rows_part deck) (state_part deck) (section_below (deck_seen deck memory delay requests marking) (sample_count deck))
