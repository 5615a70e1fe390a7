-- 02, L12, of what the host is handed back. Readings: "the second deck has the same words and rows, the state handed back, the samples that are left; its
-- requests go to the rest of the buffer".
use Rattle.std.specs.Prelude.{ℕ, ◌+◌, ◌*◌, ◌/◌, ◌≡◌, List, [], ◌∷◌, ◌++◌, eqb, length, take, drop}
use Rattle.choose.specs.Ranged.{pick}
use Rattle.deck.specs.Ranges.{deck_refusal_of}
use Rattle.deck.specs.Sections.{words_part, rows_part, state_part, samples_part}
use Rattle.deck.specs.Slip.{counted, Sections}
use Rattle.engine.specs.Host.{Hosted, hosted, reported, host_of}
use Rattle.numbers.specs.Numbers.{Bytes}
use Rattle.state_bytes.specs.Bytes.{state_bytes}

-- "A deck holds the first four in this order, each after its count": words of 4 bytes, rows of 16, one state, samples of 4
abbrev pub deck_of : List ℕ → List ℕ → List ℕ → List ℕ → List ℕ
deck_of words rows state samples =
    counted (length words / 4) words ++ (counted (length rows / 16) rows ++ (counted 1 state ++ counted (length samples / 4) samples))

-- the two decks of a cut after n samples, with the same words and rows: the first n samples, and the samples that are left with the state handed back
unfoldable pub first_deck : List ℕ → ℕ → List ℕ
first_deck deck n = deck_of (words_part deck) (rows_part deck) (state_part deck) (take (n * 4) (samples_part deck))

unfoldable pub rest_deck : List ℕ → ℕ → List ℕ → List ℕ
rest_deck deck n state = deck_of (words_part deck) (rows_part deck) state (drop (n * 4) (samples_part deck))

-- part is a deck of these sections, with a place for each sample, and it is not refused by 9, 24 or 1-4
pub record IsDeck (part words rows state samples : List ℕ) (requests buffer marking : ℕ) : Type 0 where
  pub bytes : Bytes part
  pub sections : Sections state_bytes part
  pub words_same : words_part part ≡ words
  pub rows_same : rows_part part ≡ rows
  pub state-same : state_part part ≡ state
  pub samples-same : samples_part part ≡ samples
  pub not-refused : deck_refusal_of part requests buffer marking ≡ 0

-- what the host has of two runs, where the first used up n samples: the later one's state and answer, the "summed attempts and microcycles", and the requests
-- of both
abbrev pub together : ℕ → Hosted → Hosted → Hosted
together n first rest =
    let attempts = first.report.attempts + rest.report.attempts in
    let microcycles = first.report.microcycles + rest.report.microcycles in
    hosted (reported rest.report.answer attempts microcycles) (take (n * 4) first.requests ++ rest.requests) rest.state

-- a deck cut after so many samples, after so many more, and so on: each part is a deck with the state handed back by the one before, its requests go to the
-- rest of the buffer, and none follows one that is refused
unfoldable pub host_in_parts : List ℕ → List ℕ → List ℕ → List ℕ → ℕ → Hosted
host_in_parts [] deck requests state marking = host_of deck requests state marking
host_in_parts (n ∷ ns) deck requests state marking =
    let first = host_of (first_deck deck n) requests state marking in
    let rest = host_in_parts ns (rest_deck deck n first.state) (drop (n * 4) first.requests) first.state marking in
    pick (eqb first.report.answer 0) (together n first rest) first
