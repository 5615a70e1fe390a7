-- Demand 3 at the entry that the bench host calls: the deck's own words, samples and state, and what is handed back.
use Rattle.std.specs.Prelude.{ℕ, ◌+◌, ◌*◌, ◌/◌, ◌≡◌, false, List, [], length, take}
use Rattle.deck.specs.Ranges.{deck_refusal_of}
use Rattle.deck.specs.Sections.{words_part, rows_part, state_part, samples_part}
use Rattle.engine.specs.Host.{Hosted, reported}
use Rattle.engine.specs.Run.{World, world, samples_from}
use Rattle.numbers.specs.Numbers.{Bytes}
use Rattle.state.specs.Marking.{marking_of}
use Rattle.state.specs.declared.Sample.{Sample}
use Rattle.state_bytes.specs.Bytes.{state_bytes, file_of, core_of, bytes_of}
use Rattle.sums.specs.Sums.{Cut, Sign, byte_count, InPlace, Computing, Summed, BackInOneRun, BackInTwoRuns}

-- the samples of a deck
abbrev pub deck_samples : List ℕ → List Sample
deck_samples deck = samples_from (samples_part deck) 0 (length (samples_part deck) / 4)

-- its state before the first attempt in a set of this marking, with the host's request buffer
abbrev pub deck_start : List ℕ → List ℕ → ℕ → World
deck_start deck requests marking = world (file_of (state_part deck)) (core_of (state_part deck) (marking_of marking)) 0 0 0 requests

-- a deck's bytes whose run is that of these instructions, for a request buffer, a state buffer and a marking
pub record DeckReady (is deck requests state : List ℕ) (marking : ℕ) : Type 0 where
  pub bytes : Bytes deck
  -- "all input in range, a place for each request": nothing of it is refused before the first attempt
  pub accepted : deck_refusal_of deck (length requests) (length state) marking ≡ 0
  -- "the words in sequence, one sample for each, no rows, COMPUTE high, RESET low and no modification waiting"
  pub in_place : InPlace (words_part deck) (core_of (state_part deck) (marking_of marking)).address.lc is
  pub computing : Computing (deck_samples deck) is
  pub no_rows : rows_part deck ≡ []
  pub unmarked : (core_of (state_part deck) (marking_of marking)).latches.marked ≡ false

-- what is handed back: the report's numbers, the request buffer, and the state buffer read as a deck's state is
abbrev pub handed_back : ℕ → Hosted → World
handed_back marking h =
    world (file_of h.state) (core_of h.state (marking_of marking)) h.report.answer h.report.attempts h.report.microcycles h.requests

-- all samples used, so many attempts and microcycles; and the bytes are that state's
pub record Handed (attempts microcycles marking : ℕ) (h : Hosted) : Type 0 where
  pub report : h.report ≡ reported 0 attempts microcycles
  pub state : h.state ≡ bytes_of (handed_back marking h).file (handed_back marking h).core
  pub size : length h.state ≡ state_bytes

-- the sum or the difference of what the deck held
pub record HostSummed (sign : Sign) (cut : Cut) (deck requests : List ℕ) (marking : ℕ) (h : Hosted) : Type 0 where
  pub handed : Handed (length cut) (byte_count cut) marking h
  pub summed : Summed sign cut (words_part deck) (deck_start deck requests marking) (handed_back marking h)

-- one deck with the words of both: an attempt for each step of both, 2k microcycles, and the 26 registers as they were
pub record HostBackInOneRun (there back : Cut) (deck requests : List ℕ) (marking : ℕ) (h : Hosted) : Type 0 where
  pub handed : Handed (length there + length back) (2 * byte_count there) marking h
  pub registers : take 26 h.state ≡ take 26 (state_part deck)
  pub run : BackInOneRun there back (words_part deck) (deck_start deck requests marking) (handed_back marking h)

-- a deck with the words of the difference, after one with those of the sum: the 26 registers as they were before the first. The
-- two may be of different markings
pub record HostBackInTwoRuns (there back : Cut) (first requests : List ℕ) (marking : ℕ) (deck requests' : List ℕ) (marking' : ℕ) (h : Hosted) : Type 0 where
  pub handed : Handed (length back) (byte_count there) marking' h
  pub registers : take 26 h.state ≡ take 26 (state_part first)
  pub run : BackInTwoRuns there back (words_part deck) (deck_start first requests marking) (deck_start deck requests' marking') (handed_back marking' h)
