-- "Numbers on the refusal slip", those before the first attempt: what each is given for, in 01's words, and their order.
use Rattle.std.specs.Prelude.{ℕ, ◌*◌, ◌/◌, ◌%◌, ◌^◌, ◌<◌, ◌≤◌, ◌≡◌, List, [], ◌∷◌, ◌++◌, ◌⊎◌, length}
use Rattle.numbers.specs.Laid.{LaidWithin}
use Rattle.numbers.specs.Numbers.{word_at}
use Rattle.rows.specs.Matching.{RowInRange}
use Rattle.rows.specs.Section.{row_from}
use Rattle.state_bytes.specs.Bytes.{state_bytes}
use Rattle.state_bytes.specs.Order.{StateInRange}
use Rattle.deck.specs.Sections.{words_part, rows_part, state_part, samples_part}

-- a section "after its count (two bytes, low first ..)"
abbrev pub counted : ℕ → List ℕ → List ℕ
counted n part = n % 256 ∷ n / 256 ∷ part

-- "A deck holds the first four in this order": words of 4 bytes, rows of 16, one state of so many bytes, samples of 4, and nothing else
pub record Sections (bytes : ℕ) (s : List ℕ) : Type 0 where
  pub words : ℕ
  pub rows : ℕ
  pub samples : ℕ
  pub words-part : List ℕ
  pub rows-part : List ℕ
  pub state-part : List ℕ
  pub samples-part : List ℕ
  pub order : s ≡ counted words words-part ++ (counted rows rows-part ++ (counted 1 state-part ++ counted samples samples-part))
  pub words_size : length words-part ≡ 4 * words
  pub rows-size : length rows-part ≡ 16 * rows
  pub state-size : length state-part ≡ bytes * 1
  pub samples-size : length samples-part ≡ 4 * samples

-- 9 is given for what is not this: "deck over 65,536 bytes, state count not 1, length other than its counts say", or the host's state
-- buffer of another length than a state's
pub record Whole (s : List ℕ) (buffer : ℕ) : Type 0 where
  pub size : length s ≤ 65536
  pub sections : Sections state_bytes s
  pub buffer-size : buffer ≡ state_bytes

-- 02, L1: "old 41-byte decks and host state buffers", of which every one gets 9
abbrev pub Old : List ℕ → ℕ → Type 0
Old s buffer = Sections 41 s ⊎ (buffer ≡ 41)

-- 02, L14: 24 is given for an "unknown marking": 1661 and 1621 are printed on the chips
abbrev pub Printed : ℕ → Type 0
Printed marking = (marking ≡ 1661) ⊎ (marking ≡ 1621)

-- 2 is given for "over 2,048 words, or a word of 2^22 or more"
pub record WordsAllowed (s : List ℕ) : Type 0 where
  pub few : length s / 4 ≤ 2048
  pub each : (i : ℕ) → i < length s / 4 → word_at s i < 2 ^ 22

-- 3 is given for "over 128 rows, or a row out of range"
pub record RowsAllowed (s : List ℕ) : Type 0 where
  pub few : length s / 16 ≤ 128
  pub each : (i : ℕ) → i < length s / 16 → RowInRange (row_from s (i * 16))

-- 4 is given for "over 65,535 samples, a sample out of range, or the request buffer shorter than the samples": DAL data has 16 bits, lines 5, I0-I3 4
pub record SamplesAllowed (s : List ℕ) (requests : ℕ) : Type 0 where
  pub few : length s / 4 ≤ 65535
  pub each : (i : ℕ) → i < length s / 4 → LaidWithin s (i * 4) ((2, 0xFFFF) ∷ (1, 0x1F) ∷ (1, 0xF) ∷ [])
  pub places : length s / 4 ≤ requests / 4

-- "Order: 9, then 1, 2, 3, 4", with 24 "right after 9": each number with what it is not given for
abbrev pub slip : List ℕ → ℕ → ℕ → ℕ → List (ℕ × Type 0)
slip s requests buffer marking =
    (9, Whole s buffer)
    ∷ (24, Printed marking)
    ∷ (1, StateInRange (state_part s))
    ∷ (2, WordsAllowed (words_part s))
    ∷ (3, RowsAllowed (rows_part s))
    ∷ (4, SamplesAllowed (samples_part s) requests)
    ∷ []

-- n is the number of the first test that fails, or 0 where none does
abbrev pub FirstFailing : List (ℕ × Type 0) → ℕ → Type 0
FirstFailing [] n = n ≡ 0
FirstFailing (t ∷ ts) n = ((t.1 → ⊥) × (n ≡ t.0)) ⊎ (t.1 × FirstFailing ts n)

-- the numbers that are given before the first attempt
abbrev pub BeforeAttempts : ℕ → Type 0
BeforeAttempts n = (n ≡ 9) ⊎ (n ≡ 24) ⊎ ((1 ≤ n) × (n ≤ 4))
