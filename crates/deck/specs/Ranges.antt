-- "Numbers on the refusal slip", those before the first attempt: 9, then 24 of 02, L14, then 1, 2, 3, 4.
use Rattle.std.specs.Prelude.{◌≡◌, Bool, true, ◌&&◌, List, ℕ, ◌/◌, ◌≤◌, eqb, leb, ltb, length}
use Rattle.choose.specs.Ranged.{pick}
use Rattle.numbers.specs.Numbers.{word_at}
use Rattle.choose.specs.Below.{all_below}
use Rattle.rows.specs.Section.{rows_of}
use Rattle.rows.specs.Range.{rows_in_range}
use Rattle.state.specs.Marking.{is_marking}
use Rattle.state_bytes.specs.Bytes.{state_bytes}
use Rattle.state_bytes.specs.Range.{state_in_range}
use Rattle.deck.specs.Sections.{whole_of, words_part, rows_part, state_part, samples_part}
use Rattle.deck.specs.Elements.{lines_at, interrupts_at}

-- 2: "over 2,048 words, or a word of 2^22 or more"
unfoldable pub words_in_range : List ℕ → Bool
words_in_range s = leb (length s / 4) 2048 && all_below (length s / 4) (λ i. ltb (word_at s i) 4194304)

-- 3: "over 128 rows, or a row out of range"
unfoldable pub rows_part_in_range : List ℕ → Bool
rows_part_in_range s = leb (length s / 16) 128 && rows_in_range (rows_of s (length s / 16))

-- 4: "over 65,535 samples, a sample out of range"
unfoldable pub samples_in_range : List ℕ → Bool
samples_in_range s = leb (length s / 4) 65535 && all_below (length s / 4) (λ i. leb (lines_at s i) 31 && leb (interrupts_at s i) 15)

-- 4: "or the request buffer shorter than the samples"; a place of the buffer is four bytes
abbrev pub places_enough : List ℕ → ℕ → Bool
places_enough s requests = leb (length s / 4) (requests / 4)

abbrev pub unless : Bool → ℕ → ℕ → ℕ
unless t number rest = pick t rest number

-- "Order: 9, then 1, 2, 3, 4"; 9 also for the host's state buffer of another length than a state's; 02, L14: "24 unknown marking, right after 9"
unfoldable pub deck_refusal_of : List ℕ → ℕ → ℕ → ℕ → ℕ
deck_refusal_of s requests buffer marking =
    unless (whole_of s && eqb buffer state_bytes) 9
    (unless (is_marking marking) 24
    (unless (state_in_range (state_part s)) 1
    (unless (words_in_range (words_part s)) 2
    (unless (rows_part_in_range (rows_part s)) 3
    (unless (samples_in_range (samples_part s) && places_enough (samples_part s) requests) 4
    0)))))

-- what holds of a deck, the lengths of the two buffers and the marking where there is no refusal
pub record Accepted (s : List ℕ) (requests buffer marking : ℕ) : Type 0 where
  pub whole : whole_of s ≡ true
  pub buffer-length : buffer ≡ state_bytes
  pub known : is_marking marking ≡ true
  pub state : state_in_range (state_part s) ≡ true
  pub words : words_in_range (words_part s) ≡ true
  pub rows : rows_part_in_range (rows_part s) ≡ true
  pub samples : samples_in_range (samples_part s) ≡ true
  pub places : length (samples_part s) / 4 ≤ requests / 4
