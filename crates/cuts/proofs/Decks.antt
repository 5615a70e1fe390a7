-- The two decks of a cut are decks: their sections are those of the cut, and they are not refused by 9, 24 or 1-4. Assumes nothing.
use Prim.Native.Nat.{ℕ, ◌+◌, ◌*◌, ◌/◌, ◌-◌, ◌<◌, ◌≤◌}
use mathlib.Core.Path.{◌≡◌, refl, ap, ◌∙◌}
use mathlib.Core.Bool.{true}
use mathlib.Core.List.{List, ◌++◌}
use native.Mathlib.Omega.{arith}
use lib.ListN.{length, take, drop, length-drop}
use lib.Seq.{get_or-take, get_or-drop, length-take-le}
use Rattle.deck.proofs.Laws.{accepted, not-refused, section-bytes, samples-few, sample-in-range, tested as deck-tested}
use Rattle.deck.proofs.Slip.{samples-tested, sections-of, sections-length, whole_is, parts_are}
use Rattle.deck.specs.Elements.{lines_at, interrupts_at}
use Rattle.deck.specs.Ranges.{samples_in_range, deck_refusal_of}
use Rattle.deck.specs.Sections.{layout_of, whole_of, words_part, rows_part, samples_part}
use Rattle.deck.specs.Slip.{counted, Sections}
use Rattle.numbers.proofs.Laws.{append-bytes}
use Rattle.numbers.specs.Numbers.{byte_at, Bytes}
use Rattle.state_bytes.proofs.Laws.{tested}
use Rattle.state_bytes.specs.Bytes.{state_bytes}
use Rattle.state_bytes.specs.Range.{state_in_range}
use Rattle.cuts.specs.Decks.{deck_of, IsDeck}

-- ---- samples in range, cut
module _ (s : List ℕ) (h : samples_in_range s ≡ true) (n : ℕ) (l : n * 4 ≤ length s) where
  pub first-in-range : samples_in_range (take (n * 4) s) ≡ true
  first-in-range =
      let size = length-take-le (n * 4) s l in
      samples-tested (take (n * 4) s) (omega (arith, samples-few s h))
      (λ i m.
      let r = sample-in-range s h i (omega arith) in
      let lines : lines_at (take (n * 4) s) i ≡ lines_at s i = get_or-take (n * 4) s (i * 4 + 2) 0 (omega arith) in
      let interrupts : interrupts_at (take (n * 4) s) i ≡ interrupts_at s i = get_or-take (n * 4) s (i * 4 + 3) 0 (omega arith) in
      (omega arith, omega arith))

  pub rest-in-range : samples_in_range (drop (n * 4) s) ≡ true
  rest-in-range =
      let size : length (drop (n * 4) s) ≡ length s - n * 4 = length-drop (n * 4) s in
      samples-tested (drop (n * 4) s) (omega (arith, samples-few s h))
      (λ i m.
      let r = sample-in-range s h (n + i) (omega arith) in
      let lines : lines_at (drop (n * 4) s) i ≡ lines_at s (n + i) = get_or-drop (n * 4) s (i * 4 + 2) 0 ∙ ap (byte_at s) (omega arith) in
      let interrupts : interrupts_at (drop (n * 4) s) i ≡ interrupts_at s (n + i) = get_or-drop (n * 4) s (i * 4 + 3) 0 ∙ ap (byte_at s) (omega arith) in
      (omega arith, omega arith))

-- ---- a deck of an accepted deck's words and rows
-- what its sections measure
pub record Measured (deck : List ℕ) : Type 0 where
  pub words : ℕ
  pub rows : ℕ
  pub samples : ℕ
  pub words_size : length (words_part deck) ≡ 4 * words
  pub rows-size : length (rows_part deck) ≡ 16 * rows
  pub samples-size : length (samples_part deck) ≡ 4 * samples
  pub few : 8 + 4 * words + 16 * rows + state_bytes + 4 * samples ≤ 65536

pub measured : (deck : List ℕ) → Bytes deck → whole_of deck ≡ true → Measured deck
measured deck b whole =
    let c = sections-of deck b whole in
    let few = (deck-tested deck whole).0 in
    let p = parts_are deck c few in
    record {
      words = c.words;
      rows = c.rows;
      samples = c.samples;
      words_size = ap length p.0 ∙ c.words_size;
      rows-size = ap length p.1 ∙ c.rows-size;
      samples-size = ap length p.3 ∙ c.samples-size;
      few = omega (arith, sections-length state_bytes deck c);
    }

-- a section and what comes after it
section-then : (n : ℕ) (part rest : List ℕ) → n < 65536 → Bytes part → Bytes rest → Bytes (counted n part ++ rest)
section-then n part rest l b r = (omega arith, (omega arith, append-bytes part rest b r))

-- a state and samples in the place of the deck's own
pub record Instead (deck state samples : List ℕ) (places : ℕ) : Type 0 where
  pub state-bytes : Bytes state
  pub state-good : state_in_range state ≡ true
  pub samples-bytes : Bytes samples
  pub samples-good : samples_in_range samples ≡ true
  pub samples-size : length samples ≡ 4 * (length samples / 4)
  pub no_more : length samples ≤ length (samples_part deck)
  pub enough : length samples / 4 ≤ places / 4

module _ (deck : List ℕ) (b : Bytes deck) (requests buffer marking : ℕ) (h : deck_refusal_of deck requests buffer marking ≡ 0)
    (state samples : List ℕ) (places : ℕ) (new : Instead deck state samples places) where
  abbrev part : List ℕ
  part = deck_of (words_part deck) (rows_part deck) state samples

  own : Measured deck
  own = measured deck b (accepted deck requests buffer marking h).whole

  sections : Sections state_bytes part
  sections =
      record {
        words = length (words_part deck) / 4;
        rows = length (rows_part deck) / 16;
        samples = length samples / 4;
        words-part = words_part deck;
        rows-part = rows_part deck;
        state-part = state;
        samples-part = samples;
        order = refl;
        words_size = omega (arith, own.words_size);
        rows-size = omega (arith, own.rows-size);
        state-size = (tested state new.state-good).0;
        samples-size = new.samples-size;
      }

  short : length part ≤ 65536
  unfolding sections
  short = omega (arith, sections-length state_bytes part sections, own.words_size, own.rows-size, own.samples-size, own.few, new.no_more)

  all-bytes : Bytes part
  all-bytes =
      section-then (length (words_part deck) / 4) (words_part deck) _ (omega (arith, own.words_size, own.few)) (section-bytes deck 0 4 b)
      (section-then (length (rows_part deck) / 16) (rows_part deck) _ (omega (arith, own.rows-size, own.few)) (section-bytes deck (layout_of deck).rows 16 b)
      (section-then 1 state _ (omega arith) new.state-bytes
      (omega arith, (omega (arith, own.samples-size, own.few, new.no_more), new.samples-bytes))))

  pub is-deck : IsDeck part (words_part deck) (rows_part deck) state samples places buffer marking
  unfolding sections
  is-deck =
      let a = accepted deck requests buffer marking h in
      let p = parts_are part sections short in
      record {
        bytes = all-bytes;
        sections = sections;
        words_same = p.0;
        rows_same = p.1;
        state-same = p.2;
        samples-same = p.3;
        not-refused =
            not-refused part places buffer marking
            (record {
              whole = whole_is part sections short;
              buffer-length = a.buffer-length;
              known = a.known;
              state = rw p.2 new.state-good;
              words = rw p.0 a.words;
              rows = rw p.1 a.rows;
              samples = rw p.3 new.samples-good;
              places = rw p.3 new.enough;
            });
      }
