-- What the tests say of a whole deck, of one that is not refused, and of sections in range. Assumes nothing.
use mathlib.Core.Path.{◌≡◌, refl, sym, ap, ◌∙◌}
use mathlib.Core.Bool.{Bool, true, false, ◌&&◌, and-eq-true_iff}
use mathlib.Core.List.{List, [], ◌++◌, append-nil}
use Prim.Native.Nat.{ℕ, ◌+◌, ◌*◌, ◌/◌, ◌<◌, ◌≤◌}
use native.Mathlib.Omega.{arith}
use borrow.Author.Tests.{leb-true, ltb-true, eqb-true, le-leb, eq-eqb}
use lib.Dec.{eqb, leb, ltb}
use lib.ListN.{length, take, drop, length-take, length-drop, take-append-drop, drop_of_length-le}
use lib.Seq.{drop-drop}
use Rattle.choose.proofs.Choice.{pick_all}
use Rattle.choose.proofs.Tests.{three}
use Rattle.choose.proofs.Table.{all-at}
use Rattle.numbers.specs.Numbers.{byte_at, word_at, Bytes}
use Rattle.choose.specs.Below.{all_below}
use Rattle.numbers.proofs.Laws.{take-bytes, drop-bytes}
use Rattle.rows.specs.Section.{rows_of}
use Rattle.rows.specs.Range.{rows_in_range}
use Rattle.state.specs.Marking.{is_marking}
use Rattle.state_bytes.specs.Bytes.{state_bytes}
use Rattle.state_bytes.specs.Range.{state_in_range}
use Rattle.deck.specs.Sections.{count_at, section_end, layout_of, whole_of, section_of, words_part, rows_part, state_part, samples_part}
use Rattle.deck.specs.Elements.{lines_at, interrupts_at, sample_of, sample_at}
use Rattle.deck.specs.Ranges.{words_in_range, rows_part_in_range, samples_in_range, places_enough, unless, deck_refusal_of, Accepted}

-- what is tested of a whole deck
pub tested : (s : List ℕ) → whole_of s ≡ true → (length s ≤ 65536) × (count_at s (layout_of s).state ≡ 1) × ((layout_of s).end ≡ length s)
unfolding whole_of
tested s h =
    let p = three (leb (length s) 65536) (eqb (count_at s (layout_of s).state) 1) (eqb (layout_of s).end (length s)) h in
    (leb-true _ _ p.0, eqb-true _ _ p.1, eqb-true _ _ p.2)

-- a section ends after its count
pub section-end-ge : (s : List ℕ) (a size : ℕ) → a + 2 ≤ section_end s a size
unfolding section_end
section-end-ge s a size = omega arith

-- each section of a whole deck ends within it
pub fits : (s : List ℕ) → whole_of s ≡ true
    → (section_end s 0 4 ≤ length s)
    × (section_end s (layout_of s).rows 16 ≤ length s)
    × (section_end s (layout_of s).state state_bytes ≤ length s)
    × (section_end s (layout_of s).samples 4 ≤ length s)
unfolding layout_of
fits s h =
    let end = (tested s h).2 in
    let state = section-end-ge s (layout_of s).rows 16 in
    let samples = section-end-ge s (layout_of s).state state_bytes in
    let past = section-end-ge s (layout_of s).samples 4 in
    omega arith

-- ---- the parts of a whole deck
-- a section has as many elements as its count says
pub part_length : (s : List ℕ) (a size : ℕ) → whole_of s ≡ true → section_end s a size ≤ length s → length (section_of s a size) ≡ size * count_at s a
unfolding section_of section_end
part_length s a size h l = rw h (simp (length-take, length-drop) (omega arith))

-- from byte a on a deck has a count, a section and what comes after it
cut : (s : List ℕ) (a size : ℕ) → whole_of s ≡ true → drop a s ≡ take 2 (drop a s) ++ (section_of s a size ++ drop (section_end s a size) s)
unfolding section_of section_end
cut s a size h =
    let n = size * count_at s a in
    sym (rw (h, ← drop-drop n (a + 2) s, take-append-drop n (drop (a + 2) s), ← drop-drop 2 a s) (take-append-drop 2 (drop a s)))

-- the deck is its counts and its sections, in their order, and nothing else
pub whole-deck : (s : List ℕ) → whole_of s ≡ true
    → let count : ℕ → List ℕ = λ a. take 2 (drop a s) in
    s ≡ take 2 s ++ (words_part s
    ++ (count (layout_of s).rows ++ (rows_part s
    ++ (count (layout_of s).state ++ (state_part s
    ++ (count (layout_of s).samples ++ samples_part s))))))
unfolding layout_of
whole-deck s h =
    let l = layout_of s in
    let none : drop l.end s ≡ [] = drop_of_length-le s {i = l.end} (omega (arith, (tested s h).2)) in
    let count = take 2 (drop l.samples s) in
    let past = ap (λ (r : List ℕ). count ++ (samples_part s ++ r)) none ∙ ap (λ (r : List ℕ). count ++ r) (append-nil (samples_part s)) in
    cut s 0 4 h
    ∙ ap (λ (r : List ℕ). take 2 s ++ (words_part s ++ r)) (cut s l.rows 16 h
    ∙ ap (λ (r : List ℕ). take 2 (drop l.rows s) ++ (rows_part s ++ r)) (cut s l.state state_bytes h
    ∙ ap (λ (r : List ℕ). take 2 (drop l.state s) ++ (state_part s ++ r)) (cut s l.samples 4 h ∙ past)))

pub section-bytes : (s : List ℕ) (a size : ℕ) → Bytes s → Bytes (section_of s a size)
unfolding section_of
section-bytes s a size b =
    pick_all Bytes (whole_of s) _ [] (take-bytes (size * count_at s a) (drop (a + 2) s) (drop-bytes (a + 2) s b)) tt

-- ---- what is not refused
-- a test that does not refuse
passed : (t : Bool) (number rest : ℕ) → 0 < number → unless t number rest ≡ 0 → (t ≡ true) × (rest ≡ 0)
passed true number rest l h = (refl, h)
passed false number rest l h = absurd (omega arith)

pub accepted : (s : List ℕ) (requests buffer marking : ℕ) → deck_refusal_of s requests buffer marking ≡ 0 → Accepted s requests buffer marking
unfolding deck_refusal_of
accepted s requests buffer marking h =
    let nine = passed (whole_of s && eqb buffer state_bytes) 9 _ (omega arith) h in
    let known = passed (is_marking marking) 24 _ (omega arith) nine.1 in
    let one = passed (state_in_range (state_part s)) 1 _ (omega arith) known.1 in
    let two = passed (words_in_range (words_part s)) 2 _ (omega arith) one.1 in
    let three = passed (rows_part_in_range (rows_part s)) 3 _ (omega arith) two.1 in
    let four = passed (samples_in_range (samples_part s) && places_enough (samples_part s) requests) 4 0 (omega arith) three.1 in
    let both = (and-eq-true_iff (whole_of s) (eqb buffer state_bytes)).0 nine.0 in
    let enough = (and-eq-true_iff (samples_in_range (samples_part s)) (places_enough (samples_part s) requests)).0 four.0 in
    record {
      whole = both.0;
      buffer-length = eqb-true _ _ both.1;
      known = known.0;
      state = one.0;
      words = two.0;
      rows = three.0;
      samples = enough.0;
      places = leb-true _ _ enough.1;
    }

pub not-refused : (s : List ℕ) (requests buffer marking : ℕ) → Accepted s requests buffer marking → deck_refusal_of s requests buffer marking ≡ 0
unfolding deck_refusal_of
not-refused s requests buffer marking a =
    rw (a.whole, eq-eqb buffer state_bytes a.buffer-length, a.known, a.state, a.words, a.rows, a.samples, le-leb _ _ a.places)

not-one : (t : Bool) (n rest : ℕ) → (n ≡ 1 → ⊥) → (rest ≡ 1 → ⊥) → unless t n rest ≡ 1 → ⊥
not-one true n rest a b e = b e
not-one false n rest a b e = a e

-- a state in range is not refused with 1, whatever stands beside it
pub state-accepted : (s : List ℕ) (requests buffer marking : ℕ) → state_in_range (state_part s) ≡ true → deck_refusal_of s requests buffer marking ≡ 1 → ⊥
unfolding deck_refusal_of
state-accepted s requests buffer marking h =
    rw h
    (not-one (whole_of s && eqb buffer state_bytes) 9 _ (λ e. omega arith)
    (not-one (is_marking marking) 24 _ (λ e. omega arith)
    (not-one (words_in_range (words_part s)) 2 _ (λ e. omega arith)
    (not-one (rows_part_in_range (rows_part s)) 3 _ (λ e. omega arith)
    (not-one (samples_in_range (samples_part s) && places_enough (samples_part s) requests) 4 0 (λ e. omega arith) (λ e. omega arith))))))

-- ---- what sections in range hold
pub word_below : (s : List ℕ) → words_in_range s ≡ true → (i : ℕ) → i < length s / 4 → word_at s i < 4194304
unfolding words_in_range
word_below s h i l =
    let p = (and-eq-true_iff (leb (length s / 4) 2048) (all_below (length s / 4) (λ j. ltb (word_at s j) 4194304))).0 h in
    ltb-true _ _ (all-at (λ j. ltb (word_at s j) 4194304) (length s / 4) i p.1 l)

pub samples-few : (s : List ℕ) → samples_in_range s ≡ true → length s / 4 ≤ 65535
unfolding samples_in_range
samples-few s h = leb-true _ _ ((and-eq-true_iff (leb (length s / 4) 65535) _).0 h).0

pub sample-in-range : (s : List ℕ) → samples_in_range s ≡ true → (i : ℕ) → i < length s / 4 → (lines_at s i ≤ 31) × (interrupts_at s i ≤ 15)
unfolding samples_in_range
sample-in-range s h i l =
    let test : ℕ → Bool = λ j. leb (lines_at s j) 31 && leb (interrupts_at s j) 15 in
    let p = (and-eq-true_iff (leb (length s / 4) 65535) (all_below (length s / 4) test)).0 h in
    let q = (and-eq-true_iff (leb (lines_at s i) 31) (leb (interrupts_at s i) 15)).0 (all-at test (length s / 4) i p.1 l) in
    (leb-true _ _ q.0, leb-true _ _ q.1)

-- a sample's four bytes
pub sample-of : (s : List ℕ) (i : ℕ) → sample_of (byte_at s (i * 4)) (byte_at s (i * 4 + 1)) (lines_at s i) (interrupts_at s i) ≡ sample_at s i
unfolding sample_at
sample-of s i = refl

-- the rows that `rows::load` makes a table of
pub rows-in-range : (s : List ℕ) → rows_part_in_range s ≡ true → (length s / 16 ≤ 128) × (rows_in_range (rows_of s (length s / 16)) ≡ true)
unfolding rows_part_in_range
rows-in-range s h =
    let p = (and-eq-true_iff (leb (length s / 16) 128) (rows_in_range (rows_of s (length s / 16)))).0 h in
    (leb-true _ _ p.0, p.1)
