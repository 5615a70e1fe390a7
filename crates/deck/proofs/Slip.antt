-- Which number is given before the first attempt, exactly: the first of 01's order whose test fails. Assumes nothing.
use mathlib.Core.Path.{◌≡◌, refl, sym, ap, subst, ◌∙◌}
use mathlib.Core.Bool.{Bool, true, false, ◌&&◌, ◌||◌, false≢true, and-eq-true_iff}
use mathlib.Core.List.{List, [], ◌∷◌, ◌++◌, append-nil, append_assoc}
use mathlib.Core.Logic.{◌↔◌, inl, inr, ⊎_elim}
use Prim.Native.Nat.{ℕ, zero, suc, ◌+◌, ◌*◌, ◌/◌, ◌%◌, ◌<◌, ◌≤◌}
use native.Mathlib.Numerals.{add-one}
use native.Mathlib.Omega.{arith}
use borrow.Author.Tests.{leb-true, le-leb, eqb-true, eq-eqb, lt-ltb}
use lib.Dec.{eqb, leb, ltb}
use lib.ListN.{length, take, drop, length-append}
use lib.Seq.{drop-cons, drop-append-add, take_at, get_or-append-add}
use Rattle.choose.specs.Below.{all_below}
use Rattle.choose.proofs.Table.{all-at}
use Rattle.choose.proofs.Tests.{both_true}
use Rattle.numbers.specs.Numbers.{byte_at, word_at, Bytes}
use Rattle.numbers.proofs.Laws.{byte-below, pair-low, pair-high}
use Rattle.rows.specs.Range.{row_in_range}
use Rattle.rows.specs.Section.{row_from}
use Rattle.rows.proofs.Matching.{row-in-range}
use Rattle.state.specs.Marking.{is_marking}
use Rattle.state_bytes.specs.Bytes.{state_bytes}
use Rattle.state_bytes.specs.Order.{StateInRange}
use Rattle.state_bytes.specs.Range.{state_in_range}
use Rattle.state_bytes.proofs.Order.{state-range-exactly}
use Rattle.deck.specs.Elements.{lines_at, interrupts_at}
use Rattle.deck.specs.Ranges.{words_in_range, rows_part_in_range, samples_in_range, places_enough, unless, deck_refusal_of}
use Rattle.deck.specs.Sections.{count_at, section_end, layout_of, whole_of, section_of, words_part, rows_part, state_part, samples_part}
use Rattle.deck.specs.Slip.{counted, Sections, Whole, Old, Printed, WordsAllowed, RowsAllowed, SamplesAllowed, slip, FirstFailing}
use Rattle.deck.proofs.Every.{rows-every}
use Rattle.deck.proofs.Laws.{tested, fits, section-end-ge, part_length, whole-deck, section-bytes, word_below, samples-few, sample-in-range}
use Rattle.deck.proofs.Laws.{rows-in-range}

-- ---- the first test that fails
-- t decides P
abbrev Decides : Bool → Type 0 → Type 0
Decides t P = (t ≡ true) ↔ P

first : (t : Bool) (P : Type 0) → Decides t P → (n rest : ℕ) (ts : List (ℕ × Type 0)) → FirstFailing ts rest → FirstFailing ((n, P) ∷ ts) (unless t n rest)
first true P d n rest ts f = inr (d.0 refl, f)
first false P d n rest ts f = inl ((λ p. false≢true (d.1 p)), refl)

-- there is one such number
pub one_number : (ts : List (ℕ × Type 0)) (n m : ℕ) → FirstFailing ts n → FirstFailing ts m → n ≡ m
one_number [] n m f g = f ∙ sym g
one_number (t ∷ ts) n m f g =
    ⊎_elim (λ a. ⊎_elim (λ b. a.1 ∙ sym b.1) (λ b. absurd (a.0 b.0)) g)
    (λ a. ⊎_elim (λ b. absurd (b.0 a.0)) (λ b. one_number ts n m a.1 b.1) g) f

-- ---- from a test at each number to the test of all
all-each : (test : ℕ → Bool) (n : ℕ) → ((i : ℕ) → i < n → test i ≡ true) → all_below n test ≡ true
all-each test zero f = refl
all-each test (suc n) f = rw (f n (omega arith), all-each test n (λ i l. f i (omega arith)))

words-exactly : (s : List ℕ) → Decides (words_in_range s) (WordsAllowed s)
unfolding words_in_range
words-exactly s = (
  (λ h. record { few = leb-true _ _ ((and-eq-true_iff (leb (length s / 4) 2048) _).0 h).0; each = word_below s h }),
  (λ a. rw (le-leb _ _ a.few, all-each (λ i. ltb (word_at s i) 4194304) _ (λ i l. lt-ltb _ _ (a.each i l)))),
)

rows-exactly : (s : List ℕ) → Decides (rows_part_in_range s) (RowsAllowed s)
unfolding rows_part_in_range
rows-exactly s = (
  (λ h.
      let r = rows-in-range s h in
      record {
        few = r.0;
        each = λ i l. (row-in-range (row_from s (i * 16))).0
            (all-at (λ j. row_in_range (row_from s (j * 16))) _ i (sym (rows-every s (length s / 16)) ∙ r.1) l);
      }),
  (λ a.
      rw (
        le-leb _ _ a.few,
        rows-every s (length s / 16),
        all-each (λ j. row_in_range (row_from s (j * 16))) _ (λ i l. (row-in-range (row_from s (i * 16))).1 (a.each i l)),
      )),
)

-- few samples, each in range
pub samples-tested : (s : List ℕ) → length s / 4 ≤ 65535 → ((i : ℕ) → i < length s / 4 → (lines_at s i ≤ 31) × (interrupts_at s i ≤ 15))
    → samples_in_range s ≡ true
unfolding samples_in_range
samples-tested s few each =
    rw (
      le-leb _ _ few,
      all-each (λ i. leb (lines_at s i) 31 && leb (interrupts_at s i) 15) _
          (λ i l. let e = each i l in rw (le-leb (lines_at s i) 31 e.0, le-leb (interrupts_at s i) 15 e.1)),
    )

samples-exactly : (s : List ℕ) → Bytes s → (requests : ℕ) → Decides (samples_in_range s && places_enough s requests) (SamplesAllowed s requests)
samples-exactly s b requests = (
  (λ h.
      let p = (and-eq-true_iff (samples_in_range s) (places_enough s requests)).0 h in
      record {
        few = samples-few s p.0;
        each = λ i l.
            let q = sample-in-range s p.0 i l in
            let low = byte-below s b (i * 4 + 0) in
            let high = byte-below s b (i * 4 + 0 + 1) in
            omega arith;
        places = leb-true _ _ p.1;
      }),
  (λ a. rw (samples-tested s a.few (λ i l. let e = a.each i l in (omega arith, omega arith)), le-leb _ _ a.places)),
)

-- ---- a whole deck is its four sections
-- the two bytes of a count
count-bytes : (s : List ℕ) → Bytes s → (a : ℕ) → a + 2 ≤ length s → take 2 (drop a s) ≡ count_at s a % 256 ∷ count_at s a / 256 ∷ []
count-bytes s b a l = rw (pair-low s b a, pair-high s b a, add-one a, drop-cons s a 0 (omega arith), drop-cons s (suc a) 0 (omega arith))

module _ (s : List ℕ) (b : Bytes s) (h : whole_of s ≡ true) where
  -- each section starts with a count
  counts-fit : (2 ≤ length s) × ((layout_of s).rows + 2 ≤ length s) × ((layout_of s).state + 2 ≤ length s) × ((layout_of s).samples + 2 ≤ length s)
  counts-fit =
      let f = fits s h in
      let words = section-end-ge s 0 4 in
      let rows = section-end-ge s (layout_of s).rows 16 in
      let state = section-end-ge s (layout_of s).state state_bytes in
      let samples = section-end-ge s (layout_of s).samples 4 in
      omega arith

  pub sections-of : Sections state_bytes s
  sections-of =
      let l = layout_of s in
      let f = fits s h in
      let n = counts-fit in
      let one : count_at s l.state ≡ 1 = (tested s h).1 in
      let words : take 2 s ≡ count_at s 0 % 256 ∷ count_at s 0 / 256 ∷ [] = count-bytes s b 0 (omega arith) in
      let rows = count-bytes s b l.rows n.1 in
      let state : take 2 (drop l.state s) ≡ 1 ∷ 0 ∷ [] = count-bytes s b l.state n.2 ∙ ap (λ (c : ℕ). c % 256 ∷ c / 256 ∷ []) one in
      let samples = count-bytes s b l.samples n.3 in
      record {
        words = count_at s 0;
        rows = count_at s l.rows;
        samples = count_at s l.samples;
        words-part = words_part s;
        rows-part = rows_part s;
        state-part = state_part s;
        samples-part = samples_part s;
        order = rw (words, rows, state, samples) at (whole-deck s h);
        words_size = part_length s 0 4 h f.0;
        rows-size = part_length s l.rows 16 h f.1;
        state-size = part_length s l.state state_bytes h f.2 ∙ ap (λ (c : ℕ). state_bytes * c) one;
        samples-size = part_length s l.samples 4 h f.3;
      }

-- s has a section of n elements after the bytes before
module _ (s before part rest : List ℕ) (size n : ℕ) (e : s ≡ before ++ (counted n part ++ rest)) (m : length part ≡ size * n) where
  count-is : count_at s (length before) ≡ n
  count-is =
      let l = counted n part ++ rest in
      let start : length before ≡ length before + 0 = omega arith in
      let low : byte_at (before ++ l) (length before) ≡ n % 256 = ap (byte_at (before ++ l)) start ∙ get_or-append-add before l 0 0 in
      let high : byte_at (before ++ l) (length before + 1) ≡ n / 256 = get_or-append-add before l 1 0 in
      rw e (omega arith)

  -- and what comes after it
  part-is : whole_of s ≡ true → section_of s (length before) size ≡ part
  unfolding section_of
  part-is h =
      rw (h, count-is)
      (ap (λ (l : List ℕ). take (size * n) (drop (length before + 2) l)) e
      ∙ ap (take (size * n)) (drop-append-add before (counted n part ++ rest) 2)
      ∙ take_at part rest (size * n) m)

  next : s ≡ (before ++ counted n part) ++ rest
  next = e ∙ sym (append_assoc before (counted n part) rest)

  end_is : section_end s (length before) size ≡ length (before ++ counted n part)
  unfolding section_end
  end_is = rw count-is (simp length-append (omega arith))

module _ (s : List ℕ) (c : Sections state_bytes s) where
  -- the deck up to the end of each section
  abbrev words : List ℕ
  words = counted c.words c.words-part

  abbrev rows : List ℕ
  rows = words ++ counted c.rows c.rows-part

  abbrev state : List ℕ
  state = rows ++ counted 1 c.state-part

  abbrev samples : List ℕ
  samples = counted c.samples c.samples-part

  after-rows : s ≡ rows ++ (counted 1 c.state-part ++ samples)
  after-rows = next s words c.rows-part _ 16 c.rows c.order c.rows-size

  all : s ≡ state ++ samples
  all = next s rows c.state-part samples state_bytes 1 after-rows c.state-size

  rows_at : (layout_of s).rows ≡ length words
  unfolding layout_of
  rows_at = end_is s [] c.words-part _ 4 c.words c.order c.words_size

  state-at : (layout_of s).state ≡ length rows
  unfolding layout_of
  state-at = ap (λ (a : ℕ). section_end s a 16) rows_at ∙ end_is s words c.rows-part _ 16 c.rows c.order c.rows-size

  samples-at : (layout_of s).samples ≡ length state
  unfolding layout_of
  samples-at = ap (λ (a : ℕ). section_end s a state_bytes) state-at ∙ end_is s rows c.state-part samples state_bytes 1 after-rows c.state-size

  last : s ≡ state ++ (samples ++ [])
  last = all ∙ ap (λ (l : List ℕ). state ++ l) (sym (append-nil samples))

  end-at : (layout_of s).end ≡ length s
  unfolding layout_of
  end-at =
      ap (λ (a : ℕ). section_end s a 4) samples-at ∙ end_is s state c.samples-part [] 4 c.samples last c.samples-size ∙ ap length (sym all)

  one_state : count_at s (layout_of s).state ≡ 1
  one_state = ap (count_at s) state-at ∙ count-is s rows c.state-part samples state_bytes 1 after-rows c.state-size

  pub whole_is : length s ≤ 65536 → whole_of s ≡ true
  unfolding whole_of
  whole_is l = rw (le-leb _ _ l, eq-eqb _ 1 one_state, eq-eqb _ _ end-at)

  -- and these are its parts
  pub parts_are : length s ≤ 65536
      → (words_part s ≡ c.words-part) × (rows_part s ≡ c.rows-part) × (state_part s ≡ c.state-part) × (samples_part s ≡ c.samples-part)
  parts_are l =
      let h = whole_is l in (
        part-is s [] c.words-part _ 4 c.words c.order c.words_size h,
        ap (λ (a : ℕ). section_of s a 16) rows_at ∙ part-is s words c.rows-part _ 16 c.rows c.order c.rows-size h,
        ap (λ (a : ℕ). section_of s a state_bytes) state-at ∙ part-is s rows c.state-part samples state_bytes 1 after-rows c.state-size h,
        ap (λ (a : ℕ). section_of s a 4) samples-at ∙ part-is s state c.samples-part [] 4 c.samples last c.samples-size h,
      )

-- ---- the slip
pub sections-length : (bytes : ℕ) (s : List ℕ) (c : Sections bytes s) → length s ≡ 8 + 4 * c.words + 16 * c.rows + bytes + 4 * c.samples
sections-length bytes s c = ap length c.order ∙ simp length-append (omega arith)

-- the numbers that are printed
printed-exactly : (marking : ℕ) → Decides (is_marking marking) (Printed marking)
printed-exactly marking = (
  (λ h. one_of (eqb marking 1661) refl (eqb marking 1621) refl h),
  (λ p. ⊎_elim (λ e. rw e) (λ e. rw e) p),
)
  where
    one_of : (t : Bool) → eqb marking 1661 ≡ t → (u : Bool) → eqb marking 1621 ≡ u → t || u ≡ true → Printed marking
    one_of true p u q h = inl (eqb-true _ _ p)
    one_of false p u q h = inr (eqb-true _ _ (q ∙ h))

module _ (s : List ℕ) (b : Bytes s) (requests buffer marking : ℕ) where
  whole-exactly : Decides (whole_of s && eqb buffer state_bytes) (Whole s buffer)
  whole-exactly = (
    (λ h.
        let (whole, size) = both_true (whole_of s) (eqb buffer state_bytes) h in
        record { size = (tested s whole).0; sections = sections-of s b whole; buffer-size = eqb-true _ _ size }),
    (λ w. rw (whole_is s w.sections w.size, eq-eqb buffer state_bytes w.buffer-size)),
  )

  given : FirstFailing (slip s requests buffer marking) (deck_refusal_of s requests buffer marking)
  unfolding deck_refusal_of
  given =
      let state = section-bytes s (layout_of s).state state_bytes b in
      let samples = section-bytes s (layout_of s).samples 4 b in
      let attempts = samples_part s in
      let four = unless (samples_in_range attempts && places_enough attempts requests) 4 0 in
      let three = unless (rows_part_in_range (rows_part s)) 3 four in
      let two = unless (words_in_range (words_part s)) 2 three in
      let one = unless (state_in_range (state_part s)) 1 two in
      let known = unless (is_marking marking) 24 one in
      let tests = slip s requests buffer marking in
      first (whole_of s && eqb buffer state_bytes) (Whole s buffer) whole-exactly 9 known (drop 1 tests)
      (first (is_marking marking) (Printed marking) (printed-exactly marking) 24 one (drop 2 tests)
      (first (state_in_range (state_part s)) (StateInRange (state_part s)) (state-range-exactly (state_part s) state) 1 two (drop 3 tests)
      (first (words_in_range (words_part s)) (WordsAllowed (words_part s)) (words-exactly (words_part s)) 2 three (drop 4 tests)
      (first (rows_part_in_range (rows_part s)) (RowsAllowed (rows_part s)) (rows-exactly (rows_part s)) 3 four (drop 5 tests)
      (first _ (SamplesAllowed attempts requests) (samples-exactly attempts samples requests) 4 0 [] refl)))))

  -- "Given exactly when", "Order: 9, then 1, 2, 3, 4", and 24 "right after 9"
  pub refusal-exactly : (n : ℕ) → (deck_refusal_of s requests buffer marking ≡ n) ↔ FirstFailing (slip s requests buffer marking) n
  refusal-exactly n = (
    (λ e. subst (λ (m : ℕ). FirstFailing (slip s requests buffer marking) m) e given),
    (λ f. one_number (slip s requests buffer marking) _ n given f),
  )

  -- 02, L1: "old 41-byte decks and host state buffers get 9", whatever they hold: no deck is of both forms, since their lengths differ modulo 4
  pub old-refused : Old s buffer → deck_refusal_of s requests buffer marking ≡ 9
  old-refused old = (refusal-exactly 9).1 (inl (neither, refl))
    where
      neither : Whole s buffer → ⊥
      neither w =
          ⊎_elim (λ c. omega (arith, sections-length _ s c, sections-length _ s w.sections))
          (λ e. omega (arith, w.buffer-size)) old
