-- The parts of a text, where its first part and its first piece stand, what every piece of a line is, and a number read digit by digit.
-- Assumes nothing.
use Prim.Native.Nat.{ℕ, suc, ◌+◌, ◌*◌, ◌-◌, ◌≤◌, ◌<◌, zero-le}
use mathlib.Core.Path.{◌≡◌, ◌∙◌, refl, sym, ap}
use mathlib.Core.Bool.{Bool, true, false, ◌&&◌, ◌||◌, false≢true}
use mathlib.Core.List.{List, [], ◌∷◌, ◌++◌}
use native.Mathlib.Nat.{sub_self}
use native.Mathlib.Numerals.{add-one}
use native.Mathlib.Omega.{arith}
use lib.Dec.{eqb, eqb→eq, ltb}
use lib.ListN.{length, get_or, take, drop, length-drop, drop_of_length-le}
use lib.Seq.{drop-cons, drop-drop, drop-length, length-take-le}
use borrow.Author.Tests.{eq-eqb, ne_eqb, ltb-true, ltb-false, lt-ltb, le-ltb}
use Rattle.choose.specs.Ranged.{pick, ranged}
use Rattle.choose.proofs.Table.{below}
use Rattle.choose.proofs.Tests.{three}
use Rattle.pieces.specs.Parts.{ahead, parts_of, filled, pieces_of, piece_of}
use Rattle.pieces.specs.Read.{upper_of, digit_of, digits, value_from, value_of}
use Rattle.pieces.specs.Counted.{length_to, spaces_of, PieceAt}

-- by what a test gives
pub cases : {P : Type 0} (t : Bool) → (t ≡ true → P) → (t ≡ false → P) → P
cases true f g = f refl
cases false f g = g refl

pub neither : (a b : Bool) → a || b ≡ false → (a ≡ false) × (b ≡ false)
neither true b e = absurd (false≢true (sym e))
neither false b e = (refl, e)

-- ---- the bytes before a mark

-- none of these bytes is the mark
abbrev pub Lacks : ℕ → List ℕ → Type 0
Lacks mark [] = Unit {0}
Lacks mark (c ∷ p) = (eqb c mark ≡ false) × Lacks mark p

pub length-to-le : (mark : ℕ) (l : List ℕ) → length_to mark l ≤ length l
unfolding length_to
length-to-le mark [] = zero-le
length-to-le mark (c ∷ t) = cases (eqb c mark) (λ e. rw e zero-le) (λ e. rw e (omega (arith, length-to-le mark t)))

spaces-le : (l : List ℕ) → spaces_of l ≤ length l
unfolding spaces_of
spaces-le [] = zero-le
spaces-le (c ∷ t) = cases (eqb c 32) (λ e. rw e (omega (arith, spaces-le t))) (λ e. rw e zero-le)

-- a byte that is there, whatever would stand past the end
pub byte-there : (p : List ℕ) (i d e : ℕ) → i < length p → get_or p i d ≡ get_or p i e
byte-there p i d e h = cc (drop-cons p i d h, drop-cons p i e h)

module _ (mark : ℕ) (t : List ℕ) (i : ℕ) where
  pub mark-here : i < length t → get_or t i 0 ≡ mark → length_to mark (drop i t) ≡ 0
  unfolding length_to
  mark-here h e = rw (drop-cons t i 0 h, eq-eqb (get_or t i 0) mark e)

  pub mark-after : i < length t → (get_or t i 0 ≡ mark → ⊥) → length_to mark (drop i t) ≡ suc (length_to mark (drop (i + 1) t))
  unfolding length_to
  mark-after h n = rw (add-one i, drop-cons t i 0 h, ne_eqb (get_or t i 0) mark n)

  pub mark-past : length t ≤ i → length_to mark (drop i t) ≡ 0
  unfolding length_to
  mark-past h = rw (drop_of_length-le t h)

  -- a part ends in the text
  pub end-le : i ≤ length t → i + length_to mark (drop i t) ≤ length t
  end-le h = omega (arith, length-to-le mark (drop i t), length-drop i t)

-- the spaces in front, from byte i on
module _ (t : List ℕ) (i : ℕ) where
  pub spaces-end : i < length t → (get_or t i 0 ≡ 32 → ⊥) → spaces_of (drop i t) ≡ 0
  unfolding spaces_of
  spaces-end h n = rw (drop-cons t i 0 h, ne_eqb (get_or t i 0) 32 n)

  pub spaces-more : i < length t → get_or t i 0 ≡ 32 → spaces_of (drop i t) ≡ suc (spaces_of (drop (i + 1) t))
  unfolding spaces_of
  spaces-more h e = rw (add-one i, drop-cons t i 0 h, eq-eqb (get_or t i 0) 32 e)

  pub spaces-past : length t ≤ i → spaces_of (drop i t) ≡ 0
  unfolding spaces_of
  spaces-past h = rw (drop_of_length-le t h)

-- ---- parts

-- the first part ends at the first mark, and the other parts stand after that
pub parts_first : (mark c : ℕ) (t : List ℕ)
    → parts_of mark (c ∷ t) ≡ take (length_to mark (c ∷ t)) (c ∷ t) ∷ parts_of mark (drop (suc (length_to mark (c ∷ t))) (c ∷ t))
unfolding parts_of length_to
parts_first mark c [] = cases (eqb c mark) (λ e. rw e) (λ e. rw e)
parts_first mark c (d ∷ u) = cases (eqb c mark) (λ e. rw e) (λ e. rw (e, parts_first mark d u))

-- the same from byte `at` on, by the part's end
pub parts-step : (mark : ℕ) (t : List ℕ) (at e : ℕ) → at < length t → e ≡ at + length_to mark (drop at t)
    → parts_of mark (drop at t) ≡ take (e - at) (drop at t) ∷ parts_of mark (drop (e + 1) t)
parts-step mark t at e h q =
    let l = drop at t in
    let size : e - at ≡ length_to mark l = omega arith in
    let past : e + 1 ≡ at + suc (length_to mark l) = omega arith in
    rw (size, past, ← drop-drop (suc (length_to mark l)) at t) (rw (drop-cons t at 0 h) (parts_first mark (get_or t at 0) (drop (suc at) t)))

-- a part and its mark in front of a text
pub parts-joined : (mark : ℕ) (p t : List ℕ) → Lacks mark p → parts_of mark (p ++ mark ∷ t) ≡ p ∷ parts_of mark t
unfolding parts_of
parts-joined mark [] t h = rw (eq-eqb mark mark refl)
parts-joined mark (c ∷ p) t h = rw (h.0, parts-joined mark p t h.1)

-- a last part that has a byte and lacks its mark
pub parts_last : (mark c : ℕ) (p : List ℕ) → Lacks mark (c ∷ p) → parts_of mark (c ∷ p) ≡ (c ∷ p) ∷ []
unfolding parts_of
parts_last mark c [] h = rw h.0
parts_last mark c (d ∷ p) h = rw (h.0, parts_last mark d p h.1)

-- ---- pieces

-- spaces in front count nothing
pub spaces-skipped : (l : List ℕ) → pieces_of (drop (spaces_of l) l) ≡ pieces_of l
unfolding pieces_of parts_of spaces_of
spaces-skipped [] = refl
spaces-skipped (c ∷ t) = cases (eqb c 32) (λ e. rw e (spaces-skipped t)) (λ e. rw (e, e))

-- nor does the space at a piece's end
pub space-skipped : (l : List ℕ) → pieces_of (drop (suc (length_to 32 l)) l) ≡ pieces_of (drop (length_to 32 l) l)
unfolding pieces_of parts_of length_to
space-skipped [] = refl
space-skipped (c ∷ t) = cases (eqb c 32) (λ e. rw (e, e)) (λ e. rw e (space-skipped t))

pub no-spaces : (l : List ℕ) → spaces_of (drop (spaces_of l) l) ≡ 0
unfolding spaces_of
no-spaces [] = refl
no-spaces (c ∷ t) = cases (eqb c 32) (λ e. rw e (no-spaces t)) (λ e. rw (e, e))

-- a text with no space in front: its first piece ends at the first space, and the others stand from there on
first-there : (l : List ℕ) → spaces_of l ≡ 0 → take (length_to 32 l) l ≡ piece_of (pieces_of l) 0
unfolding pieces_of parts_of spaces_of length_to
first-there [] h = refl
first-there (c ∷ t) h =
    cases (eqb c 32) (λ e. absurd (omega (arith, rw e at h))) (λ e. rw (parts_first 32 c t, e))

others-there : (l : List ℕ) → spaces_of l ≡ 0 → pieces_of (drop (length_to 32 l) l) ≡ drop 1 (pieces_of l)
unfolding pieces_of parts_of spaces_of length_to
others-there [] h = refl
others-there (c ∷ t) h =
    cases (eqb c 32) (λ e. absurd (omega (arith, rw e at h))) (λ e. rw (parts_first 32 c t, e) (sym (space-skipped t)))

-- ---- what every piece is: it has a byte, and no space

abbrev AllLack : ℕ → List (List ℕ) → Type 0
AllLack mark [] = Unit {0}
AllLack mark (p ∷ ps) = Lacks mark p × AllLack mark ps

ahead-lack : (mark c : ℕ) (ps : List (List ℕ)) → eqb c mark ≡ false → AllLack mark ps → AllLack mark (ahead c ps)
ahead-lack mark c [] e h = ((e, tt), tt)
ahead-lack mark c (p ∷ ps) e h = ((e, h.0), h.1)

parts-lack : (mark : ℕ) (l : List ℕ) → AllLack mark (parts_of mark l)
unfolding parts_of
parts-lack mark [] = tt
parts-lack mark (c ∷ t) =
    cases (eqb c mark) (λ e. rw e (tt, parts-lack mark t)) (λ e. rw e (ahead-lack mark c (parts_of mark t) e (parts-lack mark t)))

abbrev pub Pieces : List (List ℕ) → Type 0
Pieces [] = Unit {0}
Pieces (p ∷ ps) = (0 < length p) × Lacks 32 p × Pieces ps

filled-pieces : (ps : List (List ℕ)) → AllLack 32 ps → Pieces (filled ps)
filled-pieces [] h = tt
filled-pieces ([] ∷ ps) h = filled-pieces ps h.1
filled-pieces ((c ∷ p) ∷ ps) h = (omega arith, h.0, filled-pieces ps h.1)

pub all-pieces : (l : List ℕ) → Pieces (pieces_of l)
unfolding pieces_of
all-pieces l = filled-pieces (parts_of 32 l) (parts-lack 32 l)

-- a list with no first piece is empty
none_first : (ps : List (List ℕ)) → Pieces ps → length (piece_of ps 0) ≡ 0 → ps ≡ []
none_first [] h e = refl
none_first (p ∷ ps) h e = absurd (omega (arith, h.0))

pub no-empty : (l : List ℕ) → piece_of (pieces_of l) 0 ≡ [] → pieces_of l ≡ []
no-empty l e = none_first (pieces_of l) (all-pieces l) (ap length e)

pub first-and-others : (ps : List (List ℕ)) → 0 < length (piece_of ps 0) → ps ≡ piece_of ps 0 ∷ drop 1 ps
first-and-others [] h = absurd (omega arith)
first-and-others (p ∷ ps) h = refl

-- ---- where a piece stands

pub piece-found : (line : List ℕ) (at from to : ℕ) → at ≤ length line → from ≡ at + spaces_of (drop at line)
    → to ≡ from + length_to 32 (drop from line) → PieceAt line at from to
piece-found line at from to h e q =
    let l = drop at line in
    let spaces = spaces_of l in
    let there : drop from line ≡ drop spaces l = rw (e, drop-drop spaces at line) in
    let size : to - from ≡ length_to 32 (drop from line) = omega arith in
    let none : spaces_of (drop from line) ≡ 0 = rw there (no-spaces l) in
    let same : pieces_of (drop from line) ≡ pieces_of l = rw there (spaces-skipped l) in
    let end : drop to line ≡ drop (length_to 32 (drop from line)) (drop from line) = rw (drop-drop, ← q) in
    let inside : from ≤ length line = omega (arith, spaces-le l, length-drop at line) in
    record {
      ordered = omega arith;
      within = omega (arith, end-le 32 line from inside);
      first = rw (size, ← same) (first-there (drop from line) none);
      others = rw (end, ← same) (others-there (drop from line) none);
      onward = λ m. omega arith;
    }

pub piece-past : (line : List ℕ) (at : ℕ) → length line ≤ at → PieceAt line at (length line) (length line)
unfolding pieces_of parts_of
piece-past line at h =
    let none = drop_of_length-le line h in
    record {
      ordered = omega arith;
      within = omega arith;
      first = rw (none, sub_self (length line));
      others = rw (none, drop-length line);
      onward = λ m. omega arith;
    }

-- what a piece found says of the pieces
module _ (line : List ℕ) (at from to : ℕ) (found : PieceAt line at from to) where
  pub piece-here : from < to → pieces_of (drop at line) ≡ take (to - from) (drop from line) ∷ pieces_of (drop to line)
  piece-here h =
      let size : length (take (to - from) (drop from line)) ≡ to - from =
      length-take-le (to - from) (drop from line) (omega (arith, length-drop from line, found.within)) in
      let some : 0 < length (piece_of (pieces_of (drop at line)) 0) = rw (← found.first, size) (omega arith) in
      rw (found.first, found.others) (first-and-others (pieces_of (drop at line)) some)

  pub no-piece : to ≤ from → pieces_of (drop at line) ≡ []
  no-piece h =
      let none : to - from ≡ 0 = omega arith in
      no-empty (drop at line) (sym found.first ∙ rw none)

-- ---- numbers

value-ge : (n : ℕ) (p : List ℕ) → n ≤ value_from n p
value-ge n [] = omega arith
value-ge n (c ∷ p) = omega (arith, value-ge (n * 0x10 + digit_of c) p)

-- the number that n's digits and these make: 0x800 where it is none, or over the field
abbrev pub read_from : ℕ → List ℕ → ℕ
read_from n p = pick (digits p && ltb (value_from n p) 0x800) (value_from n p) 0x800

over : (t : Bool) (v : ℕ) → 0x800 ≤ v → pick (t && ltb v 0x800) v 0x800 ≡ 0x800
over true v h = rw (le-ltb v 0x800 h)
over false v h = refl

-- a number that is over the widest field stays over it, whatever follows
pub read_over : (n c : ℕ) (p : List ℕ) → 0x800 ≤ n * 0x10 + digit_of c → read_from n (c ∷ p) ≡ 0x800
read_over n c p h = over (digits (c ∷ p)) _ (omega (arith, value-ge (n * 0x10 + digit_of c) p))

-- the same from byte i on
pub read_past : (n : ℕ) (p : List ℕ) (i : ℕ) → i < length p → 0x800 ≤ n * 0x10 + digit_of (get_or p i 0) → read_from n (drop i p) ≡ 0x800
read_past n p i l h = rw (drop-cons p i 0 l) (read_over n (get_or p i 0) (drop (suc i) p) h)

-- no digit is left
pub read-end : (n : ℕ) → n ≤ 0x800 → read_from n [] ≡ n
read-end n h = cases (ltb n 0x800) (λ e. rw e) (λ e. rw e (omega (arith, ltb-false n 0x800 e)))

pub read_number : (p : List ℕ) → 0 < length p → value_of p ≡ read_from 0 p
unfolding value_of
read_number p h = rw (lt-ltb 0 (length p) h)

pub no_number : (p : List ℕ) → length p ≡ 0 → value_of p ≡ 0x800
unfolding value_of
no_number p h = rw h

-- what a number says of its piece
pub number-le : (p : List ℕ) → value_of p ≤ 0x800
unfolding value_of
number-le p =
    cases (ltb 0 (length p) && digits p && ltb (value_from 0 p) 0x800)
    (λ e. rw e (omega (arith, ltb-true (value_from 0 p) 0x800 (three (ltb 0 (length p)) (digits p) _ e).2)))
    (λ e. rw e (omega arith))

pub number_digits : (p : List ℕ) → value_of p < 0x800 → (0 < length p) × (digits p ≡ true) × (value_of p ≡ value_from 0 p)
unfolding value_of
number_digits p h =
    cases (ltb 0 (length p) && digits p && ltb (value_from 0 p) 0x800)
    (λ e. let (some, all, low) = three (ltb 0 (length p)) (digits p) _ e in (ltb-true 0 (length p) some, all, rw e))
    (λ e. absurd (omega (arith, rw e at h)))

-- "digits 0-9 A-F a-f": in either case
pub digit-case : (c : ℕ) → c < 256 → digit_of (upper_of c) ≡ digit_of c
unfolding digit_of upper_of ranged
digit-case c h = eqb→eq _ _ (below 256 (λ x. eqb (digit_of (upper_of x)) (digit_of x)) tt c h)

-- "leading zeros count nothing"
pub leading-zero : (p : List ℕ) → 0 < length p → value_of (0x30 ∷ p) ≡ value_of p
unfolding value_of digit_of ranged
leading-zero p h = rw (lt-ltb 0 (length p) h, lt-ltb 0 (suc (length p)) (omega arith)) refl

-- "in upper or lower case, letter by letter (ASCII)": each of the 26
pub upper-letters : (i : ℕ) → i < 26 → (upper_of (0x61 + i) ≡ 0x41 + i) × (upper_of (0x41 + i) ≡ 0x41 + i)
unfolding upper_of ranged
upper-letters i h = (
  eqb→eq _ _ (below 26 (λ x. eqb (upper_of (0x61 + x)) (0x41 + x)) tt i h),
  eqb→eq _ _ (below 26 (λ x. eqb (upper_of (0x41 + x)) (0x41 + x)) tt i h),
)
