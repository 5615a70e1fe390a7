-- A line in the paper's words: 11 and 12 exactly where Written says so, and the word that a good line says. Assumes nothing.
use Prim.Native.Nat.{ℕ, zero, suc, ◌+◌, ◌/◌, ◌≤◌, ◌<◌}
use mathlib.Core.Path.{◌≡◌, refl, ◌∙◌, sym}
use mathlib.Core.Bool.{Bool, true, false, not, ◌||◌, false≢true}
use mathlib.Core.List.{List, [], ◌∷◌, ◌++◌}
use mathlib.Core.Logic.{◌↔◌, inl, inr, ⊎_elim}
use native.Mathlib.Nat.{mod-eq_of_lt}
use native.Mathlib.Omega.{arith}
use lib.Dec.{eqb, eqb→eq, ltb, leb}
use lib.ListN.{length, drop}
use borrow.Author.Tests.{ltb-true, ltb-false, leb-true, lt-ltb, le-ltb, le-leb, eq-eqb, ne_eqb}
use Rattle.choose.specs.Ranged.{bit, pick, ranged}
use Rattle.choose.proofs.Table.{below}
use Rattle.choose.proofs.Tests.{holds, both_true}
use Rattle.code.specs.CodeRows.{class_of, listed}
use Rattle.code.specs.Word.{operands_in, low_of, word_of}
use Rattle.code.proofs.Shape.{low-own}
use Rattle.names.specs.Mnemonics.{letters_from}
use Rattle.forms.specs.Forms.{spare_of, form_of, limit_of, joined_of}
use Rattle.forms.specs.Named.{twinned}
use Rattle.forms.specs.declared.Form.{Form}
use Rattle.forms.proofs.Names.{names}
use Rattle.forms.proofs.Operands.{Spans, one, a-last, a-first, joined, form-spans}
use Rattle.pieces.specs.Parts.{piece_of}
use Rattle.pieces.specs.Read.{upper_of, letter_of, name_of, digit_of, digits, value_from, value_of, is_number}
use Rattle.pieces.proofs.Laws.{cases, number-le, number_digits}
use Rattle.line.specs.Marks.{no_marks, user_in, marks_from}
use Rattle.line.specs.Kinds.{kind_of, count_of}
use Rattle.line.specs.Line.{Line, Tail, tail_with, tail_of, fits_form, fields_for, line_of}
use Rattle.line.specs.Written.{Number, most_of, Written, WellWritten, word_written}
use Rattle.line.proofs.EachOnce.{marks-exactly, marks-say}
use Rattle.line.proofs.Laws.{address_in, top_in, word_in, fitting, fits-form, bad-11, bad-12, good-line}

-- ---- "No mark is a hexadecimal number, so an operand can't be taken for one"

-- no digit is past F
past-f : (c : ℕ) → 0x67 ≤ c → digit_of c ≡ 0x10
unfolding digit_of ranged
past-f c h =
    rw (
      le-ltb c 0x30 (omega arith),
      le-ltb c 0x3A (omega arith),
      le-ltb c 0x41 (omega arith),
      le-ltb c 0x47 (omega arith),
      le-ltb c 0x61 (omega arith),
      le-ltb c 0x67 h,
    )

upper-le : (c : ℕ) → ltb (digit_of c) 0x10 ≡ true → upper_of c ≤ 0x46
unfolding digit_of upper_of ranged
upper-le c e =
    cases (ltb c 0x67)
    (λ l. leb-true _ _ (holds _ (rw e at (below 0x67 (λ x. pick (ltb (digit_of x) 0x10) (leb (upper_of x) 0x46) true) tt c (ltb-true c 0x67 l)))))
    (λ l. absurd (omega (arith, ltb-true (digit_of c) 0x10 e, past-f c (ltb-false c 0x67 l))))

letter-le : (p : List ℕ) (i : ℕ) → digits p ≡ true → letter_of p i ≤ 0x46
unfolding upper_of ranged
letter-le [] i e = omega arith
letter-le (c ∷ p) zero e = upper-le c (both_true _ _ e).0
letter-le (c ∷ p) (suc i) e = letter-le p i (both_true (ltb (digit_of c) 0x10) _ e).1

name_below : (p : List ℕ) → digits p ≡ true → name_of p < 0x4700_0000
unfolding name_of
name_below p e =
    cases (ltb 4 (length p)) (λ l. rw l (omega arith))
    (λ l. rw l (omega (arith, letter-le p 0 e, letter-le p 1 e, letter-le p 2 e, letter-le p 3 e)))

-- every mark begins past F
no_kind : (name : ℕ) → name < 0x4700_0000 → kind_of name ≡ 4
unfolding kind_of user_in
no_kind name h =
    rw (
      ne_eqb name (letters_from 0 4 "ODD") (λ q. omega arith),
      ne_eqb name (letters_from 0 4 "RR") (λ q. omega arith),
      ne_eqb name (letters_from 0 4 "RNI") (λ q. omega arith),
      ne_eqb (name / 0x100_0000) 0x55 (λ q. omega arith),
    )

pub mark-no-number : (p : List ℕ) → digits p ≡ true → kind_of (name_of p) ≡ 4
mark-no-number p e = no_kind (name_of p) (name_below p e)

nothing : value_of [] ≡ 0x800
unfolding value_of
nothing = refl

-- the marks of a line don't begin with a number
mark-first : (ms : List (List ℕ)) → count_of 4 ms ≡ 0 → is_number (piece_of ms 0) ≡ false
unfolding count_of
mark-first [] e = rw nothing
mark-first (m ∷ ms) e =
    cases (is_number m)
    (λ n.
    let (some, all, same) = number_digits m (ltb-true _ _ n) in
    absurd (omega (arith, rw (eq-eqb _ _ (mark-no-number m all)) at e)))
    (λ n. n)

-- ---- numbers, and what is read after a mnemonic

is-number : (p : List ℕ) → Number 0x800 p → value_of p ≡ value_from 0 p
unfolding value_of
is-number p n = rw (lt-ltb _ _ n.some, n.hexadecimal, lt-ltb _ _ n.in-range)

number : (p : List ℕ) → is_number p ≡ true → Number 0x800 p
number p e =
    let (some, all, same) = number_digits p (ltb-true _ _ e) in
    record { some = some; hexadecimal = all; in-range = rw same at (ltb-true (value_of p) 0x800 e) }

-- every piece is a number
abbrev Numbers : List (List ℕ) → Type 0
Numbers xs = (i : ℕ) → i < length xs → Number 0x800 (piece_of xs i)

-- what is read of operands xs, and marks after them
abbrev tail_read : List (List ℕ) → List (List ℕ) → Tail
tail_read xs ms = tail_with (length xs) (value_from 0 (piece_of xs 0)) (value_from 0 (piece_of xs 1)) ms

tail-read : (xs ms : List (List ℕ)) → length xs ≤ 2 → Numbers xs → (length xs < 2 → is_number (piece_of ms 0) ≡ false) → tail_of (xs ++ ms) ≡ tail_read xs ms
unfolding tail_of
tail-read [] ms h n e = rw (e (omega arith))
tail-read (x ∷ []) ms h n e =
    let a = n 0 (omega arith) in
    rw (is-number x a, lt-ltb _ _ a.in-range, e (omega arith))
tail-read (x ∷ y ∷ []) ms h n e =
    let a = n 0 (omega arith) in
    let b = n 1 (omega arith) in
    rw (is-number x a, lt-ltb _ _ a.in-range, is-number y b, lt-ltb _ _ b.in-range)
tail-read (x ∷ y ∷ z ∷ xs) ms h n e = absurd (omega arith)

-- any pieces: two numbers at most, and what stands after them
record Parted (qs : List (List ℕ)) : Type 0 where
  operands : List (List ℕ)
  marks : List (List ℕ)
  order : qs ≡ operands ++ marks
  numbers : Numbers operands
  read : tail_of qs ≡ tail_read operands marks

none_yet : Numbers []
none_yet i h = absurd (omega arith)

just : (x : List ℕ) → Number 0x800 x → Numbers (x ∷ [])
just x n zero h = n
just x n (suc i) h = absurd (omega arith)

both : (x y : List ℕ) → Number 0x800 x → Number 0x800 y → Numbers (x ∷ y ∷ [])
both x y n m zero h = n
both x y n m (suc zero) h = m
both x y n m (suc (suc i)) h = absurd (omega arith)

after_one : (x : List ℕ) (qs : List (List ℕ)) → Number 0x800 x → is_number (piece_of qs 0) ≡ false → Parted (x ∷ qs)
after_one x qs n e =
    record {
      operands = x ∷ [];
      marks = qs;
      order = refl;
      numbers = just x n;
      read = tail-read (x ∷ []) qs (omega arith) (just x n) (λ l. e);
    }

after : (x : List ℕ) (qs : List (List ℕ)) → Number 0x800 x → Parted (x ∷ qs)
after x [] n = after_one x [] n (rw nothing)
after x (y ∷ qs) n =
    cases (is_number y)
    (λ e.
    let m = number y e in
    record {
      operands = x ∷ y ∷ [];
      marks = qs;
      order = refl;
      numbers = both x y n m;
      read = tail-read (x ∷ y ∷ []) qs (omega arith) (both x y n m) (λ l. absurd (omega arith));
    })
    (λ e. after_one x (y ∷ qs) n e)

parted : (qs : List (List ℕ)) → Parted qs
parted [] =
    record { operands = []; marks = []; order = refl; numbers = none_yet; read = tail-read [] [] (omega arith) none_yet (λ l. rw nothing) }
parted (x ∷ qs) =
    cases (is_number x)
    (λ e. after x qs (number x e))
    (λ e. record { operands = []; marks = x ∷ qs; order = refl; numbers = none_yet; read = tail-read [] (x ∷ qs) (omega arith) none_yet (λ l. e) })

-- ---- the operands of a form

limit-range : (d : ℕ) → (0 < limit_of d) × (limit_of d ≤ 0x800)
unfolding limit_of ranged
limit-range d = go (ltb d 1) (ltb d 2) (ltb d 3)
  where
    go : (a b c : Bool) → (0 < pick a 1 (pick b 0x10 (pick c 0x100 0x800))) × (pick a 1 (pick b 0x10 (pick c 0x100 0x800)) ≤ 0x800)
    go true b c = (omega arith, omega arith)
    go false true c = (omega arith, omega arith)
    go false false true = (omega arith, omega arith)
    go false false false = (omega arith, omega arith)

spans-two : {form : Form} {n : ℕ} → Spans form n → form.second ≤ 1
spans-two one = omega arith
spans-two a-last = omega arith
spans-two a-first = omega arith

-- the one after those needed is the don't-care operand
most-operands : (top : ℕ) → top < 0x100 → listed (class_of top) ≡ true → most_of top ≡ 1 + (form_of top).second
unfolding spare_of form_of class_of ranged
most-operands top h e =
    eqb→eq _ _ (rw e at (below 0x100 (λ x. pick (listed (class_of x)) (eqb (most_of x) (1 + (form_of x).second)) true) tt top h))

below-limit : (limit : ℕ) (xs : List (List ℕ)) (i : ℕ) → 0 < limit → (i < length xs → Number limit (piece_of xs i)) → value_from 0 (piece_of xs i) < limit
below-limit limit [] i h n = h
below-limit limit (x ∷ xs) zero h n = (n (omega arith)).in-range
below-limit limit (x ∷ xs) (suc i) h n = below-limit limit xs i h (λ l. n (omega arith))

wider : (limit : ℕ) (p : List ℕ) → limit ≤ 0x800 → Number limit p → Number 0x800 p
wider limit p h n = record { some = n.some; hexadecimal = n.hexadecimal; in-range = omega arith }

-- ---- what is written fits, and what fits is written

bit-count : (n : ℕ) → n ≤ 1 → bit (ltb 0 n) ≡ n
bit-count zero h = refl
bit-count (suc zero) h = refl
bit-count (suc (suc n)) h = absurd (omega arith)

module _ (top : ℕ) (xs ms : List (List ℕ)) (h : top < 0x100) (l : listed (class_of top) ≡ true) (w : Written top xs ms) where
  few : length xs ≤ 2
  few = omega (arith, w.most, most-operands top h l, spans-two (form-spans top l))

  all-numbers : Numbers xs
  all-numbers zero i = wider _ _ (limit-range (form_of top).first).1 (w.first i)
  all-numbers (suc zero) i = wider _ _ (limit-range (form_of top).second).1 (w.second i)
  all-numbers (suc (suc k)) i = absurd (omega (arith, few))

  written_read : tail_of (xs ++ ms) ≡ tail_read xs ms
  written_read = tail-read xs ms few all-numbers (λ i. mark-first ms w.marks)

  first_below : value_from 0 (piece_of xs 0) < limit_of (form_of top).first
  first_below = below-limit _ xs 0 (limit-range (form_of top).first).0 w.first

  second_below : value_from 0 (piece_of xs 1) < limit_of (form_of top).second
  second_below = below-limit _ xs 1 (limit-range (form_of top).second).0 w.second

  form-fits : fits_form (form_of top) (tail_read xs ms) ≡ true
  unfolding fits_form
  form-fits =
      let most : length xs ≤ 1 + (form_of top).second = rw most-operands at w.most in
      rw (le-leb _ _ w.given, le-leb _ _ most, lt-ltb _ _ first_below, lt-ltb _ _ second_below)

  marks-good : (marks_from no_marks ms).good ≡ true
  marks-good = (marks-exactly ms).1 (w.marks, w.once)

  odd-good : not (marks_from no_marks ms).odd || twinned top ≡ true
  odd-good = rw (marks-say ms).odd (cases (ltb 0 (count_of 0 ms)) (λ e. rw (e, w.odd (ltb-true _ _ e))) (λ e. rw e))

  -- the operands' bits, and the word
  low : low_of (operands_in (class_of top) (joined_of (form_of top) (value_from 0 (piece_of xs 0)) (value_from 0 (piece_of xs 1))))
      ≡ joined_of (form_of top) (value_from 0 (piece_of xs 0)) (value_from 0 (piece_of xs 1))
  low = low-own (class_of top) _ l ∙ mod-eq_of_lt (joined (form-spans top l) _ _ first_below second_below).below

  word-said : word_of (fields_for top (tail_read xs ms)) ≡ word_written top xs ms
  unfolding word_of word_written
  word-said =
      let said = marks-say ms in
      rw (
        low,
        said.odd,
        said.load_rr,
        said.rni,
        said.user (w.once 3 (omega arith)),
        bit-count (count_of 0 ms) (w.once 0 (omega arith)),
        bit-count (count_of 1 ms) (w.once 1 (omega arith)),
        bit-count (count_of 2 ms) (w.once 2 (omega arith)),
      )

-- ---- a line

is-listed : (ps : List (List ℕ)) → top_in ps < 0x100 → listed (class_of (top_in ps)) ≡ true
is-listed ps h = (names (name_of (piece_of ps 1)) h).listed-top

module _ (ps : List (List ℕ)) (h : top_in ps < 0x100) where
  pub written-fits : WellWritten (top_in ps) (drop 2 ps) → fitting ps ≡ true
  written-fits w =
      let l = is-listed ps h in
      let top = top_in ps in
      let xs = w.operands in
      let ms = w.marks in
      rw (
        w.order,
        written_read top xs ms h l w.written,
        form-fits top xs ms h l w.written,
        marks-good top xs ms h l w.written,
      )
      (odd-good top xs ms h l w.written)

  pub fits-written : fitting ps ≡ true → WellWritten (top_in ps) (drop 2 ps)
  fits-written e =
      let l = is-listed ps h in
      let q = parted (drop 2 ps) in
      let (form, marks) = both_true (fits_form (form_of (top_in ps)) (tail_read q.operands q.marks)) _ (rw q.read at e) in
      let (good, odd) = both_true (marks_from no_marks q.marks).good _ marks in
      let f = fits-form _ _ form in
      let (only, once) = (marks-exactly q.marks).0 good in
      let same = (marks-say q.marks).odd in
      record {
        operands = q.operands;
        marks = q.marks;
        order = q.order;
        written =
            record {
              given = f.given;
              most = omega (arith, f.most, most-operands (top_in ps) h l);
              first = λ i. let n = q.numbers 0 i in record { some = n.some; hexadecimal = n.hexadecimal; in-range = f.first };
              second = λ i. let n = q.numbers 1 i in record { some = n.some; hexadecimal = n.hexadecimal; in-range = f.second };
              marks = only;
              once = once;
              odd = λ i. rw (same, lt-ltb _ _ i) at odd;
            };
      }

-- 11: "operand or mark missing, extra or out of range"
pub bad-11-exactly : (next : ℕ) (ps : List (List ℕ))
    → (line_of next ps ≡ Line.Bad 11) ↔ (top_in ps < 0x100) × (WellWritten (top_in ps) (drop 2 ps) → ⊥)
bad-11-exactly next ps =
    let (says, said) = bad-11 next ps in (
      (λ e.
          let (named, misfit) = says e in
          (named, λ w. false≢true (sym misfit ∙ written-fits ps named w))),
      (λ (named, none). cases (fitting ps) (λ e. absurd (none (fits-written ps named e))) (λ e. said (named, e))),
    )

-- 12: "address not hexadecimal, not rising or over 2,047"
pub bad-12-exactly : (next : ℕ) (ps : List (List ℕ))
    → (line_of next ps ≡ Line.Bad 12)
    ↔ (top_in ps < 0x100) × WellWritten (top_in ps) (drop 2 ps) × (Number 0x800 (piece_of ps 0) → next ≤ value_from 0 (piece_of ps 0) → ⊥)
bad-12-exactly next ps =
    let (says, said) = bad-12 next ps in
    let p = piece_of ps 0 in (
      (λ e.
          let (named, fits, place) = says e in (
            named,
            fits-written ps named fits,
            λ n r. ⊎_elim (λ a. omega (arith, is-number p n, n.in-range)) (λ a. omega (arith, is-number p n)) place,
          )),
      (λ (named, w, none).
          said (
            named,
            written-fits ps named w,
            cases (is_number p)
                (λ e.
                cases (ltb (value_of p) next)
                (λ b. inr (ltb-true _ _ b))
                (λ b. absurd (none (number p e) (omega (arith, ltb-false (value_of p) next b, is-number p (number p e))))))
                (λ e. inl (omega (arith, ltb-false (value_of p) 0x800 e, number-le p))),
          )),
    )

-- a good line: the word that its operands and marks say, at its address
pub written-word : (next : ℕ) (ps xs ms : List (List ℕ)) → top_in ps < 0x100 → drop 2 ps ≡ xs ++ ms → Written (top_in ps) xs ms
    → Number 0x800 (piece_of ps 0) → next ≤ value_from 0 (piece_of ps 0)
    → line_of next ps ≡ Line.Word (value_from 0 (piece_of ps 0)) (word_written (top_in ps) xs ms)
written-word next ps xs ms named order w n rising =
    let l = is-listed ps named in
    let a : address_in ps ≡ value_from 0 (piece_of ps 0) = is-number (piece_of ps 0) n in
    let fits = written-fits ps named (record { operands = xs; marks = ms; order = order; written = w }) in
    let same : word_in ps ≡ word_written (top_in ps) xs ms = rw (order, written_read (top_in ps) xs ms named l w) (word-said (top_in ps) xs ms named l w) in
    good-line next ps named fits (omega (arith, n.in-range)) (omega arith) ∙ rw (a, same)
