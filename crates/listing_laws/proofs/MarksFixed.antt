-- The marks of a word are the pieces that were typed for them, in upper case. Assumes nothing.
use Prim.Native.Nat.{ℕ, zero, suc, ◌+◌, ◌/◌, ◌%◌, ◌≤◌, ◌<◌}
use mathlib.Core.Path.{◌≡◌, refl}
use mathlib.Core.Bool.{Bool, true, false, not, ◌&&◌}
use mathlib.Core.List.{List, [], ◌∷◌, ◌++◌, map}
use native.Mathlib.Nat.{zero-add}
use native.Mathlib.Omega.{arith}
use lib.Dec.{eqb, ltb}
use lib.ListN.{length, drop}
use borrow.Author.Tests.{eqb-true, ltb-true, ltb-false, lt-ltb, le-ltb}
use Rattle.choose.specs.Ranged.{pick}
use Rattle.choose.proofs.Tests.{both_true}
use Rattle.line.specs.Kinds.{kind_of, count_of, user_of}
use Rattle.line.specs.Marks.{Marks, no_marks, user_in, marks_from}
use Rattle.line.proofs.EachOnce.{marks-exactly, marks-say}
use Rattle.names.specs.Mnemonics.{letters_from}
use Rattle.numbers.specs.Numbers.{Bytes}
use Rattle.pieces.specs.Parts.{piece_of}
use Rattle.pieces.specs.Read.{upper_of, name_of, letter_of}
use Rattle.pieces.proofs.Laws.{cases, Lacks}
use Rattle.spelling.specs.Spelling.{mark_of, user_name}
use Rattle.listing_laws.specs.Fixed.{mark_fixed, marks_fixed}
use Rattle.listing_laws.proofs.Respelled.{digit-upper, letter-below, letter-upper, name-respelled}

-- a piece of a line: bytes, and no space
abbrev pub Plain : List (List ℕ) → Type 0
Plain [] = Unit {0}
Plain (p ∷ ps) = Bytes p × Lacks 32 p × Plain ps

pub plain-drop : (n : ℕ) (ps : List (List ℕ)) → Plain ps → Plain (drop n ps)
plain-drop zero ps h = h
plain-drop (suc n) [] h = tt
plain-drop (suc n) (p ∷ ps) h = plain-drop n ps h.2

pub plain-piece : (ps : List (List ℕ)) (i : ℕ) → Plain ps → Bytes (piece_of ps i) × Lacks 32 (piece_of ps i)
plain-piece [] i h = (tt, tt)
plain-piece (p ∷ ps) zero h = (h.0, h.1)
plain-piece (p ∷ ps) (suc i) h = plain-piece ps i h.2

-- ---- which name is of a kind

-- the test of kind k; a name that is no mark has none
abbrev test : Bool → Bool → Bool → Bool → ℕ → Bool
test a b c d zero = a
test a b c d (suc zero) = b
test a b c d (suc (suc zero)) = c
test a b c d (suc (suc (suc zero))) = d
test a b c d (suc (suc (suc (suc k)))) = true

tested : (a b c d : Bool) → test a b c d (pick a 0 (pick b 1 (pick c 2 (pick d 3 4)))) ≡ true
tested true b c d = refl
tested false true c d = refl
tested false false true d = refl
tested false false false true = refl
tested false false false false = refl

kind-test : (name k : ℕ) → kind_of name ≡ k
    → test (eqb name (letters_from 0 4 "ODD")) (eqb name (letters_from 0 4 "RR")) (eqb name (letters_from 0 4 "RNI")) (ltb (user_in name) 0x10) k ≡ true
unfolding kind_of
kind-test name k e =
    rw e at
    (tested (eqb name (letters_from 0 4 "ODD")) (eqb name (letters_from 0 4 "RR")) (eqb name (letters_from 0 4 "RNI")) (ltb (user_in name) 0x10))

no_kind : kind_of 0 ≡ 4
unfolding kind_of user_in
no_kind = refl

-- a mark isn't longer than four letters
mark-short : (p : List ℕ) → kind_of (name_of p) < 4 → length p ≤ 4
unfolding name_of
mark-short p h = cases (ltb 4 (length p)) (λ e. absurd (omega (arith, rw (e, no_kind) at h))) (ltb-false 4 (length p))

-- ---- ODD, RR, RNI

mark-respelled : (k name : ℕ) → k < 4 → ((p : List ℕ) → kind_of (name_of p) ≡ k → name_of p ≡ name) → (ps : List (List ℕ)) → Plain ps
    → mark_of (ltb 0 (count_of k ps)) name ≡ mark_fixed k ps
unfolding count_of mark_fixed
mark-respelled k name h is [] b = refl
mark-respelled k name h is (p ∷ ps) (b, l, others) =
    cases (eqb (kind_of (name_of p)) k)
    (λ e.
    let same = eqb-true (kind_of (name_of p)) k e in
    let letters = name-respelled p b l (mark-short p (rw same h)) in
    rw (e, lt-ltb 0 (1 + count_of k ps) (omega arith), ← is p same, letters))
    (λ e. rw (e, zero-add) (mark-respelled k name h is ps others))

-- ---- U

-- the name of U with a digit, from its digit
user-name : (name : ℕ) → user_in name < 0x10 → upper_of (name / 0x1_0000 % 0x100) ≡ name / 0x1_0000 % 0x100 → user_name (user_in name) ≡ name
unfolding user_name user_in
user-name name h upper =
    cases (eqb (name / 0x100_0000) 0x55 && eqb (name % 0x1_0000) 0x2020)
    (λ e.
    let (u, spaces) = both_true (eqb (name / 0x100_0000) 0x55) (eqb (name % 0x1_0000) 0x2020) e in
    let digit = digit-upper (name / 0x1_0000 % 0x100) (rw e at h) in
    rw (e, digit, upper) (omega (arith, eqb-true (name / 0x100_0000) 0x55 u, eqb-true (name % 0x1_0000) 0x2020 spaces)))
    (λ e. absurd (omega (arith, rw e at h)))

second-letter : (p : List ℕ) → Bytes p → length p ≤ 4 → name_of p / 0x1_0000 % 0x100 ≡ letter_of p 1
unfolding name_of
second-letter p b h =
    rw (le-ltb 4 (length p) h) (omega (arith, letter-below p 0 b, letter-below p 1 b, letter-below p 2 b, letter-below p 3 b))

swapped : (t : Bool) (a b : List ℕ) → pick (not t) a b ≡ pick t b a
swapped true a b = refl
swapped false a b = refl

user-here : (p : List ℕ) → Bytes p → Lacks 32 p → kind_of (name_of p) ≡ 3
    → (let u = user_in (name_of p) in mark_of (not (eqb (u % 0x10) 0)) (user_name (u % 0x10)) ≡ pick (eqb u 0) [] (0x20 ∷ map upper_of p))
user-here p b l e =
    let digit = ltb-true (user_in (name_of p)) 0x10 (kind-test (name_of p) 3 e) in
    let short = mark-short p (omega arith) in
    let whole : user_in (name_of p) % 0x10 ≡ user_in (name_of p) = omega arith in
    let name = user-name (name_of p) digit (rw (second-letter p b short) (letter-upper p 1 b)) in
    rw (whole, name, name-respelled p b l short) (swapped (eqb (user_in (name_of p)) 0) _ _)

user-respelled : (ps : List (List ℕ)) → Plain ps
    → mark_of (not (eqb (user_of ps % 0x10) 0)) (user_name (user_of ps % 0x10)) ≡ pick (eqb (user_of ps) 0) [] (mark_fixed 3 ps)
unfolding user_of mark_fixed
user-respelled [] b = refl
user-respelled (p ∷ ps) (b, l, others) =
    cases (eqb (kind_of (name_of p)) 3) (λ e. rw e (user-here p b l (eqb-true _ _ e))) (λ e. rw e (user-respelled ps others))

-- ---- all of them

-- the marks as a word's line has them
abbrev pub marks_for : Marks → List ℕ
marks_for m =
    mark_of m.odd (letters_from 0 4 "ODD") ++ mark_of m.load_rr (letters_from 0 4 "RR") ++
    mark_of m.rni (letters_from 0 4 "RNI") ++ mark_of (not (eqb (m.user % 0x10) 0)) (user_name (m.user % 0x10))

pub marks-respelled : (ps : List (List ℕ)) → Plain ps → (marks_from no_marks ps).good ≡ true → marks_for (marks_from no_marks ps) ≡ marks_fixed ps
unfolding marks_fixed
marks-respelled ps b good =
    let say = marks-say ps in
    let once = ((marks-exactly ps).0 good).1 3 (omega arith) in
    rw (
      say.odd,
      say.load_rr,
      say.rni,
      say.user once,
      mark-respelled 0 (letters_from 0 4 "ODD") (omega arith) (λ p e. eqb-true _ _ (kind-test (name_of p) 0 e)) ps b,
      mark-respelled 1 (letters_from 0 4 "RR") (omega arith) (λ p e. eqb-true _ _ (kind-test (name_of p) 1 e)) ps b,
      mark-respelled 2 (letters_from 0 4 "RNI") (omega arith) (λ p e. eqb-true _ _ (kind-test (name_of p) 2 e)) ps b,
      user-respelled ps b,
    )
