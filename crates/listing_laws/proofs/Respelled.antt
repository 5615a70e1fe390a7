-- A piece respelled: the last digits of a number are those that are spelled for its value, and a name's letters are its bytes in upper case. Assumes nothing.
use Prim.Native.Nat.{ℕ, zero, suc, ◌+◌, ◌*◌, ◌/◌, ◌%◌, ◌≤◌, ◌<◌}
use mathlib.Core.Path.{◌≡◌, refl, ◌∙◌, ap}
use mathlib.Core.Bool.{true, false, ◌&&◌, beq}
use mathlib.Core.List.{List, [], ◌∷◌, ◌++◌, map, reverse, reverse-cons, reverse-reverse}
use native.Mathlib.Nat.{le_refl, lt_of_not-le, not-le_of_lt}
use native.Mathlib.Omega.{arith}
use lib.Dec.{eqb, eqb→eq, ltb}
use lib.ListN.{length}
use borrow.Author.Tests.{ltb-true, lt-ltb, le-ltb}
use Rattle.choose.specs.Ranged.{pick, ranged}
use Rattle.choose.proofs.Ranged.{in_rest}
use Rattle.choose.proofs.Table.{below}
use Rattle.choose.proofs.Tests.{holds, equal-tests, both_true}
use Rattle.numbers.specs.Numbers.{Bytes}
use Rattle.pieces.specs.Read.{upper_of, letter_of, name_of, digit_of, digits, value_from, value_of}
use Rattle.pieces.proofs.Laws.{Lacks, number_digits}
use Rattle.spelling.specs.Spelling.{hex_digit, digits_of, letter_if, letters_of}
use Rattle.listing_laws.specs.Fixed.{first_digits, last_digits}

-- ---- digits

digit-below : (c : ℕ) → digit_of c < 0x10 → c < 0x67
unfolding digit_of
digit-below c h =
    let past : 0x67 ≤ c → digit_of c ≡ 0x10 = λ g. in_rest c _ 0x10 0x67 tt g in
    lt_of_not-le (λ g. not-le_of_lt h (rw (past g) (le_refl 0x10)))

-- a digit of either case is spelled in upper case
pub digit-upper : (c : ℕ) → digit_of c < 0x10 → hex_digit (digit_of c) ≡ upper_of c
unfolding digit_of hex_digit upper_of ranged
digit-upper c h =
    eqb→eq _ _
    (rw (lt-ltb (digit_of c) 0x10 h) at
    (below 0x67 (λ x. pick (ltb (digit_of x) 0x10) (eqb (hex_digit (digit_of x)) (upper_of x)) true) tt c (digit-below c h)))

-- digits before it don't change the last
last-digit : (m d : ℕ) → hex_digit (m * 0x10 + d) ≡ hex_digit d
unfolding hex_digit
last-digit m d = let same : (m * 0x10 + d) % 0x10 ≡ d % 0x10 = omega arith in rw same

-- a number and a piece of digits, with one digit more after them
value-last : (n c : ℕ) (p : List ℕ) → value_from n (p ++ c ∷ []) ≡ value_from n p * 0x10 + digit_of c
value-last n c [] = refl
value-last n c (d ∷ p) = value-last (n * 0x10 + digit_of d) c p

digits_last : (c : ℕ) (p : List ℕ) → digits (p ++ c ∷ []) ≡ true → (digits p ≡ true) × (digit_of c < 0x10)
digits_last c [] e = (refl, ltb-true _ _ (both_true (ltb (digit_of c) 0x10) true e).0)
digits_last c (d ∷ p) e =
    let (here, others) = both_true (ltb (digit_of d) 0x10) (digits (p ++ c ∷ [])) e in
    let (before, last) = digits_last c p others in
    (rw here before, last)

-- the last k digits of a number, from the last on
abbrev from_last : ℕ → ℕ → List ℕ
from_last zero n = []
from_last (suc k) n = hex_digit n ∷ from_last k (n / 0x10)

digits-from-last : (k n : ℕ) → k ≤ 3 → digits_of k n ≡ reverse (from_last k n)
unfolding digits_of
digits-from-last zero n h = refl
digits-from-last (suc zero) n h = refl
digits-from-last (suc (suc zero)) n h = refl
digits-from-last (suc (suc (suc zero))) n h = let twice : n / 0x10 / 0x10 ≡ n / 0x100 = omega arith in rw twice
digits-from-last (suc (suc (suc (suc k)))) n h = absurd (omega arith)

first-digits : (k : ℕ) (q : List ℕ) → digits (reverse q) ≡ true → from_last k (value_from 0 (reverse q)) ≡ first_digits k q
unfolding hex_digit
first-digits zero q e = refl
first-digits (suc k) [] e = ap (λ l. 0x30 ∷ l) (first-digits k [] e)
first-digits (suc k) (c ∷ q) e =
    let (before, last) = digits_last c (reverse q) (rw reverse-cons at e) in
    let m = value_from 0 (reverse q) in
    let value : value_from 0 (reverse (c ∷ q)) ≡ m * 0x10 + digit_of c = rw reverse-cons (value-last 0 c (reverse q)) in
    let rest : (m * 0x10 + digit_of c) / 0x10 ≡ m = omega arith in
    let same : hex_digit (m * 0x10 + digit_of c) ≡ upper_of c = last-digit m (digit_of c) ∙ digit-upper c last in
    rw (value, rest, same, first-digits k q before)

pub digits-respelled : (k : ℕ) (p : List ℕ) → k ≤ 3 → value_of p < 0x800 → digits_of k (value_of p) ≡ last_digits k p
unfolding last_digits
digits-respelled k p h l =
    let (some, all, value) = number_digits p l in
    let back = reverse-reverse p in
    digits-from-last k (value_of p) h
    ∙ rw value (ap reverse (rw back at (first-digits k (reverse p) (rw back all))))

-- ---- names

space : upper_of 0x20 ≡ 0x20
unfolding upper_of ranged
space = refl

-- a byte stays a byte, and doesn't become a space
byte-kept : (c : ℕ) → c < 256 → (upper_of c < 256) × (eqb (upper_of c) 0x20 ≡ eqb c 0x20)
unfolding upper_of ranged
byte-kept c h =
    let (low, same) =
    both_true _ _ (holds _ (below 256 (λ x. ltb (upper_of x) 256 && beq (eqb (upper_of x) 0x20) (eqb x 0x20)) tt c h)) in
    (ltb-true _ _ low, equal-tests _ _ (rw same tt))

pub letter-below : (p : List ℕ) (i : ℕ) → Bytes p → letter_of p i < 256
letter-below [] i b = rw space (omega arith)
letter-below (c ∷ p) zero b = (byte-kept c b.0).0
letter-below (c ∷ p) (suc i) b = letter-below p i b.1

-- a letter of a name is in upper case, and stays
upper-upper : (c : ℕ) → c < 256 → upper_of (upper_of c) ≡ upper_of c
unfolding upper_of ranged
upper-upper c h = eqb→eq _ _ (below 256 (λ x. eqb (upper_of (upper_of x)) (upper_of x)) tt c h)

pub letter-upper : (p : List ℕ) (i : ℕ) → Bytes p → upper_of (letter_of p i) ≡ letter_of p i
letter-upper [] i b = upper-upper 0x20 (omega arith)
letter-upper (c ∷ p) zero b = upper-upper c b.0
letter-upper (c ∷ p) (suc i) b = letter-upper p i b.1

letter-given : (c : ℕ) → c < 256 → eqb c 0x20 ≡ false → letter_if (upper_of c) ≡ upper_of c ∷ []
letter-given c h e =
    let (low, same) = byte-kept c h in
    let whole : upper_of c % 0x100 ≡ upper_of c = omega arith in
    rw (whole, same, e)

four-letters : (a b c d : ℕ) → a < 256 → b < 256 → c < 256 → d < 256
    → letters_of (a * 0x100_0000 + b * 0x1_0000 + c * 0x100 + d) ≡ letter_if a ++ letter_if b ++ letter_if c ++ letter_if d
unfolding letters_of
four-letters a b c d ha hb hc hd =
    let n = a * 0x100_0000 + b * 0x1_0000 + c * 0x100 + d in
    let ea : n / 0x100_0000 % 0x100 ≡ a % 0x100 = omega arith in
    let eb : n / 0x1_0000 % 0x100 ≡ b % 0x100 = omega arith in
    let ec : n / 0x100 % 0x100 ≡ c % 0x100 = omega arith in
    let ed : n % 0x100 ≡ d % 0x100 = omega arith in
    rw (ea, eb, ec, ed)

name-letters : (p : List ℕ) → Bytes p → length p ≤ 4
    → letters_of (name_of p) ≡ letter_if (letter_of p 0) ++ letter_if (letter_of p 1) ++ letter_if (letter_of p 2) ++ letter_if (letter_of p 3)
unfolding name_of
name-letters p b h =
    rw (le-ltb 4 (length p) h)
    (four-letters _ _ _ _ (letter-below p 0 b) (letter-below p 1 b) (letter-below p 2 b) (letter-below p 3 b))

pub name-respelled : (p : List ℕ) → Bytes p → Lacks 32 p → length p ≤ 4 → letters_of (name_of p) ≡ map upper_of p
name-respelled [] b l h = name-letters [] b h ∙ rw space
name-respelled (c ∷ []) b l h = name-letters (c ∷ []) b h ∙ rw (space, letter-given c b.0 l.0)
name-respelled (c ∷ d ∷ []) b l h =
    name-letters (c ∷ d ∷ []) b h ∙ rw (space, letter-given c b.0 l.0, letter-given d b.1.0 l.1.0)
name-respelled (c ∷ d ∷ e ∷ []) b l h =
    name-letters (c ∷ d ∷ e ∷ []) b h
    ∙ rw (space, letter-given c b.0 l.0, letter-given d b.1.0 l.1.0, letter-given e b.1.1.0 l.1.1.0)
name-respelled (c ∷ d ∷ e ∷ f ∷ []) b l h =
    name-letters (c ∷ d ∷ e ∷ f ∷ []) b h
    ∙ rw (
      letter-given c b.0 l.0,
      letter-given d b.1.0 l.1.0,
      letter-given e b.1.1.0 l.1.1.0,
      letter-given f b.1.1.1.0 l.1.1.1.0,
    )
name-respelled (c ∷ d ∷ e ∷ f ∷ g ∷ p) b l h = absurd (omega arith)
