-- What is read from a spelled piece: digits give their number, letters their name, and marks what they mark. Assumes nothing.
use Prim.Native.Nat.{ℕ, zero, suc, ◌/◌, ◌%◌, ◌<◌}
use Prim.Native.String.{String}
use mathlib.Core.Path.{◌≡◌, refl}
use mathlib.Core.Bool.{Bool, true, false, ◌&&◌, not, ◌||◌}
use mathlib.Core.List.{List, [], ◌∷◌, ◌++◌}
use native.Mathlib.Nat.{mod-mod}
use native.Mathlib.Omega.{arith}
use lib.Dec.{T, eqb, eqb→eq, ltb}
use lib.ListN.{length}
use borrow.Author.Tests.{lt-ltb, le-ltb, eqb-true, not-true}
use Rattle.choose.specs.Ranged.{pick, ranged}
use Rattle.choose.proofs.Table.{below}
use Rattle.choose.proofs.Tests.{both_left, both_right, holds, both_true}
use Rattle.code.specs.CodeRows.{class_of, listed}
use Rattle.forms.specs.Forms.{limit_of}
use Rattle.line.specs.Marks.{Marks, no_marks, user_in, with_user, with_mark, marks_from}
use Rattle.names.specs.Mnemonics.{mnemonic_of, letters_from}
use Rattle.pieces.specs.Parts.{piece_of}
use Rattle.pieces.proofs.Laws.{neither}
use Rattle.pieces.specs.Read.{upper_of, name_of, digit_of, digits, value_from, value_of, is_number}
use Rattle.spelling.specs.Spelling.{hex_digit, digit_if, digits_of, letters_of, user_name}
use Rattle.listing_laws.proofs.Spelled.{typed, Typed, typed-given, typed-append, given, mark_named, mark_pieces}

-- ---- digits

digit-same : (n : ℕ) → hex_digit (n % 0x10) ≡ hex_digit n
unfolding hex_digit
digit-same n = rw (mod-mod n 0x10)

-- each of the sixteen is past the space, and read back
abbrev good_digit : ℕ → Bool
good_digit n = ltb 0x20 (hex_digit n) && eqb (digit_of (hex_digit n)) n

good-digit : (n : ℕ) → T (ltb 0x20 (hex_digit n)) × (digit_of (hex_digit n) ≡ n % 0x10)
unfolding hex_digit digit_of ranged
good-digit n =
    let all = rw digit-same at (below 0x10 good_digit tt (n % 0x10) (omega arith)) in
    (both_left (ltb 0x20 (hex_digit n)) _ all, eqb→eq _ _ (both_right (ltb 0x20 (hex_digit n)) _ all))

digit-inked : (n : ℕ) → ltb 0x20 (hex_digit n) ≡ true
digit-inked n = holds _ (good-digit n).0

digit-back : (n : ℕ) → digit_of (hex_digit n) ≡ n % 0x10
digit-back n = (good-digit n).1

digit_low : (n : ℕ) → ltb (digit_of (hex_digit n)) 0x10 ≡ true
digit_low n = rw digit-back (lt-ltb (n % 0x10) 0x10 (omega arith))

pub typed-digits : (k n : ℕ) → 0 < k → T (typed (digits_of k n))
unfolding digits_of
typed-digits k n h = rw (lt-ltb 0 k h) (go (ltb 2 k) (ltb 1 k))
  where
    go : (t u : Bool) → T (typed (digit_if t (n / 0x100) ++ digit_if u (n / 0x10) ++ (hex_digit n ∷ [])))
    go true true = simp digit-inked tt
    go true false = simp digit-inked tt
    go false true = simp digit-inked tt
    go false false = simp digit-inked tt

number_is : (p : List ℕ) (n : ℕ) → 0 < length p → digits p ≡ true → value_from 0 p ≡ n → n < 0x800 → value_of p ≡ n
unfolding value_of
number_is p n some all value h = rw (lt-ltb 0 (length p) some, all, value, lt-ltb n 0x800 h)

pub number-back : (k n : ℕ) → 0 < k → n < limit_of k → value_of (digits_of k n) ≡ n
unfolding digits_of limit_of ranged
number-back zero n h l = absurd (omega arith)
number-back (suc zero) n h l =
    number_is (digits_of 1 n) n (omega arith) (simp digit_low) (simp digit-back (omega arith)) (omega arith)
number-back (suc (suc zero)) n h l =
    number_is (digits_of 2 n) n (omega arith) (simp digit_low) (simp digit-back (omega arith)) (omega arith)
number-back (suc (suc (suc k))) n h l =
    let j = suc (suc (suc k)) in
    let high : n < 0x800 = rw (le-ltb j 1 (omega arith), le-ltb j 2 (omega arith), le-ltb j 3 (omega arith)) at l in
    rw (lt-ltb 2 j (omega arith), lt-ltb 1 j (omega arith), lt-ltb 0 j h)
    (number_is (digits_of 3 n) n (omega arith) (simp digit_low) (simp digit-back (omega arith)) high)

-- ---- letters

-- the mnemonic of each listed code is a piece, and read back
abbrev good_name : ℕ → Bool
good_name name = typed (letters_of name) && eqb (name_of (letters_of name)) name

pub good-mnemonic : (code : ℕ) → code < 0x100 → listed (class_of code) ≡ true
    → T (typed (letters_of (mnemonic_of code))) × (name_of (letters_of (mnemonic_of code)) ≡ mnemonic_of code)
unfolding mnemonic_of letters_of name_of upper_of class_of ranged
good-mnemonic code h e =
    let all = rw e at (below 0x100 (λ x. pick (listed (class_of x)) (good_name (mnemonic_of x)) true) tt code h) in
    (both_left (typed (letters_of (mnemonic_of code))) _ all, eqb→eq _ _ (both_right (typed (letters_of (mnemonic_of code))) _ all))

-- ---- marks

-- U with a digit is a piece, no number, no other mark, and gives its digit
pub record UserPiece (user : ℕ) (p : List ℕ) : Type 0 where
  pub piece : T (typed p)
  pub no_number : is_number p ≡ false
  pub read : (m : Marks) → with_mark m (name_of p) ≡ with_user m user

abbrev other_mark : ℕ → Bool
other_mark name = eqb name (letters_from 0 4 "ODD") || eqb name (letters_from 0 4 "RR") || eqb name (letters_from 0 4 "RNI")

abbrev good_user : ℕ → List ℕ → Bool
good_user user p = typed p && (not (is_number p) && (not (other_mark (name_of p)) && eqb (user_in (name_of p)) user))

good-user : (user : ℕ) → user < 0x10 → T (good_user user (letters_of (user_name user)))
unfolding user_name hex_digit letters_of name_of upper_of value_of digit_of user_in ranged
good-user user h = below 0x10 (λ u. good_user u (letters_of (user_name u))) tt user h

user-read : (user name : ℕ) → other_mark name ≡ false → user_in name ≡ user → (m : Marks) → with_mark m name ≡ with_user m user
unfolding with_mark
user-read user name e u m =
    let is : String → Bool = λ s. eqb name (letters_from 0 4 s) in
    let (two, rni) = neither (is "ODD" || is "RR") (is "RNI") e in
    let (odd, rr) = neither (is "ODD") (is "RR") two in
    rw (odd, rr, rni, u)

pub user-piece : (user : ℕ) → user < 0x10 → UserPiece user (letters_of (user_name user))
user-piece user h =
    let p = letters_of (user_name user) in
    let (piece, rest) = both_true (typed p) _ (holds _ (good-user user h)) in
    let (none, more) = both_true (not (is_number p)) _ rest in
    let (other, digit) = both_true (not (other_mark (name_of p))) _ more in
    record {
      piece = rw piece tt;
      no_number = not-true _ none;
      read = user-read user (name_of p) (not-true _ other) (eqb-true _ _ digit);
    }

-- good marks; 0x10 stands for no U
abbrev pub marked : Bool → Bool → Bool → ℕ → Marks
marked odd rr rni user = record { good = true; odd = odd; load_rr = rr; rni = rni; user = user }

marks-append : (m : Marks) (ps qs : List (List ℕ)) → marks_from m (ps ++ qs) ≡ marks_from (marks_from m ps) qs
unfolding marks_from
marks-append m [] qs = refl
marks-append m (p ∷ ps) qs = marks-append (with_mark m (name_of p)) ps qs

read-odd : (t : Bool) → marks_from no_marks (given t (mark_named "ODD")) ≡ marked t false false 0x10
unfolding marks_from with_mark name_of letters_of upper_of ranged
read-odd true = refl
read-odd false = refl

read-rr : (odd t : Bool) → marks_from (marked odd false false 0x10) (given t (mark_named "RR")) ≡ marked odd t false 0x10
unfolding marks_from with_mark name_of letters_of upper_of ranged
read-rr odd true = refl
read-rr odd false = refl

read-rni : (odd rr t : Bool) → marks_from (marked odd rr false 0x10) (given t (mark_named "RNI")) ≡ marked odd rr t 0x10
unfolding marks_from with_mark name_of letters_of upper_of ranged
read-rni odd rr true = refl
read-rni odd rr false = refl

read-user : (odd rr rni t : Bool) (user : ℕ) (p : List ℕ) → user < 0x10 → UserPiece user p
    → marks_from (marked odd rr rni 0x10) (given t p) ≡ marked odd rr rni (pick t user 0x10)
unfolding marks_from with_user
read-user odd rr rni true user p h u = rw (u.read (marked odd rr rni 0x10), lt-ltb user 0x10 h)
read-user odd rr rni false user p h u = refl

-- the marks of a spelled line, read again
pub marks-back : (odd rr rni : Bool) (user : ℕ) → user < 0x10
    → marks_from no_marks (mark_pieces odd rr rni user) ≡ marked odd rr rni (pick (not (eqb user 0)) user 0x10)
marks-back odd rr rni user h =
    let t = not (eqb user 0) in
    simp (marks-append, read-odd, read-rr, read-rni) (read-user odd rr rni t user (letters_of (user_name user)) h (user-piece user h))

-- each is a piece, and the first is no number, nor is what stands there if none is
pub typed-marks : (odd rr rni : Bool) (user : ℕ) → user < 0x10 → Typed (mark_pieces odd rr rni user)
unfolding letters_of
typed-marks odd rr rni user h =
    let first = given odd (mark_named "ODD") in
    let second = given rr (mark_named "RR") in
    let third = given rni (mark_named "RNI") in
    let two = typed-append first second (typed-given odd (mark_named "ODD") (λ e. tt)) (typed-given rr (mark_named "RR") (λ e. tt)) in
    let three = typed-append (first ++ second) third two (typed-given rni (mark_named "RNI") (λ e. tt)) in
    typed-append (first ++ second ++ third) _ three (typed-given (not (eqb user 0)) _ (λ e. (user-piece user h).piece))

pub mark-first : (odd rr rni : Bool) (user : ℕ) → user < 0x10 → is_number (piece_of (mark_pieces odd rr rni user) 0) ≡ false
unfolding letters_of value_of digit_of ranged
mark-first true rr rni user h = refl
mark-first false true rni user h = refl
mark-first false false true user h = refl
mark-first false false false user h = go (not (eqb user 0))
  where
    go : (t : Bool) → is_number (piece_of (given t (letters_of (user_name user))) 0) ≡ false
    go true = (user-piece user h).no_number
    go false = refl
