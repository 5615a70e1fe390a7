-- What is read after the mnemonic of a spelled line: the operands and marks that were spelled, and the form fits them. Assumes nothing.
use Prim.Native.Nat.{ℕ, zero, suc, ◌+◌, ◌<◌, ◌≤◌}
use mathlib.Core.Path.{◌≡◌, refl, sym}
use mathlib.Core.Bool.{Bool, true, false, not, ◌||◌, false≢true}
use mathlib.Core.List.{List, ◌++◌}
use native.Mathlib.Omega.{arith}
use lib.Dec.{T, eqb, ltb}
use borrow.Author.Tests.{lt-ltb, le-leb, ltb-true, ltb-false, eqb-true, eqb-false, not-true, not-false}
use Rattle.choose.specs.Ranged.{bit, pick, ranged}
use Rattle.choose.proofs.Tests.{bit_le}
use Rattle.code.specs.CodeRows.{class_of, listed}
use Rattle.code.specs.declared.Class.{Class}
use Rattle.forms.specs.Forms.{register_form, form_in, form_of, spare_of, limit_of, first_of, second_of}
use Rattle.forms.specs.declared.Form.{Form}
use Rattle.forms.proofs.Operands.{Parted}
use Rattle.line.specs.Line.{tail_of, tail_with, fits_form}
use Rattle.pieces.specs.Parts.{piece_of}
use Rattle.pieces.specs.Read.{value_of, is_number}
use Rattle.pieces.proofs.Laws.{neither}
use Rattle.spelling.specs.Spelling.{digits_of}
use Rattle.listing_laws.proofs.Spelled.{typed, Typed, typed-given, typed-append, given, first_given, second_given, operand_pieces}
use Rattle.listing_laws.proofs.Reread.{typed-digits, number-back}

-- ---- forms

-- at most one operand doesn't have to be there, and it is the last; none has more than three digits
pub record Fair (form : Form) : Type 0 where
  pub some : 0 < form.first
  pub three-digits : form.first ≤ 3
  pub most : form.second ≤ 1
  pub all_but_one : form.second ≤ form.needed
  pub no_more : form.needed ≤ 1 + form.second

register-fair : (x : ℕ) → Fair (register_form x)
register-fair x = go (eqb x 0xFF) (eqb x 0xF0) (eqb x 0)
  where
    go : (t u v : Bool)
        → Fair
        (pick t (record { first = 2; second = 0; needed = 0; a_first = false }) (record { first = 1; second = 1; needed = 1 + bit v; a_first = u }))
    go true u v = omega arith
    go false u v = omega (arith, bit_le v)

class-fair : (k : Class) (x : ℕ) → listed k ≡ true → Fair (form_in k x)
class-fair Class.Unlisted x e = absurd (false≢true e)
class-fair Class.Jump x e = omega (arith, bit_le (eqb x 0))
class-fair Class.Conditional x e = omega arith
class-fair Class.Literal x e = omega arith
class-fair Class.Register x e = register-fair x

pub form-fair : (top : ℕ) → listed (class_of top) ≡ true → Fair (form_of top)
unfolding form_of
form-fair top e = class-fair (class_of top) (spare_of top) e

-- ---- one operand

-- an operand n of k digits: where it is spelled, it is a piece that is read as n; where it isn't, it is 0
pub record Operand (spelled : Bool) (k n : ℕ) : Type 0 where
  pub has-digits : spelled ≡ true → 0 < k
  pub piece : spelled ≡ true → T (typed (digits_of k n))
  pub read : spelled ≡ true → value_of (digits_of k n) ≡ n
  pub none : spelled ≡ false → n ≡ 0
  pub low : n < 0x800

limit-le : (k : ℕ) → limit_of k ≤ 0x800
unfolding limit_of ranged
limit-le k = go (ltb k 1) (ltb k 2) (ltb k 3)
  where
    go : (t u v : Bool) → pick t 1 (pick u 0x10 (pick v 0x100 0x800)) ≤ 0x800
    go true u v = omega arith
    go false true v = omega arith
    go false false true = omega arith
    go false false false = omega arith

some-digits : (k n : ℕ) → n < limit_of k → (n ≡ 0 → ⊥) → 0 < k
unfolding limit_of ranged
some-digits zero n l h = absurd (h (omega arith))
some-digits (suc k) n l h = omega arith

module _ (i needed k n : ℕ) (l : n < limit_of k) (wide : i < needed → 0 < k) where
  has_width : (ltb i needed || not (eqb n 0)) ≡ true → 0 < k
  has_width = go (ltb i needed) refl
    where
      go : (t : Bool) → ltb i needed ≡ t → (t || not (eqb n 0)) ≡ true → 0 < k
      go true e h = wide (ltb-true i needed e)
      go false e h = some-digits k n l (eqb-false n 0 (not-true (eqb n 0) h))

  operand : Operand (ltb i needed || not (eqb n 0)) k n
  operand =
      record {
        has-digits = has_width;
        piece = λ e. typed-digits k n (has_width e);
        read = λ e. number-back k n (has_width e) l;
        none = λ e. eqb-true n 0 (not-false (eqb n 0) (neither (ltb i needed) (not (eqb n 0)) e).1);
        low = omega (arith, limit-le k);
      }

-- ---- both operands and the marks

is-number : (p : List ℕ) (n : ℕ) → value_of p ≡ n → n < 0x800 → is_number p ≡ true
is-number p n e h = rw e (lt-ltb n 0x800 h)

tail-back : (g h : Bool) (j k x y : ℕ) → Operand g j x → Operand h k y → (g ≡ false → h ≡ false) → (ms : List (List ℕ))
    → is_number (piece_of ms 0) ≡ false → tail_of (given g (digits_of j x) ++ given h (digits_of k y) ++ ms) ≡ tail_with (bit g + bit h) x y ms
unfolding tail_of
tail-back true true j k x y a b alone ms m =
    rw (is-number _ x (a.read refl) a.low, is-number _ y (b.read refl) b.low, a.read refl, b.read refl)
tail-back true false j k x y a b alone ms m = rw (is-number _ x (a.read refl) a.low, m, a.read refl, b.none refl)
tail-back false true j k x y a b alone ms m = absurd (false≢true (sym (alone refl)))
tail-back false false j k x y a b alone ms m = rw (m, a.none refl, b.none refl)

count-needed : (needed : ℕ) (b c : Bool) → needed ≤ 2 → needed ≤ bit (ltb 0 needed || b) + bit (ltb 1 needed || c)
count-needed zero b c h = omega arith
count-needed (suc zero) b c h = omega arith
count-needed (suc (suc zero)) b c h = omega arith
count-needed (suc (suc (suc n))) b c h = absurd (omega arith)

bit-at-most : (t : Bool) (n : ℕ) → (t ≡ true → 0 < n) → bit t ≤ n
bit-at-most true n h = h refl
bit-at-most false n h = omega arith

-- how many operands are spelled
abbrev pub spelled_count : Form → ℕ → ℕ
spelled_count form low = bit (first_given form low) + bit (second_given form low)

module _ (form : Form) (low : ℕ) (fair : Fair form) (range : Parted form low) where
  first-operand : Operand (first_given form low) form.first (first_of form low)
  first-operand = operand 0 form.needed form.first (first_of form low) range.first (λ h. fair.some)

  second-operand : Operand (second_given form low) form.second (second_of form low)
  second-operand = operand 1 form.needed form.second (second_of form low) range.second (λ h. omega (arith, fair.no_more))

  second-after : first_given form low ≡ false → second_given form low ≡ false
  second-after e = go (second_given form low) refl
    where
      go : (t : Bool) → second_given form low ≡ t → t ≡ false
      go true q =
          let none = ltb-false 0 form.needed (neither (ltb 0 form.needed) _ e).0 in
          absurd (omega (arith, second-operand.has-digits q, fair.all_but_one))
      go false q = refl

  pub operands-typed : Typed (operand_pieces form low)
  operands-typed =
      typed-append (given (first_given form low) (digits_of form.first (first_of form low))) _
      (typed-given (first_given form low) _ first-operand.piece)
      (typed-given (second_given form low) _ second-operand.piece)

  pub operands-back : (ms : List (List ℕ)) → is_number (piece_of ms 0) ≡ false
      → tail_of (operand_pieces form low ++ ms) ≡ tail_with (spelled_count form low) (first_of form low) (second_of form low) ms
  operands-back ms m = tail-back _ _ _ _ _ _ first-operand second-operand second-after ms m

  pub operands-fit : (ms : List (List ℕ)) → fits_form form (tail_with (spelled_count form low) (first_of form low) (second_of form low) ms) ≡ true
  unfolding fits_form
  operands-fit ms =
      let two : form.needed ≤ 2 = omega (arith, fair.most, fair.no_more) in
      let enough = count-needed form.needed (not (eqb (first_of form low) 0)) (not (eqb (second_of form low) 0)) two in
      let second = bit-at-most (second_given form low) form.second second-operand.has-digits in
      let few : spelled_count form low ≤ 1 + form.second = omega (arith, bit_le (first_given form low)) in
      rw (le-leb _ _ enough, le-leb _ _ few, lt-ltb _ _ range.first, lt-ltb _ _ range.second)
