-- The line of a word is the line that was typed for it, respelled: piece by piece, digits, letters, operands and marks. Assumes nothing.
use Prim.Native.Nat.{ℕ, ◌+◌, ◌≤◌, ◌<◌}
use mathlib.Core.Path.{◌≡◌, refl, ◌∙◌}
use mathlib.Core.Bool.{Bool, true, false, not, ◌||◌}
use mathlib.Core.List.{List, ◌++◌}
use native.Mathlib.Nat.{add-zero, mod-eq_of_lt}
use native.Mathlib.Omega.{arith}
use lib.Dec.{eqb, ltb}
use lib.ListN.{length, drop}
use borrow.Author.Tests.{ltb-true, lt-ltb, le-ltb, ltb-false}
use Rattle.std.specs.Prelude.{Ok}
use Rattle.choose.specs.Ranged.{bit, pick, ranged}
use Rattle.choose.proofs.Tests.{both_true}
use Rattle.code.specs.CodeRows.{class_of, listed}
use Rattle.code.specs.Word.{apart_of, operands_in, low_of}
use Rattle.code.proofs.Shape.{low-own}
use Rattle.code.proofs.Laws.{together-apart}
use Rattle.forms.specs.Forms.{form_of, joined_of}
use Rattle.forms.specs.Named.{top_named, twinned, odd_of}
use Rattle.forms.specs.declared.Form.{Form}
use Rattle.forms.proofs.Laws.{twin}
use Rattle.forms.proofs.Names.{names}
use Rattle.forms.proofs.Operands.{joined, form-spans}
use Rattle.line.specs.Line.{Tail, tail_with, tail_of, fields_for}
use Rattle.listing.specs.Listed.{word_line}
use Rattle.names.specs.Mnemonics.{mnemonic_of, all_mnemonics}
use Rattle.pieces.specs.Parts.{piece_of}
use Rattle.pieces.specs.Read.{name_of, value_of, is_number}
use Rattle.spelling.specs.Spelling.{operand_of, operands_of, marks_of, spelled_of}
use Rattle.listing_laws.specs.Fixed.{operand_fixed, operands_fixed, marks_fixed, line_fixed}
use Rattle.listing_laws.proofs.Respelled.{digits-respelled, name-respelled}
use Rattle.listing_laws.proofs.MarksFixed.{Plain, plain-drop, plain-piece, marks_for, marks-respelled}
use Rattle.listing_laws.proofs.Tail.{form-fair}
use Rattle.line.proofs.Laws.{top_in, tail_in, Taken, Fitting}

-- ---- the mnemonic

-- what the typed code and its odd twin have in common
record Coded (top : ℕ) (odd : Bool) : Type 0 where
  is_odd : odd_of (top + bit odd) ≡ odd
  form : form_of (top + bit odd) ≡ form_of top
  mnemonic : mnemonic_of (top + bit odd) ≡ mnemonic_of top

coded : (top : ℕ) (odd : Bool) → odd_of top ≡ false → (not odd || twinned top) ≡ true → Coded top odd
coded top true even e = let t = twin top e in record { is_odd = t.odd; form = t.form; mnemonic = t.mnemonic }
coded top false even e = let same = add-zero top in record { is_odd = rw same even; form = rw same; mnemonic = rw same }

no_name : top_named 0 ≡ 0x100
unfolding top_named all_mnemonics mnemonic_of ranged
no_name = refl

-- a piece that names a top byte isn't longer than four letters
name-short : (p : List ℕ) → top_named (name_of p) < 0x100 → length p ≤ 4
unfolding name_of
name-short p h = go (ltb 4 (length p)) refl
  where
    go : (t : Bool) → ltb 4 (length p) ≡ t → length p ≤ 4
    go true e = absurd (omega (arith, rw (e, no_name) at h))
    go false e = ltb-false 4 (length p) e

-- ---- operands

-- an operand that is there is spelled from its own digits
operand-there : (form : Form) (t : Tail) (i k : ℕ) (p : List ℕ) → i < t.count → k ≤ 3 → value_of p < 0x800
    → operand_of (ltb i form.needed || not (eqb (value_of p) 0)) k (value_of p) ≡ operand_fixed form t i k p
operand-there form t i k p h g l = rw (lt-ltb i t.count h, digits-respelled k p g l)

-- and one that isn't there is left out
operand-missing : (form : Form) (t : Tail) (i k : ℕ) (p : List ℕ) → t.count ≤ i → form.needed ≤ t.count
    → operand_of (ltb i form.needed || not (eqb 0 0)) k 0 ≡ operand_fixed form t i k p
operand-missing form t i k p h g = rw (le-ltb i t.count h, le-ltb i form.needed (omega arith))

-- the three ways in which the operands end
data Read (ps : List (List ℕ)) : Tail → Type 0 where
  none : Read ps (tail_with 0 0 0 ps)
  one : value_of (piece_of ps 0) < 0x800 → Read ps (tail_with 1 (value_of (piece_of ps 0)) 0 (drop 1 ps))
  two : value_of (piece_of ps 0) < 0x800 → value_of (piece_of ps 1) < 0x800
      → Read ps (tail_with 2 (value_of (piece_of ps 0)) (value_of (piece_of ps 1)) (drop 2 ps))

read : (ps : List (List ℕ)) → Read ps (tail_of ps)
unfolding tail_of
read ps = go (is_number (piece_of ps 0)) (is_number (piece_of ps 1)) refl refl
  where
    go : (a b : Bool) → is_number (piece_of ps 0) ≡ a → is_number (piece_of ps 1) ≡ b
        → Read ps
        (pick a
        (pick b (tail_with 2 (value_of (piece_of ps 0)) (value_of (piece_of ps 1)) (drop 2 ps)) (tail_with 1 (value_of (piece_of ps 0)) 0 (drop 1 ps)))
        (tail_with 0 0 0 ps))
    go true true p q = two (ltb-true _ _ p) (ltb-true _ _ q)
    go true false p q = one (ltb-true _ _ p)
    go false b p q = none

-- both of them, in each of the three ways
both-operands : (form : Form) (ps : List (List ℕ)) (t : Tail) → Read ps t → form.first ≤ 3 → form.second ≤ 3 → form.needed ≤ t.count
    → operand_of (ltb 0 form.needed || not (eqb t.first 0)) form.first t.first
    ++ operand_of (ltb 1 form.needed || not (eqb t.second 0)) form.second t.second
    ≡ operand_fixed form t 0 form.first (piece_of ps 0) ++ operand_fixed form t 1 form.second (piece_of ps 1)
both-operands form ps t none h g n =
    rw (operand-missing form t 0 form.first (piece_of ps 0) (omega arith) n, operand-missing form t 1 form.second (piece_of ps 1) (omega arith) n)
both-operands form ps t (one a) h g n =
    rw (operand-there form t 0 form.first (piece_of ps 0) (omega arith) h a, operand-missing form t 1 form.second (piece_of ps 1) (omega arith) n)
both-operands form ps t (two a b) h g n =
    rw (operand-there form t 0 form.first (piece_of ps 0) (omega arith) h a, operand-there form t 1 form.second (piece_of ps 1) (omega arith) g b)

-- the operands of a word are those that were typed
operands-respelled : (top : ℕ) (ps : List (List ℕ)) → listed (class_of top) ≡ true → Fitting (form_of top) (tail_of ps)
    → operands_of (form_of top) (low_of (operands_in (class_of top) (joined_of (form_of top) (tail_of ps).first (tail_of ps).second)))
    ≡ operands_fixed (form_of top) ps
unfolding operands_of operands_fixed
operands-respelled top ps l f =
    let t = tail_of ps in
    let j = joined (form-spans top l) t.first t.second f.first f.second in
    let low : low_of (operands_in (class_of top) (joined_of (form_of top) t.first t.second)) ≡ joined_of (form_of top) t.first t.second =
    low-own (class_of top) _ l ∙ mod-eq_of_lt j.below in
    let fair = form-fair top l in
    rw (low, j.first, j.second) (both-operands (form_of top) ps t (read ps) fair.three-digits (omega (arith, fair.most)) f.given)

-- ---- marks

marks-after : (ps : List (List ℕ)) {t : Tail} → Read ps t → Plain ps → t.marks.good ≡ true → marks_for t.marks ≡ marks_fixed (drop t.count ps)
marks-after ps none b good = marks-respelled ps b good
marks-after ps (one h) b good = marks-respelled (drop 1 ps) (plain-drop 1 ps b) good
marks-after ps (two h g) b good = marks-respelled (drop 2 ps) (plain-drop 2 ps b) good

-- ---- the line
module _ (next : ℕ) (ps : List (List ℕ)) (a w : ℕ) (t : Taken next ps a w) where
  pub comes-apart : apart_of w ≡ Ok (fields_for (top_in ps) (tail_in ps))
  comes-apart = together-apart _ w t.whole

  pub line-respelled : Plain ps → word_line a w ≡ line_fixed ps
  unfolding word_line spelled_of line_fixed marks_of
  line-respelled b =
      let (good, odd) = both_true (tail_in ps).marks.good _ t.marked in
      let (bytes, lacks) = plain-piece ps 1 b in
      let n = names (name_of (piece_of ps 1)) t.named in
      let c = coded (top_in ps) (tail_in ps).marks.odd n.even odd in
      rw (
        comes-apart,
        c.mnemonic,
        n.mnemonic,
        name-respelled (piece_of ps 1) bytes lacks (name-short (piece_of ps 1) t.named),
        c.form,
        c.is_odd,
        operands-respelled (top_in ps) (drop 2 ps) n.listed-top t.fits,
        marks-after (drop 2 ps) (read (drop 2 ps)) (plain-drop 2 ps b) good,
        ← t.address,
        digits-respelled 3 (piece_of ps 0) (omega arith) (rw t.address t.below),
      )
