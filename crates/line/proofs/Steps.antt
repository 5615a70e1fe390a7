-- Steps of the code's way: what an Option that is None comes to, and the tests of a word. Assumes nothing.
use Prim.Native.Nat.{ℕ, ◌+◌, ◌%◌, ◌≤◌, ◌<◌}
use mathlib.Core.Path.{◌≡◌, refl, ◌∙◌, sym}
use mathlib.Core.Bool.{Bool, true, false, not, ◌&&◌, ◌||◌, false≢true}
use mathlib.Core.List.{List, [], ◌∷◌}
use native.Mathlib.Omega.{arith}
use lib.Dec.{ltb, leb}
use lib.ListN.{length}
use borrow.Author.Tests.{ltb-true, leb-true, lt-ltb, le-ltb, le-leb, not-false}
use Rattle.std.specs.Prelude.{Option, Some, None}
use Rattle.std.specs.Option.{unwrap_or}
use Rattle.choose.specs.Ranged.{bit, pick, ranged}
use Rattle.pieces.specs.Parts.{pieces_of, piece_of}
use Rattle.pieces.specs.Read.{upper_of, name_of, value_of, is_number}
use Rattle.pieces.proofs.Laws.{cases}
use Rattle.code.specs.Word.{together_of}
use Rattle.names.specs.Mnemonics.{mnemonic_of, all_mnemonics}
use Rattle.forms.specs.Forms.{form_of}
use Rattle.forms.specs.Named.{top_named, twinned}
use Rattle.forms.proofs.Laws.{twin-below}
use Rattle.line.specs.Marks.{Marks, no_marks, user_in, with_user, with_mark, marks_from}
use Rattle.line.specs.Line.{Tail, Line, tail_with, tail_of, fits_form, good_marks, fields_for, word_for, placed_of, line_of}
use Rattle.line.specs.Coded.{digit_in, NoNumber, FirstNumber, Nameless, Named}
use Rattle.line.proofs.EachOnce.{step}

-- ---- marks

-- no name is over four letters, and the number of none is no mark
pub no_name : (p : List ℕ) → (length p ≤ 4 → ⊥) → name_of p ≡ 0
unfolding name_of
no_name p h = rw (lt-ltb 4 (length p) (omega arith))

pub no_mark : (m : Marks) → (with_mark m 0).good ≡ false
unfolding with_mark with_user user_in
no_mark m = refl

-- marks that are bad stay so
pub bad-stay : (m : Marks) (ps : List (List ℕ)) → m.good ≡ false → (marks_from m ps).good ≡ false
unfolding marks_from
bad-stay m [] e = e
bad-stay m (p ∷ ps) e = bad-stay (with_mark m (name_of p)) ps ((step m (name_of p)).good ∙ rw e refl)

-- a piece, and those after it
module _ (m : Marks) {p : List ℕ} {ps rest : List (List ℕ)} (there : ps ≡ p ∷ rest) where
  pub bad-piece : (with_mark m (name_of p)).good ≡ false → (marks_from m ps).good ≡ false
  unfolding marks_from
  bad-piece e = rw there (bad-stay (with_mark m (name_of p)) rest e)

  pub next-piece : {n : Marks} → with_mark m (name_of p) ≡ n → marks_from n rest ≡ marks_from m ps
  unfolding marks_from
  next-piece e = rw (there, ← e)

pub no-piece-left : (m : Marks) (ps : List (List ℕ)) → ps ≡ [] → marks_from m ps ≡ m
unfolding marks_from
no-piece-left m ps e = rw e

-- U's digit, or 0
pub digit_said : (u : Option ℕ) → unwrap_or u 0 % 0x10 ≡ digit_in u % 0x10
digit_said None = refl
digit_said (Some u) = omega arith

-- ---- what stands after the mnemonic

pub no-number : (ps : List (List ℕ)) → ps ≡ [] → NoNumber ps
unfolding value_of
no-number ps e = rw e refl

pub no_operand : (ps : List (List ℕ)) → NoNumber ps → tail_of ps ≡ tail_with 0 0 0 ps
unfolding tail_of
no_operand ps e = rw e

number-there : (p : List ℕ) (n : ℕ) → value_of p ≡ n → n < 0x800 → is_number p ≡ true
number-there p n e h = rw e (lt-ltb n 0x800 h)

pub one-operand : {ps : List (List ℕ)} {n : ℕ} {rest : List (List ℕ)} → FirstNumber ps n rest → NoNumber rest → tail_of ps ≡ tail_with 1 n 0 rest
unfolding tail_of
one-operand {ps} {n} {rest} f e = rw (f.first, number-there f.piece n f.value f.below, e, f.value)

pub two-operands : {ps : List (List ℕ)} {n : ℕ} {rest : List (List ℕ)} {m : ℕ} {last : List (List ℕ)}
    → FirstNumber ps n rest → FirstNumber rest m last → tail_of ps ≡ tail_with 2 n m last
unfolding tail_of
two-operands {ps} {n} {rest} {m} {last} f g =
    rw (f.first, g.first, number-there f.piece n f.value f.below, number-there g.piece m g.value g.below, f.value, g.value)

-- ---- the tests of a word
alone : (fits good odd twin : Bool) → odd && not twin ≡ true → fits && (good && (not odd || twin)) ≡ false
alone fits good false twin e = absurd (false≢true e)
alone fits good true true e = absurd (false≢true e)
alone true true true false e = refl
alone true false true false e = refl
alone false good true false e = refl

unfit : (fits good odd twin : Bool) → good ≡ false → fits && (good && (not odd || twin)) ≡ false
unfit fits true odd twin e = absurd (false≢true (sym e))
unfit true false odd twin e = refl
unfit false false odd twin e = refl

one_good : (odd twin : Bool) → odd && not twin ≡ false → not odd || twin ≡ true
one_good true true e = refl
one_good true false e = absurd (false≢true (sym e))
one_good false twin e = refl

-- what doesn't fit is refused, and so is ODD where there is no twin; the rest is put together
module _ (top : ℕ) (t : Tail) where
  pub not-fitting : fits_form (form_of top) t ≡ false → word_for top t ≡ None
  unfolding word_for
  not-fitting e = rw e

  pub bad_marks : t.marks.good ≡ false → word_for top t ≡ None
  unfolding word_for
  bad_marks e = rw (unfit (fits_form (form_of top) t) t.marks.good t.marks.odd (twinned top) e)

  pub no-twin : t.marks.odd && not (twinned top) ≡ true → word_for top t ≡ None
  unfolding word_for
  no-twin e = rw (alone (fits_form (form_of top) t) t.marks.good t.marks.odd (twinned top) e)

  pub word_made : fits_form (form_of top) t ≡ true → t.marks.good ≡ true → t.marks.odd && not (twinned top) ≡ false
      → word_for top t ≡ together_of (fields_for top t)
  unfolding word_for
  word_made e g o = rw (e, g, one_good t.marks.odd (twinned top) o)

-- the last code has no twin
pub code_below : (top : ℕ) (odd : Bool) → top < 0x100 → odd && not (twinned top) ≡ false → top + bit odd < 0x100
code_below top true h e = omega (arith, twin-below top (not-false (twinned top) e))
code_below top false h e = omega arith

-- ---- a line

-- a piece that isn't there names nothing
blank : ltb (top_named (name_of [])) 0x100 ≡ false
unfolding top_named name_of upper_of ranged
blank = refl

zero-name : ltb (top_named 0) 0x100 ≡ false
unfolding top_named all_mnemonics mnemonic_of ranged
zero-name = refl

pub no-piece-named : (ps : List (List ℕ)) → ps ≡ [] → Nameless ps
no-piece-named ps e = rw e blank

pub one_piece-named : (ps : List (List ℕ)) (a : List ℕ) → ps ≡ a ∷ [] → Nameless ps
one_piece-named ps a e = rw e blank

pub long-named : (ps rest : List (List ℕ)) (a m : List ℕ) → ps ≡ a ∷ m ∷ rest → (length m ≤ 4 → ⊥) → Nameless ps
long-named ps rest a m e h = rw (e, no_name m h) zero-name

pub not-named : (ps rest : List (List ℕ)) (a m : List ℕ) (name : ℕ) → ps ≡ a ∷ m ∷ rest → name ≡ name_of m → (top_named name < 0x100 → ⊥) → Nameless ps
not-named ps rest a m name e n h = rw (e, ← n) (le-ltb (top_named name) 0x100 (omega arith))

pub line-10 : (next : ℕ) (ps : List (List ℕ)) → Nameless ps → line_of next ps ≡ Line.Bad 10
unfolding line_of
line-10 next ps e = rw e

-- a line by its parts
module _ (next : ℕ) {ps : List (List ℕ)} {a : List ℕ} {top : ℕ} {rest : List (List ℕ)} (n : Named ps a top rest) where
  pub line_parts : line_of next ps ≡ placed_of next (value_of a) (word_for top (tail_of rest))
  unfolding line_of
  line_parts = rw (n.parts, n.top-byte, lt-ltb top 0x100 n.below)

  pub line-11 : word_for top (tail_of rest) ≡ None → line_of next ps ≡ Line.Bad 11
  unfolding placed_of
  line-11 e = line_parts ∙ rw e

  line_placed : {w : ℕ} → word_for top (tail_of rest) ≡ Some w
      → line_of next ps ≡ pick (ltb (value_of a) 0x800 && leb next (value_of a)) (Line.Word (value_of a) w) (Line.Bad 12)
  unfolding placed_of
  line_placed e = line_parts ∙ rw e

  pub line-12 : {w : ℕ} → word_for top (tail_of rest) ≡ Some w → ((value_of a < 0x800) × (next ≤ value_of a) → ⊥) → line_of next ps ≡ Line.Bad 12
  line-12 e h =
      line_placed e ∙
      cases (ltb (value_of a) 0x800)
      (λ l. cases (leb next (value_of a)) (λ m. absurd (h (ltb-true _ _ l, leb-true _ _ m))) (λ m. rw (l, m)))
      (λ l. rw l)

  pub line_word : {w : ℕ} → word_for top (tail_of rest) ≡ Some w → value_of a < 0x800 → next ≤ value_of a → line_of next ps ≡ Line.Word (value_of a) w
  line_word e l m = line_placed e ∙ rw (lt-ltb (value_of a) 0x800 l, le-leb next (value_of a) m)
