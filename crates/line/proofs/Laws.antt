-- A line is refused with 10, 11 or 12 exactly where the paper says so; and what holds of a line that gives a word. Assumes nothing.
use Prim.Native.Nat.{ℕ, ◌+◌, ◌%◌, ◌≤◌, ◌<◌}
use mathlib.Core.Path.{◌≡◌, refl, ◌∙◌, sym, ap}
use mathlib.Core.Bool.{Bool, true, false, not, ◌&&◌, ◌||◌, and-false}
use mathlib.Core.List.{List}
use mathlib.Core.Logic.{◌↔◌, ◌⊎◌, inl, inr, ⊎_elim}
use native.Mathlib.Nat.{add-zero}
use native.Mathlib.Omega.{arith}
use lib.Dec.{ltb, leb}
use lib.ListN.{drop}
use borrow.Author.Tests.{ltb-true, ltb-false, leb-true, leb-false, lt-ltb, le-ltb, le-leb, lt-leb, eq-eqb}
use Rattle.std.specs.Prelude.{Some}
use Rattle.choose.specs.Ranged.{bit, pick}
use Rattle.choose.proofs.Tests.{both_true, three}
use Rattle.code.specs.CodeRows.{class_of, class_number, listed}
use Rattle.code.specs.Word.{code_in, code_of, well_formed, word_of, together_of}
use Rattle.code.specs.declared.Class.{Class}
use Rattle.code.proofs.Shape.{fits-own}
use Rattle.names.specs.Mnemonics.{mnemonic_of}
use Rattle.forms.specs.Forms.{form_of, limit_of}
use Rattle.forms.specs.Named.{top_named, twinned}
use Rattle.forms.specs.declared.Form.{Form}
use Rattle.forms.proofs.Laws.{twin, twin-register}
use Rattle.forms.proofs.Names.{names, named-first}
use Rattle.pieces.specs.Parts.{piece_of}
use Rattle.pieces.specs.Read.{name_of, value_of}
use Rattle.pieces.proofs.Laws.{cases, number-le}
use Rattle.line.specs.Line.{Line, Tail, tail_of, fits_form, good_marks, fields_for, word_for, placed_of, line_of}

-- the address, the top byte that the mnemonic names, and what stands after it
abbrev pub address_in : List (List ℕ) → ℕ
address_in ps = value_of (piece_of ps 0)

abbrev pub top_in : List (List ℕ) → ℕ
top_in ps = top_named (name_of (piece_of ps 1))

abbrev pub tail_in : List (List ℕ) → Tail
tail_in ps = tail_of (drop 2 ps)

-- operands and marks go with the mnemonic
abbrev pub fitting : List (List ℕ) → Bool
fitting ps = fits_form (form_of (top_in ps)) (tail_in ps) && good_marks (top_in ps) (tail_in ps)

-- ---- a mnemonic and good marks always give a word

-- the code with its mark has the class of the first, and is the code of itself
own_code : (top : ℕ) (odd : Bool) → code_of top ≡ top → not odd || twinned top ≡ true
    → (class_of top ≡ class_of (top + bit odd)) × (code_in (class_of top) (top + bit odd) ≡ top + bit odd)
unfolding code_of
own_code top true own e = (sym (twin top e).class, rw (twin-register top e))
own_code top false own e = rw (add-zero top) (refl, own)

pub together-fine : (name : ℕ) (t : Tail) → top_named name < 0x100 → good_marks (top_named name) t ≡ true
    → together_of (fields_for (top_named name) t) ≡ Some (word_of (fields_for (top_named name) t))
unfolding together_of well_formed
together-fine name t h e =
    let n = names name h in
    let (class, own) = own_code (top_named name) t.marks.odd n.own (both_true t.marks.good _ e).1 in
    rw (
      eq-eqb _ _ (ap class_number class),
      eq-eqb _ _ own,
      fits-own _ _ n.listed-top,
      lt-ltb (t.marks.user % 0x10) 0x10 (omega arith),
    )

-- ---- the tests of a line, in their order

abbrev placed : ℕ → List (List ℕ) → Bool
placed next ps = ltb (address_in ps) 0x800 && leb next (address_in ps)

abbrev pub word_in : List (List ℕ) → ℕ
word_in ps = word_of (fields_for (top_in ps) (tail_in ps))

abbrev by_tests : Bool → Bool → Bool → ℕ → ℕ → Line
by_tests named fits place a w = pick named (pick fits (pick place (Line.Word a w) (Line.Bad 12)) (Line.Bad 11)) (Line.Bad 10)

line-tests : (next : ℕ) (ps : List (List ℕ))
    → line_of next ps ≡ by_tests (ltb (top_in ps) 0x100) (fitting ps) (placed next ps) (address_in ps) (word_in ps)
unfolding line_of word_for placed_of
line-tests next ps =
    cases (ltb (top_in ps) 0x100)
    (λ h.
    rw h
    (cases (fitting ps)
    (λ e. rw (e, together-fine _ (tail_in ps) (ltb-true _ _ h) (both_true (fits_form (form_of (top_in ps)) (tail_in ps)) _ e).1))
    (λ e. rw e)))
    (λ h. rw h)

-- which tests held
abbrev answer_in : Line → ℕ
answer_in (Line.Bad n) = n
answer_in (Line.Word a w) = 0

is-10 : (n f p : Bool) (a w : ℕ) → by_tests n f p a w ≡ Line.Bad 10 → n ≡ false
is-10 false f p a w e = refl
is-10 true false p a w e = absurd (omega (arith, ap answer_in e))
is-10 true true false a w e = absurd (omega (arith, ap answer_in e))
is-10 true true true a w e = absurd (omega (arith, ap answer_in e))

is-11 : (n f p : Bool) (a w : ℕ) → by_tests n f p a w ≡ Line.Bad 11 → (n ≡ true) × (f ≡ false)
is-11 true false p a w e = (refl, refl)
is-11 false f p a w e = absurd (omega (arith, ap answer_in e))
is-11 true true false a w e = absurd (omega (arith, ap answer_in e))
is-11 true true true a w e = absurd (omega (arith, ap answer_in e))

is-12 : (n f p : Bool) (a w : ℕ) → by_tests n f p a w ≡ Line.Bad 12 → (n ≡ true) × (f ≡ true) × (p ≡ false)
is-12 true true false a w e = (refl, refl, refl)
is-12 false f p a w e = absurd (omega (arith, ap answer_in e))
is-12 true false p a w e = absurd (omega (arith, ap answer_in e))
is-12 true true true a w e = absurd (omega (arith, ap answer_in e))

-- a bad line's number is one of these
pub data Number : ℕ → Type 0 where
  mnemonic : Number 10
  operand : Number 11
  address : Number 12

is-bad : (n f p : Bool) (a w m : ℕ) → by_tests n f p a w ≡ Line.Bad m → Number m
is-bad false f p a w m e = rw (ap answer_in e) at mnemonic
is-bad true false p a w m e = rw (ap answer_in e) at operand
is-bad true true false a w m e = rw (ap answer_in e) at address
is-bad true true true a w m e = let z : ◌≡◌ {A = ℕ} 0 1 = cc in absurd (omega arith)

pub bad-number : (next : ℕ) (ps : List (List ℕ)) (m : ℕ) → line_of next ps ≡ Line.Bad m → Number m
bad-number next ps m e =
    is-bad (ltb (top_in ps) 0x100) (fitting ps) (placed next ps) (address_in ps) (word_in ps) m (sym (line-tests next ps) ∙ e)

pub not-zero : {n : ℕ} → Number n → n ≡ 0 → ⊥
not-zero mnemonic e = omega arith
not-zero operand e = omega arith
not-zero address e = omega arith

is_word_lem : (n f p : Bool) (a w x y : ℕ) → by_tests n f p a w ≡ Line.Word x y → (n ≡ true) × (f ≡ true) × (p ≡ true) × (a ≡ x) × (w ≡ y)
is_word_lem true true true a w x y e = (refl, refl, refl, (cc), (cc))
is_word_lem false f p a w x y e = absurd (omega (arith, ap answer_in e))
is_word_lem true false p a w x y e = absurd (omega (arith, ap answer_in e))
is_word_lem true true false a w x y e = absurd (omega (arith, ap answer_in e))

-- ---- 10: "unknown or absent mnemonic"

code-le : (k : Class) (top : ℕ) → code_in k top ≤ top
code-le Class.Unlisted top = omega arith
code-le Class.Jump top = omega arith
code-le Class.Conditional top = omega arith
code-le Class.Literal top = omega arith
code-le Class.Register top = omega arith

-- a mnemonic of a listed code names one
named-below : (name top : ℕ) → top < 0x100 → listed (class_of top) ≡ true → mnemonic_of top ≡ name → top_named name < 0x100
unfolding code_of
named-below name top h l m = omega (arith, rw m at (named-first top h l), code-le (class_of top) top)

pub bad-10 : (next : ℕ) (ps : List (List ℕ))
    → (line_of next ps ≡ Line.Bad 10)
    ↔ ((top : ℕ) → top < 0x100 → listed (class_of top) ≡ true → mnemonic_of top ≡ name_of (piece_of ps 1) → ⊥)
bad-10 next ps = (
  (λ e top h l m.
      let none = is-10 (ltb (top_in ps) 0x100) (fitting ps) (placed next ps) (address_in ps) (word_in ps) (sym (line-tests next ps) ∙ e) in
      omega (arith, ltb-false (top_in ps) 0x100 none, named-below (name_of (piece_of ps 1)) top h l m)),
  (λ none.
      cases (ltb (top_in ps) 0x100)
      (λ e. let n = names (name_of (piece_of ps 1)) (ltb-true _ _ e) in absurd (none (top_in ps) (ltb-true _ _ e) n.listed-top n.mnemonic))
      (λ e. line-tests next ps ∙ rw e)),
)

-- ---- 11: "operand or mark missing, extra or out of range"
pub bad-11 : (next : ℕ) (ps : List (List ℕ)) → (line_of next ps ≡ Line.Bad 11) ↔ (top_in ps < 0x100) × (fitting ps ≡ false)
bad-11 next ps = (
  (λ e.
      let (named, misfit) = is-11 (ltb (top_in ps) 0x100) (fitting ps) (placed next ps) (address_in ps) (word_in ps) (sym (line-tests next ps) ∙ e) in
      (ltb-true _ _ named, misfit)),
  (λ h. line-tests next ps ∙ rw (lt-ltb _ _ h.0, h.1)),
)

-- ---- 12: "address not hexadecimal, not rising or over 2,047"
misplaced : (next a : ℕ) → a ≤ 0x800 → (ltb a 0x800 && leb next a ≡ false) ↔ (a ≡ 0x800) ⊎ (a < next)
misplaced next a h = (
  (λ e. cases (ltb a 0x800) (λ l. inr (leb-false next a (rw l at e))) (λ l. inl (omega (arith, ltb-false a 0x800 l)))),
  ⊎_elim (λ e. rw (le-ltb a 0x800 (omega arith))) (λ l. rw (lt-leb next a l) (and-false (ltb a 0x800))),
)

pub bad-12 : (next : ℕ) (ps : List (List ℕ))
    → (line_of next ps ≡ Line.Bad 12) ↔ (top_in ps < 0x100) × (fitting ps ≡ true) × ((address_in ps ≡ 0x800) ⊎ (address_in ps < next))
bad-12 next ps =
    let (says, said) = misplaced next (address_in ps) (number-le (piece_of ps 0)) in (
      (λ e.
          let (named, fits, place) = is-12 (ltb (top_in ps) 0x100) (fitting ps) (placed next ps) (address_in ps) (word_in ps) (sym (line-tests next ps) ∙ e) in
          (ltb-true _ _ named, fits, says place)),
      (λ h. line-tests next ps ∙ rw (lt-ltb _ _ h.0, h.1, said h.2)),
    )

-- ---- a word, where there is none of them
pub good-line : (next : ℕ) (ps : List (List ℕ)) → top_in ps < 0x100 → fitting ps ≡ true → address_in ps < 0x800 → next ≤ address_in ps
    → line_of next ps ≡ Line.Word (address_in ps) (word_in ps)
good-line next ps named fits low rising = line-tests next ps ∙ rw (lt-ltb _ _ named, fits, lt-ltb _ _ low, le-leb _ _ rising)

-- ---- a line that gives a word: it has a mnemonic, operands and marks fit it, and its address rises
pub record Fitting (form : Form) (t : Tail) : Type 0 where
  pub given : form.needed ≤ t.count
  pub most : t.count ≤ 1 + form.second
  pub first : t.first < limit_of form.first
  pub second : t.second < limit_of form.second

pub fits-form : (form : Form) (t : Tail) → fits_form form t ≡ true → Fitting form t
unfolding fits_form
fits-form form t e =
    let (others, second) = both_true _ _ e in
    let (given, most, first) = three _ _ _ others in
    record { given = leb-true _ _ given; most = leb-true _ _ most; first = ltb-true _ _ first; second = ltb-true _ _ second }

pub record Taken (next : ℕ) (ps : List (List ℕ)) (a w : ℕ) : Type 0 where
  pub named : top_in ps < 0x100
  pub fits : Fitting (form_of (top_in ps)) (tail_in ps)
  pub marked : good_marks (top_in ps) (tail_in ps) ≡ true
  pub whole : together_of (fields_for (top_in ps) (tail_in ps)) ≡ Some w
  pub address : address_in ps ≡ a
  pub below : a < 0x800
  pub rising : next ≤ a

pub taken : (next : ℕ) (ps : List (List ℕ)) (a w : ℕ) → line_of next ps ≡ Line.Word a w → Taken next ps a w
taken next ps a w e =
    let (named, fits, place, here, word) =
    is_word_lem (ltb (top_in ps) 0x100) (fitting ps) (placed next ps) (address_in ps) (word_in ps) a w (sym (line-tests next ps) ∙ e) in
    let (form, marks) = both_true (fits_form (form_of (top_in ps)) (tail_in ps)) _ fits in
    let (low, rising) = both_true (ltb (address_in ps) 0x800) _ place in
    record {
      named = ltb-true _ _ named;
      fits = fits-form _ _ form;
      marked = marks;
      whole = together-fine _ (tail_in ps) (ltb-true _ _ named) marks ∙ ap Some word;
      address = here;
      below = rw here at (ltb-true (address_in ps) 0x800 low);
      rising = rw here at (leb-true next (address_in ps) rising);
    }
