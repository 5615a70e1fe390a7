-- The paper's lists, and what the two codes of a pair have in common: tests that antt computes at each of the 256 top bytes.
use Prim.Native.Nat.{ℕ, ◌+◌, ◌*◌, ◌-◌, ◌/◌, ◌%◌, ◌<◌}
use mathlib.Core.Path.{◌≡◌, ap}
use mathlib.Core.Bool.{Bool, true, ◌&&◌, beq}
use native.Mathlib.Omega.{arith}
use lib.Dec.{eqb, eqb→eq, ltb}
use borrow.Author.Tests.{eqb-true, eq-eqb, ltb-true}
use Rattle.choose.specs.Ranged.{pick, ranged}
use Rattle.choose.proofs.Table.{below}
use Rattle.choose.proofs.Tests.{equal-tests, holds, both_true, three}
use Rattle.code.specs.CodeRows.{class_of, listed}
use Rattle.code.specs.Word.{same}
use Rattle.code.specs.declared.Class.{Class}
use Rattle.code.proofs.Shape.{same_class}
use Rattle.code.proofs.Tops.{listed_below}
use Rattle.names.specs.Mnemonics.{mnemonic_of}
use Rattle.forms.specs.Forms.{spare_of, form_of, limit_of, joined_of}
use Rattle.forms.specs.declared.Form.{Form}
use Rattle.code.proofs.Shape.{stride_of}
use Rattle.code.specs.Word.{operands_in}
use Rattle.code.specs.declared.Operands.{Operands}
use Rattle.forms.specs.Named.{twinned, odd_of}
use Rattle.forms.specs.Paper.{dont_cares, said_of, pairs, within}

-- the don't-care fields are those of the paper's mnemonics, and no others
pub spare-list : (top : ℕ) → top < 0x100 → listed (class_of top) ≡ true → spare_of top ≡ said_of dont_cares (mnemonic_of top)
unfolding spare_of mnemonic_of class_of ranged
spare-list top h e =
    eqb→eq _ _
    (rw e at (below 0x100 (λ x. pick (listed (class_of x)) (eqb (spare_of x) (said_of dont_cares (mnemonic_of x))) true) tt top h))

-- the codes that have an odd twin are the even ones of the paper's pairs
pub twins : (top : ℕ) → top < 0x100 → twinned top ≡ (within pairs top && eqb (top % 2) 0)
unfolding twinned mnemonic_of class_of ranged
twins top h = equal-tests _ _ (below 0x100 (λ x. beq (twinned x) (within pairs x && eqb (x % 2) 0)) tt top h)

-- and that is a code of a register instruction
pub twin-register : (top : ℕ) → twinned top ≡ true → class_of top ≡ Class.Register
unfolding twinned
twin-register top e = same_class _ _ (both_true _ _ e).0

-- the test of each even code: it isn't the last, and the next has its class and don't-care bits
abbrev alike : ℕ → ℕ → Bool
alike s t = same (class_of s) (class_of t) && eqb (spare_of s) (spare_of t)

abbrev paired : ℕ → Bool
paired top = ltb top 0xFF && eqb (top % 2) 0 && alike (top + 1) top

pairing : (top : ℕ) → twinned top ≡ true
    → (top < 0xFF) × (top % 2 ≡ 0) × (class_of (top + 1) ≡ class_of top) × (spare_of (top + 1) ≡ spare_of top)
unfolding twinned mnemonic_of class_of spare_of ranged
pairing top e =
    let here : top < 0x100 = listed_below top (ap listed (twin-register top e)) in
    let all = holds (paired top) (rw e at (below 0x100 (λ x. pick (twinned x) (paired x) true) tt top here)) in
    let (last, even, next) = three (ltb top 0xFF) (eqb (top % 2) 0) (alike (top + 1) top) all in
    let (classes, spares) = both_true (same (class_of (top + 1)) (class_of top)) _ next in
    (ltb-true _ _ last, eqb-true _ _ even, same_class _ _ classes, eqb-true _ _ spares)

pub twin-below : (top : ℕ) → twinned top ≡ true → top < 0xFF
twin-below top e = (pairing top e).0

-- the odd code of a pair differs from the even one in nothing that is typed
pub record Twin (top : ℕ) : Type 0 where
  pub odd : odd_of (top + 1) ≡ true
  pub class : class_of (top + 1) ≡ class_of top
  pub form : form_of (top + 1) ≡ form_of top
  pub mnemonic : mnemonic_of (top + 1) ≡ mnemonic_of top

mnemonic-next : (top : ℕ) → twinned top ≡ true → mnemonic_of (top + 1) ≡ mnemonic_of top
unfolding twinned
mnemonic-next top e = eqb-true _ _ (both_true (same (class_of top) Class.Register) _ e).1

pub twin : (top : ℕ) → twinned top ≡ true → Twin top
unfolding odd_of form_of
twin top e =
    let (last, even, class, spare) = pairing top e in
    let next : (top + 1) % 2 ≡ 1 = omega arith in
    let back : top + 1 - 1 ≡ top = omega arith in
    record { odd = rw (eq-eqb _ _ next, back) e; class = class; form = rw (class, spare); mnemonic = mnemonic-next top e }

-- the bits of the operands that have to be there
abbrev needed_bits : Form → ℕ
needed_bits f =
    joined_of f (pick (ltb 0 f.needed) (limit_of f.first - 1) 0) (pick (ltb 1 f.needed) (limit_of f.second - 1) 0)

-- "A field that the summary marks x is no operand, and may follow": all the others have to be there
pub needed-fields : (top : ℕ) → top < 0x100 → listed (class_of top) ≡ true → needed_bits (form_of top) + spare_of top + 1 ≡ 0x100 * stride_of (class_of top)
unfolding spare_of form_of joined_of limit_of mnemonic_of class_of ranged
needed-fields top h e =
    eqb→eq _ _
    (rw e at (below 0x100 (λ x. pick (listed (class_of x)) (eqb (needed_bits (form_of x) + spare_of x + 1) (0x100 * stride_of (class_of x))) true) tt top h))

-- "a literal instruction the literal, then a"
pub literal-then-a : (top v a : ℕ) → v < 0x100 → a < 0x10 → class_of top ≡ Class.Literal
    → operands_in (class_of top) (joined_of (form_of top) v a) ≡ Operands.Literal v a
unfolding form_of joined_of operands_in
literal-then-a top v a hv ha e =
    let first : (v * 0x10 + a) / 0x10 % 0x100 ≡ v = omega arith in
    let last : (v * 0x10 + a) % 0x10 ≡ a = omega arith in
    rw (e, first, last)

-- "a register instruction b, then a"
pub b-then-a : (top b a : ℕ) → b < 0x10 → a < 0x10 → class_of top ≡ Class.Register → spare_of top ≡ 0
    → operands_in (class_of top) (joined_of (form_of top) b a) ≡ Operands.Two b a
unfolding form_of joined_of operands_in
b-then-a top b a hb ha e x =
    let first : (b * 0x10 + a) / 0x10 % 0x10 ≡ b = omega arith in
    let last : (b * 0x10 + a) % 0x10 ≡ a = omega arith in
    rw (e, x, first, last)
