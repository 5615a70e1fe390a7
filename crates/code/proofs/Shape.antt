-- The arithmetic of an instruction as its code and its operands' bits: one lemma for each fact, over the class.
use Prim.Native.Nat.{ℕ, ◌+◌, ◌*◌, ◌/◌, ◌%◌, ◌<◌}
use mathlib.Core.Path.{◌≡◌, refl, ◌∙◌, sym, ap}
use mathlib.Core.Bool.{true, false≢true}
use native.Mathlib.Omega.{arith}
use lib.Dec.{ltb}
use borrow.Author.Tests.{lt-ltb, ltb-true, eqb-true}
use Rattle.code.specs.CodeRows.{listed, class_number}
use Rattle.code.specs.Entries.{class_at}
use Rattle.choose.proofs.Tests.{both_true}
use Rattle.code.specs.Word.{top_of, code_in, operands_in, fits_in, reach_of, same, low_of, Fit, jump, conditional, literal, register}
use Rattle.code.specs.declared.Class.{Class}
use Rattle.code.specs.declared.Operands.{Operands}
use Rattle.code.proofs.Digits.{numbered}

-- how many top bytes one instruction of the class has
abbrev pub stride_of : Class → ℕ
stride_of Class.Unlisted = 1
stride_of Class.Jump = 8
stride_of Class.Conditional = 1
stride_of Class.Literal = 0x10
stride_of Class.Register = 1

-- an instruction is its code and the bits below it
pub split : (k : Class) (w : ℕ) → w % (0x100 * stride_of k) + code_in k (top_of w) * 0x100 ≡ w % 0x1_0000
split Class.Unlisted w = omega arith
split Class.Jump w = omega arith
split Class.Conditional w = omega arith
split Class.Literal w = omega arith
split Class.Register w = omega arith

-- the code of a code is itself
pub code-twice : (k : Class) (t : ℕ) → code_in k (code_in k t) ≡ code_in k t
code-twice Class.Unlisted t = refl
code-twice Class.Jump t = omega arith
code-twice Class.Conditional t = refl
code-twice Class.Literal t = omega arith
code-twice Class.Register t = refl

-- and stays the code of a top byte with operand bits in it
pub code-back : (k : Class) (c l : ℕ) → code_in k c ≡ c → l < 0x100 * stride_of k → code_in k (c + l / 0x100) ≡ c
code-back Class.Unlisted c l e h = omega arith
code-back Class.Jump c l e h = omega arith
code-back Class.Conditional c l e h = omega arith
code-back Class.Literal c l e h = omega arith
code-back Class.Register c l e h = omega arith

-- what is read back from a word w of a code c, bits l below it, and the bits above: a, b and u
pub record Back (k : Class) (w c l a b u : ℕ) : Type 0 where
  pub top : top_of w ≡ c + l / 0x100
  pub low : w % (0x100 * stride_of k) ≡ l
  pub rr : w / 0x1_0000 % 2 ≡ a
  pub rni : w / 0x2_0000 % 2 ≡ b
  pub user : w / 0x4_0000 % 0x10 ≡ u
  pub below : w < 0x40_0000

-- the code's top byte has no bit below the class's stride, so l stands alone there
low-back : (k : Class) (c l h : ℕ) → code_in k c ≡ c → l < 0x100 * stride_of k → (l + c * 0x100 + h * 0x1_0000) % (0x100 * stride_of k) ≡ l
low-back Class.Unlisted c l h e r = omega arith
low-back Class.Jump c l h e r = omega arith
low-back Class.Conditional c l h e r = omega arith
low-back Class.Literal c l h e r = omega arith
low-back Class.Register c l h e r = omega arith

pub back : (k : Class) (c l a b u : ℕ) → c * 0x100 + l < 0x1_0000 → code_in k c ≡ c → l < 0x100 * stride_of k → a < 2 → b < 2 → u < 0x10
    → Back k (l + c * 0x100 + a * 0x1_0000 + b * 0x2_0000 + u * 0x4_0000) c l a b u
back k c l a b u room e r ha hb hu =
    let whole : l + c * 0x100 + a * 0x1_0000 + b * 0x2_0000 + u * 0x4_0000 ≡ l + c * 0x100 + (a + b * 2 + u * 4) * 0x1_0000 = omega arith in
    record {
      top = omega arith;
      low = rw whole (low-back k c l (a + b * 2 + u * 4) e r);
      rr = omega arith;
      rni = omega arith;
      user = omega arith;
      below = omega arith;
    }

-- the bits above the instruction
high_bits : (x : ℕ) → x < 0x40 → x % 2 * 0x1_0000 + x / 2 % 2 * 0x2_0000 + x / 4 % 0x10 * 0x4_0000 ≡ x * 0x1_0000
high_bits x h =
    let low : x ≡ x % 2 + x / 2 * 2 = omega arith in
    let mid : x / 2 ≡ x / 2 % 2 + x / 4 * 2 = omega arith in
    let top : x / 4 % 0x10 ≡ x / 4 = omega arith in
    omega arith

pub high : (w : ℕ) → w < 0x40_0000
    → w % 0x1_0000 + w / 0x1_0000 % 2 * 0x1_0000 + w / 0x2_0000 % 2 * 0x2_0000 + w / 0x4_0000 % 0x10 * 0x4_0000 ≡ w
high w h =
    let rni : w / 0x2_0000 ≡ w / 0x1_0000 / 2 = omega arith in
    let user : w / 0x4_0000 ≡ w / 0x1_0000 / 4 = omega arith in
    let whole : w ≡ w % 0x1_0000 + w / 0x1_0000 * 0x1_0000 = omega arith in
    rw (rni, user) (omega (arith, high_bits (w / 0x1_0000) (omega arith)))

-- the operands of a class are of its kind, in range, and have all its bits
pub fits-own : (k : Class) (w : ℕ) → listed k ≡ true → fits_in k (operands_in k w) ≡ true
unfolding fits_in operands_in
fits-own Class.Unlisted w e = e
fits-own Class.Jump w e = lt-ltb (w % 0x800) 0x800 (omega arith)
fits-own Class.Conditional w e = lt-ltb (w % 0x100) 0x100 (omega arith)
fits-own Class.Literal w e = rw (lt-ltb (w / 0x10 % 0x100) 0x100 (omega arith), lt-ltb (w % 0x10) 0x10 (omega arith))
fits-own Class.Register w e = rw (lt-ltb (w / 0x10 % 0x10) 0x10 (omega arith), lt-ltb (w % 0x10) 0x10 (omega arith))

pub low-own : (k : Class) (w : ℕ) → listed k ≡ true → low_of (operands_in k w) ≡ w % (0x100 * stride_of k)
unfolding operands_in
low-own Class.Unlisted w e = absurd (false≢true e)
low-own Class.Jump w e = refl
low-own Class.Conditional w e = refl
low-own Class.Literal w e = omega arith
low-own Class.Register w e = omega arith

pub same_class : (k l : Class) → same k l ≡ true → k ≡ l
same_class k l e = sym (numbered k) ∙ ap class_at (eqb-true (class_number k) (class_number l) e) ∙ numbered l

fit-jump : (k : Class) (n : ℕ) → ltb n (reach_of k) ≡ true → Fit k (Operands.Jump n)
fit-jump Class.Unlisted n e = absurd (omega (arith, ltb-true n 0 e))
fit-jump Class.Jump n e = jump (ltb-true n 0x800 e)
fit-jump Class.Conditional n e = conditional (ltb-true n 0x100 e)
fit-jump Class.Literal n e = absurd (omega (arith, ltb-true n 0 e))
fit-jump Class.Register n e = absurd (omega (arith, ltb-true n 0 e))

pub fit : (k : Class) (o : Operands) → fits_in k o ≡ true → Fit k o
unfolding fits_in
fit k (Operands.Jump n) e = fit-jump k n e
fit k (Operands.Literal v r) e =
    let (in-range, kind) = both_true _ _ e in
    let (value, reg) = both_true _ _ in-range in
    rw (same_class k Class.Literal kind) (literal (ltb-true v 0x100 value) (ltb-true r 0x10 reg))
fit k (Operands.Two b a) e =
    let (in-range, kind) = both_true _ _ e in
    let (left, right) = both_true _ _ in-range in
    rw (same_class k Class.Register kind) (register (ltb-true b 0x10 left) (ltb-true a 0x10 right))

pub fit-listed : {k : Class} {o : Operands} → Fit k o → listed k ≡ true
fit-listed (jump h) = refl
fit-listed (conditional h) = refl
fit-listed (literal h g) = refl
fit-listed (register h g) = refl

-- they have room in the bits of their class, and read back from there they are the same
pub fit-room : {k : Class} {o : Operands} → Fit k o → low_of o < 0x100 * stride_of k
fit-room (jump h) = omega arith
fit-room (conditional h) = omega arith
fit-room (literal h g) = omega arith
fit-room (register h g) = omega arith

pub read_back : {k : Class} {o : Operands} (w : ℕ) → Fit k o → w % (0x100 * stride_of k) ≡ low_of o → operands_in k w ≡ o
unfolding operands_in
read_back w (jump h) e = rw e
read_back w (conditional h) e = rw e
read_back w (literal {v} {r} h g) e =
    let value : w / 0x10 % 0x100 ≡ v = omega arith in
    let reg : w % 0x10 ≡ r = omega arith in
    rw (value, reg)
read_back w (register {b} {a} h g) e =
    let left : w / 0x10 % 0x10 ≡ b = omega arith in
    let right : w % 0x10 ≡ a = omega arith in
    rw (left, right)
