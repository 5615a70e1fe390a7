-- The class over the top bytes of one instruction: tests that antt computes at each of the 256, and the laws that turn them into facts.
use Prim.Native.Nat.{ℕ, ◌+◌, ◌<◌}
use mathlib.Core.Path.{◌≡◌, refl}
use mathlib.Core.Bool.{Bool, true, false, false≢true}
use lib.Dec.{ltb}
use borrow.Author.Tests.{ltb-true, ltb-false}
use Rattle.choose.specs.Ranged.{ranged}
use Rattle.choose.specs.Below.{all_below}
use Rattle.choose.proofs.Ranged.{in_rest}
use Rattle.choose.proofs.Table.{below}
use Rattle.choose.proofs.Tests.{holds}
use Rattle.code.specs.CodeRows.{class_of, classes, listed, row_of, cycles_of}
use Rattle.code.specs.Word.{code_in, code_of, same}
use Rattle.code.specs.declared.Class.{Class}
use Rattle.code.proofs.Digits.{listed-row, row-of-code}
use Rattle.code.proofs.Shape.{stride_of, same_class}

-- what is past 255 is unlisted
pub listed_below : (top : ℕ) → listed (class_of top) ≡ true → top < 0x100
unfolding class_of
listed_below top e = go (ltb top 0x100) refl
  where
    go : (b : Bool) → ltb top 0x100 ≡ b → top < 0x100
    go true t = ltb-true top 0x100 t
    go false t = absurd (false≢true (rw (in_rest top classes Class.Unlisted 0x100 tt (ltb-false top 0x100 t)) at e))

-- the first top byte of an instruction has the class of each
pub class-of-code : (top : ℕ) → top < 0x100 → class_of (code_of top) ≡ class_of top
unfolding class_of code_of ranged
class-of-code top h = same_class _ _ (holds _ (below 0x100 (λ x. same (class_of (code_of x)) (class_of x)) tt top h))

-- and each has the class of the first
pub class-kept : (top q : ℕ) → top < 0x100 → q < stride_of (class_of top) → class_of (code_of top + q) ≡ class_of top
unfolding class_of code_of ranged
class-kept top q h g =
    same_class _ _
    (holds _
    (below (stride_of (class_of top)) (λ p. same (class_of (code_of top + p)) (class_of top))
    (below 0x100 (λ x. all_below (stride_of (class_of x)) (λ p. same (class_of (code_of x + p)) (class_of x))) tt top h) q g))

-- what the row of a listed top byte says of cycles is said of the instruction
pub cycles-of-code : (top : ℕ) → listed (class_of top) ≡ true → (row_of top).cycles ≡ cycles_of (code_in (class_of top) top)
unfolding code_of
cycles-of-code top e =
    let h = listed_below top e in
    rw (← row-of-code top h, listed-row (code_of top) (rw (class-of-code top h) e))
