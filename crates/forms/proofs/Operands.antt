-- The typed operands and the word's low bits are the same thing said twice: each comes back from the other, within the same limits.
use Prim.Native.Nat.{ℕ, ◌+◌, ◌*◌, ◌<◌}
use mathlib.Core.Path.{◌≡◌, refl}
use mathlib.Core.Bool.{Bool, true, false, false≢true}
use native.Mathlib.Omega.{arith}
use lib.Dec.{eqb}
use Rattle.choose.specs.Ranged.{bit, pick, ranged}
use Rattle.code.specs.CodeRows.{class_of, listed}
use Rattle.code.specs.declared.Class.{Class}
use Rattle.code.proofs.Shape.{stride_of}
use Rattle.forms.specs.Forms.{register_form, form_in, form_of, spare_of, limit_of, joined_of, first_of, second_of}
use Rattle.forms.specs.declared.Form.{Form}

-- the operands of a form are the bits of the n numbers below n: one operand has them all, or a the last four and the other those above
pub data Spans : Form → ℕ → Type 0 where
  one : {d m : ℕ} {t : Bool} → Spans (record { first = d; second = 0; needed = m; a_first = t }) (limit_of d)
  a-last : {d m : ℕ} → Spans (record { first = d; second = 1; needed = m; a_first = false }) (limit_of d * 0x10)
  a-first : {m : ℕ} → Spans (record { first = 1; second = 1; needed = m; a_first = true }) 0x100

-- operands below their limits are joined to a number below n, and read back from there they are the same
pub record Joined (form : Form) (n x y : ℕ) : Type 0 where
  pub first : first_of form (joined_of form x y) ≡ x
  pub second : second_of form (joined_of form x y) ≡ y
  pub below : joined_of form x y < n

pub joined : {form : Form} {n : ℕ} → Spans form n → (x y : ℕ) → x < limit_of form.first → y < limit_of form.second → Joined form n x y
unfolding joined_of first_of second_of limit_of ranged
joined one x y h g = record { first = refl; second = omega arith; below = h }
joined a-last x y h g = record { first = omega arith; second = omega arith; below = omega arith }
joined a-first x y h g = record { first = omega arith; second = omega arith; below = omega arith }

-- the operands of a number below n are below their limits
pub record Parted (form : Form) (low : ℕ) : Type 0 where
  pub first : first_of form low < limit_of form.first
  pub second : second_of form low < limit_of form.second

pub parted : {form : Form} {n : ℕ} → Spans form n → (low : ℕ) → low < n → Parted form low
unfolding first_of second_of limit_of ranged
parted one low h = record { first = h; second = omega arith }
parted a-last low h = record { first = omega arith; second = omega arith }
parted a-first low h = record { first = omega arith; second = omega arith }

-- joined again they are the number
pub joined-again : (form : Form) (low : ℕ) → joined_of form (first_of form low) (second_of form low) ≡ low
unfolding joined_of first_of second_of
joined-again form low = go (eqb form.second 0) form.a_first refl refl
  where
    go : (t u : Bool) → eqb form.second 0 ≡ t → form.a_first ≡ u → joined_of form (first_of form low) (second_of form low) ≡ low
    go true u p q = rw p
    go false true p q = rw (p, q) (omega arith)
    go false false p q = rw (p, q) (omega arith)

register-spans : (x : ℕ) → Spans (register_form x) 0x100
unfolding limit_of ranged
register-spans x = go (eqb x 0xFF) (eqb x 0xF0) (1 + bit (eqb x 0))
  where
    go : (t u : Bool) (m : ℕ)
        → Spans
        (pick t (record { first = 2; second = 0; needed = 0; a_first = false }) (record { first = 1; second = 1; needed = m; a_first = u }))
        0x100
    go true u m = one
    go false true m = a-first
    go false false m = a-last

class-spans : (k : Class) (x : ℕ) → listed k ≡ true → Spans (form_in k x) (0x100 * stride_of k)
unfolding limit_of ranged
class-spans Class.Unlisted x e = absurd (false≢true e)
class-spans Class.Jump x e = one
class-spans Class.Conditional x e = one
class-spans Class.Literal x e = a-last
class-spans Class.Register x e = register-spans x

-- the operands of a listed top byte have all the bits of its class
pub form-spans : (top : ℕ) → listed (class_of top) ≡ true → Spans (form_of top) (0x100 * stride_of (class_of top))
unfolding form_of
form-spans top e = class-spans (class_of top) (spare_of top) e
