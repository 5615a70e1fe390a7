-- Tests: what those that hold together say each alone, from a test that holds to an equation, and a test as a number. Assumes nothing.
use mathlib.Core.Path.{◌≡◌, refl, sym}
use mathlib.Core.Bool.{Bool, true, false, ◌&&◌, beq, false≢true}
use Prim.Native.Nat.{ℕ, zero, suc, ◌≤◌, ◌<◌}
use native.Mathlib.Omega.{arith}
use lib.Dec.{T, eqb, leb, ltb}
use borrow.Author.Tests.{eq-eqb, ne_eqb, ltb-true, ltb-false, leb-true, leb-false, lt-ltb, le-ltb, le-leb, lt-leb}
use Rattle.choose.specs.Ranged.{bit}

-- ---- both tests of an && hold
pub both_left : (a b : Bool) → T (a && b) → T a
both_left true b t = tt
both_left false b t = t

pub both_right : (a b : Bool) → T (a && b) → T b
both_right true b t = t
both_right false b t = absurd t

-- the same of equations
pub both_true : (a b : Bool) → a && b ≡ true → (a ≡ true) × (b ≡ true)
both_true true b e = (refl, e)
both_true false b e = absurd (false≢true e)

pub three : (a b c : Bool) → a && b && c ≡ true → (a ≡ true) × (b ≡ true) × (c ≡ true)
three a b c e =
    let (two, last) = both_true (a && b) c e in
    ((both_true a b two).0, (both_true a b two).1, last)

-- ---- from a test that antt computed to an equation
pub holds : (b : Bool) → T b → b ≡ true
holds true t = refl
holds false t = absurd t

pub equal-tests : (a b : Bool) → T (beq a b) → a ≡ b
equal-tests true true t = refl
equal-tests true false t = absurd t
equal-tests false true t = absurd t
equal-tests false false t = refl

-- tests that say the same of their numbers are equal
pub same-below : (a b i j : ℕ) → (a < b → i < j) → (b ≤ a → j ≤ i) → ltb a b ≡ ltb i j
same-below a b i j f g = go (ltb a b) refl
  where
    go : (t : Bool) → ltb a b ≡ t → t ≡ ltb i j
    go true e = sym (lt-ltb i j (f (ltb-true a b e)))
    go false e = sym (le-ltb i j (g (ltb-false a b e)))

pub same_from : (a b i j : ℕ) → (a ≤ b → i ≤ j) → (b < a → j < i) → leb a b ≡ leb i j
same_from a b i j f g = go (leb a b) refl
  where
    go : (t : Bool) → leb a b ≡ t → t ≡ leb i j
    go true e = sym (le-leb i j (f (leb-true a b e)))
    go false e = sym (lt-leb i j (g (leb-false a b e)))

-- ---- a test as a number, and back
pub bit_le : (t : Bool) → bit t ≤ 1
bit_le true = omega arith
bit_le false = omega arith

pub is-bit : (t : Bool) (y : ℕ) → y ≡ bit t → eqb y 1 ≡ t
is-bit true y e = eq-eqb y 1 e
is-bit false y e = ne_eqb y 1 (λ h. omega arith)

pub bit_is : (y : ℕ) → y < 2 → bit (eqb y 1) ≡ y
bit_is zero h = refl
bit_is (suc zero) h = refl
bit_is (suc (suc y)) h = omega arith
