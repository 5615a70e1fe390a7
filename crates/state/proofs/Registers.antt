-- The 26 places of the file are the registers that 01 names: tests that antt computes over G and the designators, and over the places.
-- Assumes nothing.
use Prim.Native.Nat.{ℕ, ◌+◌, ◌-◌, ◌/◌, ◌%◌, ◌<◌}
use mathlib.Core.Path.{◌≡◌, refl, ap, sym, ◌∙◌}
use mathlib.Core.Bool.{Bool, true, false}
use native.Mathlib.Omega.{arith}
use lib.Dec.{T, eqb, ltb, eqb→eq}
use borrow.Author.Tests.{ltb-true, ltb-false}
use Rattle.choose.proofs.Table.{below}
use Rattle.choose.specs.Below.{all_below}
use Rattle.choose.specs.Ranged.{pick}
use Rattle.state.specs.File.{slot_of}
use Rattle.state.proofs.Laws.{slot-below}
use Rattle.state.specs.Registers.{Register, R, G, name_of, name_at, Designates, OnePlace, Reached}

-- ---- one test for each of 8 G and 16 designators

same : Register → Register → Bool
same (R a) (R b) = eqb a b
same (R a) (G b) = false
same (G a) (R b) = false
same (G a) (G b) = eqb a b

same_name : (p q : Register) → T (same p q) → p ≡ q
unfolding same
same_name (R a) (R b) t = ap R (eqb→eq a b t)
same_name (R a) (G b) t = absurd t
same_name (G a) (R b) t = absurd t
same_name (G a) (G b) t = ap G (eqb→eq a b t)

-- the place of a designator has the register that 01 names
pub named : (g d : ℕ) → Designates g d → name_at (slot_of g d) ≡ name_of g d
unfolding slot_of same
named g d (h, l) =
    let test : ℕ → ℕ → Bool = λ x y. same (name_at (slot_of x y)) (name_of x y) in
    same_name _ _ (below 0x10 (test g) (below 8 (λ x. all_below 0x10 (test x)) tt g h) d l)

-- and each place has another
place_of : Register → ℕ
place_of (R d) = 10 + d
place_of (G j) = j

place_at : (i : ℕ) → i < 26 → place_of (name_at i) ≡ i
unfolding place_of
place_at i h = eqb→eq _ i (below 26 (λ x. eqb (place_of (name_at x)) x) tt i h)

pub one_place : (g d g' d' : ℕ) → Designates g d → Designates g' d' → OnePlace g d g' d'
one_place g d g' d' h h' = (
  (λ e. sym (named g d h) ∙ ap name_at e ∙ named g' d' h'),
  (λ e. sym (place_at _ (slot-below g d)) ∙ ap place_of (named g d h ∙ e ∙ sym (named g' d' h')) ∙ place_at _ (slot-below g' d')),
)

-- every place is reached: G0-GB by designators 0 and 1, R2-RF by their own
pub every-place : (i : ℕ) → i < 26 → Reached i
unfolding slot_of
every-place i h = go (ltb i 12) refl
  where
    go : (t : Bool) → ltb i 12 ≡ t → Reached i
    go true e =
        let l = ltb-true i 12 e in
        (i / 2, i % 2, (omega arith, omega arith), eqb→eq _ i (below 12 (λ x. eqb (slot_of (x / 2) (x % 2)) x) tt i l))
    go false e =
        let l = ltb-false i 12 e in
        (0, i - 10, (omega arith, omega arith), eqb→eq _ i (rw e at (below 26 (λ x. pick (ltb x 12) true (eqb (slot_of 0 (x - 10)) x)) tt i h)))
