-- Pairs are two registers each, and overlap not at all, wholly or crosswise. Tests that antt computes over G and the designators.
-- Assumes nothing.
use Prim.Native.Nat.{ℕ, suc, ◌+◌, ◌-◌, ◌*◌, ◌/◌, ◌%◌, ◌<◌}
use mathlib.Core.Path.{◌≡◌, refl, sym, ◌∙◌}
use mathlib.Core.Bool.{Bool, true, false, not, ◌||◌}
use mathlib.Core.Logic.{◌↔◌}
use native.Mathlib.Omega.{arith}
use lib.Dec.{T, eqb, leb, eqb→eq}
use borrow.Author.Tests.{eq-eqb, eqb-true, eqb-false}
use Rattle.choose.proofs.Table.{below}
use Rattle.choose.specs.Below.{all_below}
use Rattle.choose.specs.Ranged.{pick}
use Rattle.state.specs.File.{slot_of, high_of, g_slot}
use Rattle.state.specs.Pairs.{inverted, Crosswise}
use Rattle.state.specs.Registers.{name_of, Designates}
use Rattle.state.proofs.Registers.{one_place}

-- the high byte's designator is the low one's with its lowest bit inverted
pub high-inverts : (d : ℕ) → d < 16 → high_of d ≡ inverted d
unfolding high_of
high-inverts d h = eqb→eq _ _ (below 16 (λ x. eqb (high_of x) (inverted x)) tt d h)

-- so of an even designator it is the next
pub inverted-of-even : (d : ℕ) → d % 2 ≡ 0 → inverted d ≡ d + 1
inverted-of-even d e = rw e

pub high-of-even : (d : ℕ) → d % 2 ≡ 0 → d < 16 → high_of d ≡ suc d
high-of-even d e h = high-inverts d h ∙ inverted-of-even d e ∙ omega arith

-- a register's place is even where its designator is
place_of : ℕ → ℕ → ℕ
place_of x y = pick (leb 2 y) (10 + y) (g_slot (x * 2 + y))

slot-parity : (g d : ℕ) → slot_of g d % 2 ≡ d % 2
unfolding slot_of place_of
slot-parity g d =
    let test : ℕ → ℕ → Bool = λ x y. eqb (place_of x y % 2) (y % 2) in
    let t = below 16 (test (g % 8)) (below 8 (λ x. all_below 16 (test x)) tt (g % 8) (omega arith)) (d % 16) (omega arith) in
    eqb→eq (place_of (g % 8) (d % 16) % 2) (d % 16 % 2) t ∙ omega arith

-- the lowest bit is the other, the bits above it are the same
pub lowest-inverted : (d : ℕ) → (inverted d % 2 ≡ 1 - d % 2) × (inverted d / 2 ≡ d / 2)
lowest-inverted d = go (eqb (d % 2) 1) refl
  where
    go : (t : Bool) → eqb (d % 2) 1 ≡ t → (pick t (d - 1) (d + 1) % 2 ≡ 1 - d % 2) × (pick t (d - 1) (d + 1) / 2 ≡ d / 2)
    go true e = let h = eqb-true (d % 2) 1 e in (omega arith, omega arith)
    go false e = let h = eqb-false (d % 2) 1 e in (omega arith, omega arith)

-- pairs whose designators are both even, or both odd, don't overlap crosswise
pub not-crosswise : (g a b : ℕ) → a % 2 ≡ b % 2 → slot_of g (inverted b) ≡ slot_of g a → ⊥
not-crosswise g a b same e = omega (arith, (lowest-inverted b).0, slot-parity g a, slot-parity g (inverted b))

-- so a pair is two registers
pub two-registers : (g d : ℕ) → slot_of g (inverted d) ≡ slot_of g d → ⊥
two-registers g d = not-crosswise g d d refl

-- what is computed over G and two designators
module _ (test : ℕ → ℕ → ℕ → Bool) (t : T (all_below 8 (λ x. all_below 16 (λ y. all_below 16 (test x y))))) where
  tested : (g a b : ℕ) → g < 8 → a < 16 → b < 16 → T (test g a b)
  tested g a b hg ha hb =
      below 16 (test g a) (below 16 (λ y. all_below 16 (test g y)) (below 8 (λ x. all_below 16 (λ y. all_below 16 (test x y))) t g hg) a ha) b hb

-- where both have their low byte in one register, both have their high byte in one
pub wholly : (g a b : ℕ) → g < 8 → a < 16 → b < 16 → slot_of g b ≡ slot_of g a → slot_of g (inverted b) ≡ slot_of g (inverted a)
unfolding slot_of
wholly g a b hg ha hb e =
    let test : ℕ → ℕ → ℕ → Bool = λ x y z. not (eqb (slot_of x z) (slot_of x y)) || eqb (slot_of x (inverted z)) (slot_of x (inverted y)) in
    eqb→eq _ _ (rw (eq-eqb _ _ e) at (tested test tt g a b hg ha hb))

-- where one byte is shared crosswise, both are: b's low byte, or its high byte
pub low-crosswise : (g a b : ℕ) → g < 8 → a < 16 → b < 16 → slot_of g b ≡ slot_of g (inverted a) → Crosswise g a b
unfolding slot_of
low-crosswise g a b hg ha hb e =
    let test : ℕ → ℕ → ℕ → Bool = λ x y z. not (eqb (slot_of x z) (slot_of x (inverted y))) || eqb (slot_of x (inverted z)) (slot_of x y) in
    record { low = e; high = eqb→eq _ _ (rw (eq-eqb _ _ e) at (tested test tt g a b hg ha hb)) }

pub high-crosswise : (g a b : ℕ) → g < 8 → a < 16 → b < 16 → slot_of g (inverted b) ≡ slot_of g a → Crosswise g a b
high-crosswise g a b hg ha hb e = record { low = sym (low-crosswise g b a hg hb ha (sym e)).high; high = e }

-- of a designator and the other of its pair
pub others-cross : (g a : ℕ) → g < 8 → a < 16 → Crosswise g a (inverted a)
others-cross g a hg h = low-crosswise g a (inverted a) hg h (omega (arith, (lowest-inverted a).1)) refl

-- and by 01's names, exactly where b names the register of a's high byte: so with G 6 and 7, too, designators 0 and 1 against C to F
pub crosswise-named : (g a b : ℕ) → Designates g a → Designates g b → Crosswise g a b ↔ (name_of g b ≡ name_of g (inverted a))
crosswise-named g a b (hg, ha) (h, hb) =
    let (to, from) = one_place g b g (inverted a) (hg, hb) (hg, omega (arith, (lowest-inverted a).1)) in
    ((λ c. to c.low), (λ e. low-crosswise g a b hg ha hb (from e)))
