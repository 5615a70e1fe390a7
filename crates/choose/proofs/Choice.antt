-- What holds of every arm of a choice holds of the choice: one law for every property of every choice.
-- Assumes nothing.
use Prim.Native.Nat.{ℕ}
use mathlib.Core.Bool.{Bool, true, false, ◌&&◌}
use mathlib.Core.List.{List, [], ◌∷◌}
use lib.Dec.{T, ltb}
use Rattle.choose.specs.Ranged.{pick, ranged}
use Rattle.choose.proofs.Tests.{both_left, both_right}

infixr 5 ◌also◌
-- P of what each arm gives
pub data Arms {A : Type 0} (P : A → Type 0) : List (ℕ × A) → Type 0 where
  end : Arms P []
  ◌also◌ : {m : ℕ × A} {ms : List (ℕ × A)} → P m.1 → Arms P ms → Arms P (m ∷ ms)

module _ {A : Type 0} (P : A → Type 0) where
  pub pick_all : (t : Bool) (a b : A) → P a → P b → P (pick t a b)
  pick_all true a b p q = p
  pick_all false a b p q = q

  pub ranged-all : (x : ℕ) {ms : List (ℕ × A)} (d : A) → Arms P ms → P d → P (ranged x ms d)
  unfolding ranged
  ranged-all x d end q = q
  ranged-all x d (◌also◌ {m} p h) q = pick_all (ltb x m.0) _ _ p (ranged-all x d h q)

-- two choices by one test
pub pick-both : {A B : Type 0} (P : A → B → Type 0) (t : Bool) (a b : A) (x y : B) → P a x → P b y → P (pick t a b) (pick t x y)
pick-both P true a b x y p q = p
pick-both P false a b x y p q = q

module _ {A : Type 0} (f : A → Bool) where
  -- the same as a test, which the checker computes
  abbrev pub arms : List (ℕ × A) → Bool
  arms [] = true
  arms (m ∷ ms) = f m.1 && arms ms

  pub tested : (ms : List (ℕ × A)) → T (arms ms) → Arms (λ (a : A). T (f a)) ms
  tested [] t = end
  tested (m ∷ ms) t = both_left (f m.1) (arms ms) t also tested ms (both_right (f m.1) (arms ms) t)
