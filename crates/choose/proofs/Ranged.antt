-- Which arm of a choice by ranges is taken: one law for every arm of every choice, by induction over the arms.
use Prim.Native.Nat.{ℕ, zero, suc, ◌<◌, ◌≤◌}
use mathlib.Core.Path.{◌≡◌, refl}
use mathlib.Core.Bool.{Bool, true, ◌&&◌}
use mathlib.Core.List.{List, [], ◌∷◌}
use native.Mathlib.Omega.{arith}
use lib.Dec.{T, leb, leb→le}
use lib.ListN.{length}
use borrow.Author.Tests.{lt-ltb, le-ltb}
use Rattle.choose.specs.Ranged.{ranged}
use Rattle.choose.proofs.Tests.{both_left, both_right}

module _ {A : Type 0} where
  -- the first i arms end at lo or below
  abbrev pub past : ℕ → ℕ → List (ℕ × A) → Bool
  past lo zero ms = true
  past lo (suc i) [] = true
  past lo (suc i) (m ∷ ms) = leb m.0 lo && past lo i ms

  -- where arm i ends
  abbrev pub end_of : List (ℕ × A) → ℕ → ℕ
  end_of [] i = 0
  end_of (m ∷ ms) zero = m.0
  end_of (m ∷ ms) (suc i) = end_of ms i

  -- what arm i gives
  abbrev pub arm_of : List (ℕ × A) → ℕ → A → A
  arm_of [] i d = d
  arm_of (m ∷ ms) zero d = m.1
  arm_of (m ∷ ms) (suc i) d = arm_of ms i d

  -- x is in arm i: the arms before it end at lo or below, and lo ≤ x < the end of arm i
  pub in-arm : (x : ℕ) (ms : List (ℕ × A)) (d : A) (i lo : ℕ) → T (past lo i ms) → lo ≤ x → x < end_of ms i → ranged x ms d ≡ arm_of ms i d
  unfolding ranged
  in-arm x [] d i lo t h u = refl
  in-arm x (m ∷ ms) d zero lo t h u = rw (lt-ltb x m.0 u)
  in-arm x (m ∷ ms) d (suc i) lo t h u =
      let k = leb→le m.0 lo (both_left (leb m.0 lo) (past lo i ms) t) in
      rw (le-ltb x m.0 (omega arith)) (in-arm x ms d i lo (both_right (leb m.0 lo) (past lo i ms) t) h u)

  -- x is past every arm
  pub in_rest : (x : ℕ) (ms : List (ℕ × A)) (d : A) (lo : ℕ) → T (past lo (length ms) ms) → lo ≤ x → ranged x ms d ≡ d
  unfolding ranged
  in_rest x [] d lo t h = refl
  in_rest x (m ∷ ms) d lo t h =
      let k = leb→le m.0 lo (both_left (leb m.0 lo) (past lo (length ms) ms) t) in
      rw (le-ltb x m.0 (omega arith)) (in_rest x ms d lo (both_right (leb m.0 lo) (past lo (length ms) ms) t) h)
