-- A choice by ranges whose ends are all multiples of k goes by x / k: one law for every line of a `match` on x / k.
use Prim.Native.Nat.{ℕ, zero, suc, ◌+◌, ◌*◌, ◌/◌, ◌≤◌, ◌<◌}
use mathlib.Core.Path.{◌≡◌, refl, ap}
use mathlib.Core.Bool.{Bool, true, false, ◌&&◌}
use mathlib.Core.List.{List, [], ◌∷◌}
use native.Mathlib.Nat.{div-mul-le_self, mul-le-mul_right, le-div_iff_mul-le}
use native.Mathlib.Omega.{arith}
use lib.Dec.{T, eqb, eqb→eq, ltb}
use borrow.Author.Tests.{ltb-true, ltb-false}
use Rattle.choose.specs.Ranged.{pick, ranged}
use Rattle.choose.proofs.Tests.{both_left, both_right, same-below}

module _ {A : Type 0} where
  -- every end is a multiple of k
  abbrev pub whole : ℕ → List (ℕ × A) → Bool
  whole k [] = true
  whole k (m ∷ ms) = eqb (m.0 / k * k) m.0 && whole k ms

  -- what `ranged` gives, computed
  abbrev pub chosen : ℕ → List (ℕ × A) → A → A
  chosen x [] d = d
  chosen x (m ∷ ms) d = pick (ltb x m.0) m.1 (chosen x ms d)

  pub in-part : (x : ℕ) (ms : List (ℕ × A)) (d : A) (k q : ℕ) → zero < k → T (whole k ms) → x / k ≡ q → ranged x ms d ≡ chosen (q * k) ms d
  unfolding ranged
  in-part x [] d k q z t h = refl
  in-part x (m ∷ ms) d k q z t h =
      let e = eqb→eq (m.0 / k * k) m.0 (both_left (eqb (m.0 / k * k) m.0) (whole k ms) t) in
      let below : q * k ≤ x = rw (← h) (div-mul-le_self x k) in
      let above : m.0 ≤ x → m.0 ≤ q * k = λ a. rw (← e, ← h) (mul-le-mul_right k ((le-div_iff_mul-le z).1 (rw e a))) in
      rw (same-below x m.0 (q * k) m.0 (λ a. omega arith) above)
      (ap (pick (ltb (q * k) m.0) m.1) (in-part x ms d k q z (both_right (eqb (m.0 / k * k) m.0) (whole k ms) t) h))

-- by cases, below n and from n on
pub split : {P : Type 0} (x n : ℕ) → (x < n → P) → (n ≤ x → P) → P
split {P} x n f g = go (ltb x n) refl
  where
    go : (t : Bool) → ltb x n ≡ t → P
    go true e = f (ltb-true x n e)
    go false e = g (ltb-false x n e)

-- x is none of the k numbers from n on; then where it isn't below n, it is past them
abbrev pub Unlike : ℕ → ℕ → ℕ → Type 0
Unlike x n zero = Unit
Unlike x n (suc k) = Unlike x n k × (x ≡ n + k → ⊥)

pub beyond : (x n k : ℕ) → n ≤ x → Unlike x n k → n + k ≤ x
beyond x n zero l u = omega arith
beyond x n (suc k) l u =
    let h = beyond x n k l u.0 in
    let e = u.1 in
    omega arith
