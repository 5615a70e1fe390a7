-- A choice by ranges, where each arm may use that x is in its range; and what is in a list of codes and what is not. Assumes nothing.
use Prim.Native.Nat.{ℕ, ◌<◌, ◌≤◌}
use mathlib.Core.Path.{◌≡◌, refl}
use mathlib.Core.Bool.{Bool, true, false, ◌&&◌}
use mathlib.Core.List.{List, [], ◌∷◌}
use lib.Dec.{leb, ltb}
use borrow.Author.Tests.{ltb-true, ltb-false, leb-true, le-leb}
use Rattle.choose.specs.Ranged.{pick, ranged}
use Rattle.attempt_laws.specs.Fate.{within}

infixr 5 ◌next◌
-- P of what each arm gives, where x is from the end of the arm before up to its own end
pub data Where {A : Type 0} (P : A → Type 0) (x : ℕ) : ℕ → List (ℕ × A) → A → Type 0 where
  other : {from : ℕ} {d : A} → (from ≤ x → P d) → Where P x from [] d
  ◌next◌ : {from : ℕ} {m : ℕ × A} {ms : List (ℕ × A)} {d : A}
      → (from ≤ x → x < m.0 → P m.1) → Where P x m.0 ms d → Where P x from (m ∷ ms) d

pub ranged-where : {A : Type 0} (P : A → Type 0) (x : ℕ) {from : ℕ} {ms : List (ℕ × A)} {d : A}
    → from ≤ x → Where P x from ms d → P (ranged x ms d)
unfolding ranged
ranged-where P x l (other p) = p l
ranged-where P x l (◌next◌ {from} {m} {ms} {d} p q) = go (ltb x m.0) refl (λ h. ranged-where P x h q)
  where
    go : (t : Bool) → ltb x m.0 ≡ t → (m.0 ≤ x → P (ranged x ms d)) → P (pick t m.1 (ranged x ms d))
    go true e r = p l (ltb-true x m.0 e)
    go false e r = r (ltb-false x m.0 e)

-- ---- in a list and outside it

module _ (first last x : ℕ) where
  abbrev pub Inside : Type 0
  Inside = (first ≤ x) × (x ≤ last)

  abbrev pub Outside : Type 0
  Outside = first ≤ x → x ≤ last → ⊥

  pub inside : Inside → within first last x ≡ true
  inside (l, m) = rw (le-leb first x l, le-leb x last m)

  pub outside : Outside → within first last x ≡ false
  outside n = go (leb first x) refl (leb x last) refl
    where
      go : (t : Bool) → leb first x ≡ t → (u : Bool) → leb x last ≡ u → (t && u) ≡ false
      go true p true q = absurd (n (leb-true first x p) (leb-true x last q))
      go true p false q = refl
      go false p u q = refl
