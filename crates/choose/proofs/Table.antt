-- From a test that antt computed to the rule at each number below n, and at each entry of a table: by induction over n, over the table.
use mathlib.Core.Path.{◌≡◌, ◌∙◌, ap, refl, subst, sym}
use mathlib.Core.Bool.{Bool, true, false, beq, false≢true}
use mathlib.Core.List.{List, [], ◌∷◌}
use Prim.Native.Nat.{ℕ, zero, suc, ◌+◌, ◌<◌}
use native.Mathlib.Nat.{add-zero, zero-add, add-suc, suc-add, le_of_suc-le-suc, not-suc-le-zero}
use native.Mathlib.Omega.{arith}
use lib.Dec.{T, ltb, eqb, eqb→eq}
use lib.ListN.{length, get_or}
use borrow.Author.Tests.{ltb-true, ltb-false}
use Rattle.choose.specs.Below.{all_below, all_equal, all_same, every, firsts}
use Rattle.choose.proofs.Tests.{both_left, both_right, equal-tests, holds}

-- the pairs' equations, one after the other
abbrev pub Equal : List (ℕ × ℕ) → Type 0
Equal [] = Unit {0}
Equal (p ∷ ps) = (p.0 ≡ p.1) × Equal ps

pub all-equal : (ps : List (ℕ × ℕ)) → T (all_equal ps) → Equal ps
all-equal [] t = tt
all-equal (p ∷ ps) t =
    let first = eqb p.0 p.1 in
    (eqb→eq p.0 p.1 (both_left first (all_equal ps) t), all-equal ps (both_right first (all_equal ps) t))

-- and of pairs of tests
abbrev pub SameTests : List (Bool × Bool) → Type 0
SameTests [] = Unit {0}
SameTests (p ∷ ps) = (p.0 ≡ p.1) × SameTests ps

pub all-same-tests : (ps : List (Bool × Bool)) → T (all_same ps) → SameTests ps
all-same-tests [] t = tt
all-same-tests (p ∷ ps) t =
    let first = beq p.0 p.1 in
    (equal-tests p.0 p.1 (both_left first (all_same ps) t), all-same-tests ps (both_right first (all_same ps) t))

-- a test that passed at all numbers below n passed at each
pub below : (n : ℕ) (f : ℕ → Bool) → T (all_below n f) → (k : ℕ) → k < n → T (f k)
below zero f t k h = absurd (not-suc-le-zero h)
below (suc n) f t k h = go (ltb k n) refl (below n f (both_right (f n) (all_below n f) t) k)
  where
    go : (b : Bool) → ltb k n ≡ b → (k < n → T (f k)) → T (f k)
    go true e lower = lower (ltb-true k n e)
    go false e lower =
        let same : n ≡ k = omega (arith, ltb-false k n e) in
        rw same at (both_left (f n) (all_below n f) t)

-- from the test of all numbers, and from one that fails
module _ (test : ℕ → Bool) where
  pub all-at : (n i : ℕ) → all_below n test ≡ true → i < n → test i ≡ true
  all-at n i e l = holds (test i) (below n test (rw e tt) i l)

  pub all-fails : (n i : ℕ) → i < n → test i ≡ false → all_below n test ≡ false
  all-fails n i l h = go (all_below n test) refl
    where
      go : (t : Bool) → all_below n test ≡ t → t ≡ false
      go true e = absurd (false≢true (sym h ∙ all-at n i e l))
      go false e = refl

-- two tests that agree
pub all_same_lem : (p q : ℕ → Bool) → ((i : ℕ) → p i ≡ q i) → (n : ℕ) → all_below n p ≡ all_below n q
all_same_lem p q e zero = refl
all_same_lem p q e (suc n) = rw (e n, all_same_lem p q e n)

from : (f : ℕ → ℕ → Bool) (xs : List ℕ) (i : ℕ) → T (every f i xs) → (k : ℕ) → k < length xs → T (f (i + k) (get_or xs k 0))
from f [] i t k h = absurd (not-suc-le-zero h)
from f (x ∷ xs) i t zero h = subst (λ (m : ℕ). T (f m x)) (sym (add-zero i)) (both_left (f i x) (every f (suc i) xs) t)
from f (x ∷ xs) i t (suc k) h =
    subst (λ (m : ℕ). T (f m (get_or xs k 0))) (suc-add i k ∙ sym (add-suc i k))
    (from f xs (suc i) (both_right (f i x) (every f (suc i) xs) t) k (le_of_suc-le-suc h))

-- a test that passed at all entries of a table passed at each
pub at : (f : ℕ → ℕ → Bool) (xs : List ℕ) → T (every f 0 xs) → (k : ℕ) → k < length xs → T (f k (get_or xs k 0))
at f xs t k h = subst (λ (m : ℕ). T (f m (get_or xs k 0))) (zero-add k) (from f xs 0 t k h)

module _ {A : Type 0} where
  later : (f : ℕ → A) (d : A) (n i k : ℕ) → k < n → get_or (firsts f i n) k d ≡ f (i + k)
  later f d zero i k h = absurd (not-suc-le-zero h)
  later f d (suc n) i zero h = ap f (sym (add-zero i))
  later f d (suc n) i (suc k) h = later f d n (suc i) k (le_of_suc-le-suc h) ∙ ap f (suc-add i k ∙ sym (add-suc i k))

  -- a table of the first n values of f holds f of each place
  pub firsts_at : (f : ℕ → A) (d : A) (n k : ℕ) → k < n → get_or (firsts f 0 n) k d ≡ f k
  firsts_at f d n k h = later f d n 0 k h ∙ ap f (zero-add k)
