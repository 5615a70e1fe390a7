-- Words of a long deck are in range, by a test that goes over their bytes once. Assumes nothing.
use Prim.Native.Nat.{ℕ, zero, suc, ◌+◌, ◌*◌, ◌/◌, ◌<◌, ◌≤◌}
use mathlib.Core.Path.{◌≡◌, refl, ap₂}
use mathlib.Core.Bool.{Bool, true, false, ◌&&◌, and-eq-true_iff, false≢true}
use mathlib.Core.List.{List, [], ◌∷◌}
use native.Mathlib.Omega.{arith}
use lib.Dec.{ltb}
use lib.ListN.{length, get_or}
use borrow.Author.Tests.{ltb-true, lt-ltb, le-leb}
use Rattle.choose.specs.Below.{all_below}
use Rattle.deck.specs.Ranges.{words_in_range}
use Rattle.numbers.specs.Numbers.{pair_of, quad_at, word_at}

-- each four bytes are a word below 2^22
abbrev word_test : ℕ → ℕ → ℕ → ℕ → Bool
word_test p q r t = ltb (pair_of p q + 65536 * pair_of r t) 0x40_0000

abbrev words_test : List ℕ → Bool
words_test [] = true
words_test (p ∷ []) = false
words_test (p ∷ q ∷ []) = false
words_test (p ∷ q ∷ r ∷ []) = false
words_test (p ∷ q ∷ r ∷ t ∷ xs) = word_test p q r t && words_test xs

-- what stands after four bytes
past-four : (p q r t : ℕ) (xs : List ℕ) (n i : ℕ) → n ≡ 4 + i → get_or (p ∷ q ∷ r ∷ t ∷ xs) n 0 ≡ get_or xs i 0
past-four p q r t xs n i e =
    let e' : n ≡ suc (suc (suc (suc i))) = omega arith in
    rw e'

word_below : (xs : List ℕ) → words_test xs ≡ true → (i : ℕ) → quad_at xs (i * 4) < 0x40_0000
word_below [] h i = omega arith
word_below (p ∷ []) h i = absurd (false≢true h)
word_below (p ∷ q ∷ []) h i = absurd (false≢true h)
word_below (p ∷ q ∷ r ∷ []) h i = absurd (false≢true h)
word_below (p ∷ q ∷ r ∷ t ∷ xs) h zero = ltb-true _ _ ((and-eq-true_iff (word_test p q r t) (words_test xs)).0 h).0
word_below (p ∷ q ∷ r ∷ t ∷ xs) h (suc i) =
    let rest = word_below xs ((and-eq-true_iff (word_test p q r t) (words_test xs)).0 h).1 i in
    let one = past-four p q r t xs (suc i * 4) (i * 4) (omega arith) in
    let two = past-four p q r t xs (suc i * 4 + 1) (i * 4 + 1) (omega arith) in
    let three = past-four p q r t xs (suc i * 4 + 2) (i * 4 + 2) (omega arith) in
    let four = past-four p q r t xs (suc i * 4 + 2 + 1) (i * 4 + 2 + 1) (omega arith) in
    omega arith

all_hold_lem : (n : ℕ) (f : ℕ → Bool) → ((i : ℕ) → f i ≡ true) → all_below n f ≡ true
all_hold_lem zero f h = refl
all_hold_lem (suc n) f h = ap₂ ◌&&◌ (h n) (all_hold_lem n f h)

pub words-tested : (ws : List ℕ) → words_test ws ≡ true → length ws / 4 ≤ 2048 → words_in_range ws ≡ true
unfolding words_in_range word_at
words-tested ws t l = ap₂ ◌&&◌ (le-leb _ _ l) (all_hold_lem (length ws / 4) _ (λ i. lt-ltb _ _ (word_below ws t i)))
