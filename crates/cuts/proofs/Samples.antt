-- The samples of a section that is cut. Assumes nothing.
use Prim.Native.Nat.{ℕ, zero, suc, ◌+◌, ◌*◌, ◌<◌}
use mathlib.Core.Path.{◌≡◌, refl, sym, ap, ap₂, ◌∙◌}
use mathlib.Core.List.{List, ◌∷◌, ◌++◌}
use native.Mathlib.Nat.{add-zero}
use native.Mathlib.Omega.{arith}
use lib.ListN.{take, drop}
use lib.Seq.{get_or-take, get_or-drop}
use Rattle.deck.specs.Elements.{sample_at}
use Rattle.engine.specs.Run.{samples_from}
use Rattle.numbers.specs.Numbers.{byte_at}
use Rattle.state.specs.declared.Sample.{Sample}

-- four bytes that are the same
sample-same : (s t : List ℕ) (i k : ℕ) → ((j : ℕ) → j < 4 → byte_at s (i * 4 + j) ≡ byte_at t (k * 4 + j)) → sample_at s i ≡ sample_at t k
unfolding sample_at
sample-same s t i k e =
    let low : byte_at s (i * 4) ≡ byte_at t (k * 4) =
    ap (byte_at s) (sym (add-zero (i * 4))) ∙ e 0 (omega arith) ∙ ap (byte_at t) (add-zero (k * 4)) in
    rw (low, e 1 (omega arith), e 2 (omega arith), e 3 (omega arith))

samples-same : (s t : List ℕ) (n i k : ℕ) → ((j : ℕ) → j < n → sample_at s (i + j) ≡ sample_at t (k + j)) → samples_from s i n ≡ samples_from t k n
unfolding samples_from
samples-same s t zero i k e = refl
samples-same s t (suc n) i k e =
    let here : sample_at s i ≡ sample_at t k = ap (sample_at s) (sym (add-zero i)) ∙ e 0 (omega arith) ∙ ap (sample_at t) (add-zero k) in
    ap₂ (λ (x : Sample) (xs : List Sample). x ∷ xs) here
    (samples-same s t n (suc i) (suc k)
    (λ j l. ap (sample_at s) (omega arith) ∙ e (suc j) (omega arith) ∙ ap (sample_at t) (omega arith)))

samples-add : (s : List ℕ) (n m i : ℕ) → samples_from s i (n + m) ≡ samples_from s i n ++ samples_from s (i + n) m
unfolding samples_from
samples-add s zero m i =
    let none : zero + m ≡ m = omega arith in
    ap₂ (samples_from s) (sym (add-zero i)) none
samples-add s (suc n) m i =
    let more : suc n + m ≡ suc (n + m) = omega arith in
    let past : suc i + n ≡ i + suc n = omega arith in
    rw (more, ← past) (ap (λ (xs : List Sample). sample_at s i ∷ xs) (samples-add s n m (suc i)))

-- a sample of the first n, and one of those that are left
pub sample-first : (s : List ℕ) (n i : ℕ) → i < n → sample_at s i ≡ sample_at (take (n * 4) s) i
sample-first s n i l = sample-same s (take (n * 4) s) i i (λ j k. sym (get_or-take (n * 4) s (i * 4 + j) 0 (omega arith)))

sample-left : (s : List ℕ) (n i : ℕ) → sample_at s (n + i) ≡ sample_at (drop (n * 4) s) i
sample-left s n i = sample-same s (drop (n * 4) s) (n + i) i (λ j k. ap (byte_at s) (omega arith) ∙ sym (get_or-drop (n * 4) s (i * 4 + j) 0))

-- the first n samples and the m that are left are all of them
pub samples-cut : (s : List ℕ) (n m : ℕ) → samples_from s 0 (n + m) ≡ samples_from (take (n * 4) s) 0 n ++ samples_from (drop (n * 4) s) 0 m
samples-cut s n m =
    samples-add s n m 0
    ∙ ap₂ (λ (xs ys : List Sample). xs ++ ys)
    (samples-same s (take (n * 4) s) n 0 0 (λ j l. sample-first s n (0 + j) (omega arith)))
    (samples-same s (drop (n * 4) s) m (0 + n) 0
    (λ j l. ap (sample_at s) (omega arith) ∙ sample-left s n (0 + j)))
