-- The registers that `load` fills and the bytes that `store` writes, by the laws of lists. Assumes nothing.
use mathlib.Core.Path.{◌≡◌, refl, ap, ◌∙◌}
use mathlib.Core.List.{List, [], ◌∷◌, ◌++◌, append-nil}
use Prim.Native.Nat.{ℕ, zero, suc, ◌+◌, ◌<◌}
use native.Mathlib.Numerals.{add-one}
use native.Mathlib.Omega.{arith}
use lib.ListN.{length, get_or, take, set, replicate, length-append, length-replicate, drop_of_length-le}
use lib.Seq.{paste, paste-suc}
use borrow.Author.Tests.{eq-eqb, ne_eqb}
use Rattle.state.specs.declared.Core.{Core}
use Rattle.state_bytes.specs.Bytes.{state_bytes, padded, file_of, tail_of, stored_of}

zeros-at : (n i : ℕ) → ◌≡◌ {A = ℕ} (get_or (replicate n 0) i 0) 0
zeros-at zero i = refl
zeros-at (suc n) zero = refl
zeros-at (suc n) (suc i) = zeros-at n i

-- a byte past the end reads as 0
pub padded-at : (s : List ℕ) (n i : ℕ) → get_or (padded s n) i 0 ≡ get_or s i 0
padded-at [] n i = zeros-at n i
padded-at (x ∷ s) n zero = refl
padded-at (x ∷ s) n (suc i) = padded-at s n i

pub padded-length : (s : List ℕ) (n : ℕ) → length (padded s n) ≡ length s + n
padded-length s n = simp (length-append, length-replicate)

-- a turn: the byte at i is stored
pub fill_more : (d s : List ℕ) (i b : ℕ) → length d ≡ 26 → i < 26 → b ≡ get_or s i 0
    → set (paste d 0 (padded s 26) i) i b ≡ paste d 0 (padded s 26) (i + 1)
fill_more d s i b l h e =
    let place : i ≡ 0 + i = omega arith in
    rw (e, ← padded-at s 26 i, add-one)
    (ap (λ (j : ℕ). set (paste d 0 (padded s 26) i) j (get_or (padded s 26) i 0)) place
    ∙ paste-suc d 0 (padded s 26) i 0 (omega arith) (omega (arith, padded-length s 26)))

-- a file of 26 that `load` has filled
pub loaded : (d s : List ℕ) → length d ≡ 26 → paste d 0 (padded s 26) 26 ≡ file_of s
unfolding file_of
loaded d s e = rw (drop_of_length-le d {i = 26} (omega arith)) (append-nil (take 26 (padded s 26)))

pub tail-length : (k : Core) → length (tail_of k) ≡ 16
unfolding tail_of
tail-length k = refl

-- a state's buffer that `store` has filled
pub stored : (d xs : List ℕ) (k : Core) → length d ≡ state_bytes → xs ++ tail_of k ≡ stored_of xs k d
unfolding stored_of
stored d xs k e = rw (eq-eqb (length d) state_bytes e)

-- a buffer of another length
pub unstored : (d xs : List ℕ) (k : Core) → (length d ≡ state_bytes → ⊥) → d ≡ stored_of xs k d
unfolding stored_of
unstored d xs k n = rw (ne_eqb (length d) state_bytes n)
