-- What lies past the end reads as 0; parts of bytes are bytes; two bytes or four and the number that they make. Assumes nothing.
use mathlib.Core.Path.{◌≡◌}
use mathlib.Core.List.{List, [], ◌∷◌, ◌++◌}
use Prim.Native.Nat.{ℕ, zero, suc, ◌+◌, ◌*◌, ◌/◌, ◌%◌, ◌<◌, ◌≤◌}
use native.Mathlib.Omega.{arith}
use lib.ListN.{length, take, drop, set, get_or-eq_default}
use Rattle.numbers.specs.Laid.{number_at}
use Rattle.numbers.specs.Numbers.{byte_at, pair_at, quad_at, word_at, Bytes}

pub byte_past : (s : List ℕ) (a : ℕ) → length s ≤ a → byte_at s a ≡ 0
byte_past s a h = get_or-eq_default s 0 h

pub pair-past : (s : List ℕ) (a : ℕ) → length s ≤ a → pair_at s a ≡ 0
pair-past s a h = omega (arith, byte_past s a h, byte_past s (a + 1) (omega arith))

pub quad-past : (s : List ℕ) (a : ℕ) → length s ≤ a → quad_at s a ≡ 0
quad-past s a h = omega (arith, pair-past s a h, pair-past s (a + 2) (omega arith))

-- ---- bytes and their parts
pub byte-below : (s : List ℕ) → Bytes s → (i : ℕ) → byte_at s i < 256
byte-below [] b i = omega arith
byte-below (x ∷ s) b zero = b.0
byte-below (x ∷ s) b (suc i) = byte-below s b.1 i

pub bytes-each : (s : List ℕ) → ((i : ℕ) → byte_at s i < 256) → Bytes s
bytes-each [] f = tt
bytes-each (x ∷ s) f = (f 0, bytes-each s (λ i. f (suc i)))

pub take-bytes : (n : ℕ) (s : List ℕ) → Bytes s → Bytes (take n s)
take-bytes zero s b = tt
take-bytes (suc n) [] b = tt
take-bytes (suc n) (x ∷ s) b = (b.0, take-bytes n s b.1)

pub drop-bytes : (n : ℕ) (s : List ℕ) → Bytes s → Bytes (drop n s)
drop-bytes zero s b = b
drop-bytes (suc n) [] b = tt
drop-bytes (suc n) (x ∷ s) b = drop-bytes n s b.1

pub append-bytes : (xs ys : List ℕ) → Bytes xs → Bytes ys → Bytes (xs ++ ys)
append-bytes [] ys a b = b
append-bytes (x ∷ xs) ys a b = (a.0, append-bytes xs ys a.1 b)

pub set-bytes : (xs : List ℕ) (i v : ℕ) → Bytes xs → v < 256 → Bytes (set xs i v)
set-bytes [] i v b h = tt
set-bytes (x ∷ xs) zero v b h = (h, b.1)
set-bytes (x ∷ xs) (suc i) v b h = (b.0, set-bytes xs i v b.1 h)

-- ---- two bytes
pub pair-low : (s : List ℕ) → Bytes s → (a : ℕ) → pair_at s a % 256 ≡ byte_at s a
pair-low s b a = omega (arith, byte-below s b a)

pub pair-high : (s : List ℕ) → Bytes s → (a : ℕ) → pair_at s a / 256 ≡ byte_at s (a + 1)
pair-high s b a = omega (arith, byte-below s b a)

pub pair-below : (s : List ℕ) → Bytes s → (a : ℕ) → pair_at s a < 65536
pair-below s b a = omega (arith, byte-below s b a, byte-below s b (a + 1))

-- ---- four bytes
pub quad-bytes : (s : List ℕ) (a : ℕ) → quad_at s a ≡ byte_at s a + 256 * byte_at s (a + 1) + 65536 * byte_at s (a + 2) + 16777216 * byte_at s (a + 3)
quad-bytes s a = let e : a + 2 + 1 ≡ a + 3 = omega arith in rw e (omega arith)

-- "Words: 4 bytes each", low first: word i stands in four bytes of its own
pub word_number : (s : List ℕ) (i : ℕ) → word_at s i ≡ number_at s (i * 4) 4
unfolding word_at
word_number s i = let e : i * 4 + 1 + 1 ≡ i * 4 + 2 = omega arith in rw e (omega arith)

-- lists that agree so far have the same number there
pub quad-same : (b c : List ℕ) (at : ℕ) → ((i : ℕ) → i < at + 4 → byte_at b i ≡ byte_at c i) → quad_at b at ≡ quad_at c at
quad-same b c at f =
    omega (arith, f at (omega arith), f (at + 1) (omega arith), f (at + 2) (omega arith), f (at + 2 + 1) (omega arith))
