-- Numbers in bytes: "two bytes, low first; so are all numbers here". What is missing reads as 0.
use Rattle.std.specs.Prelude.{List, [], ◌∷◌, ℕ, ◌+◌, ◌*◌, ◌<◌, get_or}

abbrev pub byte_at : List ℕ → ℕ → ℕ
byte_at s a = get_or s a 0

abbrev pub pair_of : ℕ → ℕ → ℕ
pair_of low high = low + 256 * high

abbrev pub pair_at : List ℕ → ℕ → ℕ
pair_at s a = pair_of (byte_at s a) (byte_at s (a + 1))

abbrev pub quad_of : ℕ → ℕ → ℕ → ℕ → ℕ
quad_of b0 b1 b2 b3 = pair_of b0 b1 + 65536 * pair_of b2 b3

abbrev pub quad_at : List ℕ → ℕ → ℕ
quad_at s a = pair_at s a + 65536 * pair_at s (a + 2)

-- "Words: 4 bytes each": word i
unfoldable pub word_at : List ℕ → ℕ → ℕ
word_at s i = quad_at s (i * 4)

-- a list whose numbers are bytes
abbrev pub Bytes : List ℕ → Type 0
Bytes [] = Unit {0}
Bytes (x ∷ xs) = (x < 256) × Bytes xs
