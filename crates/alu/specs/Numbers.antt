-- Numbers of n bytes, low end first, and their sums, left shifts and differences, a byte cycle for each byte.
use Rattle.std.specs.Prelude.{ℕ, ◌+◌, ◌-◌, ◌*◌, ◌^◌, Bool, ◌||◌, List, [], ◌∷◌, ltb, leb}
use Rattle.choose.specs.Ranged.{bit}
use Rattle.alu.specs.Cycle.{add_of, left_of, biased}

-- the number that bytes stand for
abbrev pub value : List ℕ → ℕ
value [] = 0
value (x ∷ xs) = x + 256 * value xs

-- the bytes of a sum, the carry out of its last cycle, and V of its last cycle
abbrev pub sum_bytes : List ℕ → List ℕ → Bool → List ℕ
sum_bytes [] qs c = []
sum_bytes (p ∷ ps) [] c = []
sum_bytes (p ∷ ps) (q ∷ qs) c = (add_of p q c).result ∷ sum_bytes ps qs (add_of p q c).c8

abbrev pub carry_out : List ℕ → List ℕ → Bool → Bool
carry_out [] qs c = c
carry_out (p ∷ ps) [] c = c
carry_out (p ∷ ps) (q ∷ qs) c = carry_out ps qs (add_of p q c).c8

abbrev pub last_v : List ℕ → List ℕ → Bool → Bool → Bool
last_v [] qs c v = v
last_v (p ∷ ps) [] c v = v
last_v (p ∷ ps) (q ∷ qs) c v = last_v ps qs (add_of p q c).c8 (add_of p q c).v

-- the same of a left shift, a left cycle for each byte: its bytes, the carry out of its last cycle, and V of its last cycle
abbrev pub shifted_bytes : List ℕ → Bool → List ℕ
shifted_bytes [] c = []
shifted_bytes (q ∷ qs) c = (left_of q c).result ∷ shifted_bytes qs (left_of q c).c8

abbrev pub shifted_out : List ℕ → Bool → Bool
shifted_out [] c = c
shifted_out (q ∷ qs) c = shifted_out qs (left_of q c).c8

abbrev pub shifted_v : List ℕ → Bool → Bool → Bool
shifted_v [] c v = v
shifted_v (q ∷ qs) c v = shifted_v qs (left_of q c).c8 (left_of q c).v

-- 255 - q of each byte: a difference adds these
abbrev pub ones : List ℕ → List ℕ
ones [] = []
ones (q ∷ qs) = (255 - q) ∷ ones qs

-- half the range of a signed number of n + 1 bytes
abbrev pub half : ℕ → ℕ
half n = 128 * 256 ^ n

-- the signed difference of x, y and a borrow is outside -h to h - 1, each number with h added
abbrev pub difference_outside : ℕ → ℕ → ℕ → Bool → Bool
difference_outside h x y b = ltb (biased h x + h) (biased h y + bit b) || leb (biased h y + bit b + h) (biased h x)
