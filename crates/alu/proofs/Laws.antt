-- Laws of one byte cycle, and of sums, left shifts and differences of any number of bytes: each proved once, over the number of bytes.
-- Assumes nothing.
use Prim.Native.Nat.{ℕ, suc, ◌+◌, ◌-◌, ◌*◌, ◌^◌, ◌%◌, ◌<◌}
use mathlib.Core.Path.{◌≡◌, refl, ap, ap₂, ◌∙◌, sym}
use mathlib.Core.Bool.{Bool, true, false, not, ◌||◌, beq}
use mathlib.Core.List.{List, [], ◌∷◌}
use native.Mathlib.Omega.{arith}
use native.Mathlib.Nat.{add-zero, pow-succ', mul_assoc}
use lib.Dec.{T, ltb, leb}
use lib.ListN.{length}
use borrow.Author.Tests.{leb-true, leb-false, ltb-true, ltb-false, lt-ltb, le-ltb, le-leb, lt-leb}
use Rattle.choose.specs.Below.{all_below}
use Rattle.choose.specs.Ranged.{bit, pick}
use Rattle.choose.proofs.Table.{below}
use Rattle.choose.proofs.Tests.{equal-tests, same-below, same_from, bit_le}
use Rattle.alu.specs.Cycle.{add_of, left_of, biased, sum_outside}
use Rattle.alu.specs.Numbers.{value, sum_bytes, carry_out, last_v, shifted_bytes, shifted_out, shifted_v, ones, half, difference_outside}
use Rattle.numbers.specs.Numbers.{Bytes}

-- ---- one byte

pub not-bit : (t : Bool) → bit (not t) + bit t ≡ 1
not-bit true = refl
not-bit false = refl

bit_not : (s t : Bool) → bit s + bit t ≡ 1 → s ≡ not t
bit_not true true e = absurd (omega arith)
bit_not true false e = refl
bit_not false true e = refl
bit_not false false e = absurd (omega arith)

pub result-byte : (p q : ℕ) (c : Bool) → (add_of p q c).result < 256
unfolding add_of
result-byte p q c = omega arith

-- result and carry together are the sum
pub byte-sum : (p q : ℕ) (c : Bool) → p < 256 → q < 256 → (add_of p q c).result + 256 * bit (add_of p q c).c8 ≡ p + q + bit c
unfolding add_of
byte-sum p q c hp hq = go (leb 256 (p + q + bit c)) refl
  where
    go : (t : Bool) → leb 256 (p + q + bit c) ≡ t → (p + q + bit c) % 256 + 256 * bit t ≡ p + q + bit c
    go true e = omega (arith, leb-true 256 (p + q + bit c) e, bit_le c)
    go false e = omega (arith, leb-false 256 (p + q + bit c) e)

-- ---- any number of bytes

pub sum-bytes : (ps qs : List ℕ) (c : Bool) → Bytes (sum_bytes ps qs c)
sum-bytes [] qs c = tt
sum-bytes (p ∷ ps) [] c = tt
sum-bytes (p ∷ ps) (q ∷ qs) c = (result-byte p q c, sum-bytes ps qs (add_of p q c).c8)

pub sum-length : (ps qs : List ℕ) (c : Bool) → length ps ≡ length qs → length (sum_bytes ps qs c) ≡ length ps
sum-length [] qs c e = refl
sum-length (p ∷ ps) [] c e = absurd (omega arith)
sum-length (p ∷ ps) (q ∷ qs) c e = ap suc (sum-length ps qs (add_of p q c).c8 (omega arith))

pub value-below : (xs : List ℕ) → Bytes xs → value xs < 256 ^ length xs
value-below [] b = omega arith
value-below (x ∷ xs) b = let ih = value-below xs b.1 in rw (pow-succ' 256 (length xs)) (omega arith)

-- the bytes of a sum and its carry together are the sum
pub sum-law : (ps qs : List ℕ) (c : Bool) → Bytes ps → Bytes qs → length ps ≡ length qs
    → value (sum_bytes ps qs c) + 256 ^ length ps * bit (carry_out ps qs c) ≡ value ps + value qs + bit c
sum-law [] [] c bp bq e = omega arith
sum-law [] (q ∷ qs) c bp bq e = omega arith
sum-law (p ∷ ps) [] c bp bq e = omega arith
sum-law (p ∷ ps) (q ∷ qs) c bp bq e =
    let ih = sum-law ps qs (add_of p q c).c8 bp.1 bq.1 (omega arith) in
    let s = byte-sum p q c bp.0 bq.0 in
    rw (pow-succ' 256 (length ps), mul_assoc 256) (omega arith)

pub ones_value : (qs : List ℕ) → Bytes qs → value (ones qs) + value qs + 1 ≡ 256 ^ length qs
ones_value [] b = refl
ones_value (q ∷ qs) b = let ih = ones_value qs b.1 in rw (pow-succ' 256 (length qs)) (omega arith)

pub ones-bytes : (qs : List ℕ) → Bytes qs → Bytes (ones qs)
ones-bytes [] b = tt
ones-bytes (q ∷ qs) b = (omega arith, ones-bytes qs b.1)

pub ones-length : (qs : List ℕ) → length (ones qs) ≡ length qs
ones-length [] = refl
ones-length (q ∷ qs) = ap suc (ones-length qs)

-- a difference: its bytes, what was taken and the borrow in are what there was, and 256 ^ n more where the carry is 0
pub difference-law : (ps qs : List ℕ) (b : Bool) → Bytes ps → Bytes qs → length ps ≡ length qs
    → value (sum_bytes ps (ones qs) (not b)) + 256 ^ length ps * bit (carry_out ps (ones qs) (not b)) + value qs + bit b ≡ value ps + 256 ^ length ps
difference-law ps qs b bp bq e =
    let s = sum-law ps (ones qs) (not b) bp (ones-bytes qs bq) (e ∙ sym (ones-length qs)) in
    let o = ones_value qs bq in
    let w : 256 ^ length ps ≡ 256 ^ length qs = ap (λ (n : ℕ). 256 ^ n) e in
    omega (arith, not-bit b)

-- ---- the carry and the borrow

-- with r below w, the digit above r in r + w * bit t tells t
from-digit : (r w s : ℕ) (t : Bool) → r < w → r + w * bit t ≡ s → t ≡ leb w s
from-digit r w s true h e = sym (le-leb w s (omega arith))
from-digit r w s false h e = sym (lt-leb w s (omega arith))

-- the carry out says that the sum has no room in n bytes
pub carry-law : (ps qs : List ℕ) (c : Bool) → Bytes ps → Bytes qs → length ps ≡ length qs
    → carry_out ps qs c ≡ leb (256 ^ length ps) (value ps + value qs + bit c)
carry-law ps qs c bp bq e =
    let below = rw (sum-length ps qs c e) at (value-below (sum_bytes ps qs c) (sum-bytes ps qs c)) in
    from-digit (value (sum_bytes ps qs c)) (256 ^ length ps) (value ps + value qs + bit c) (carry_out ps qs c) below (sum-law ps qs c bp bq e)

-- the borrow, the complement of the carry, says that more was taken than there was
pub borrow-law : (ps qs : List ℕ) (b : Bool) → Bytes ps → Bytes qs → length ps ≡ length qs
    → not (carry_out ps (ones qs) (not b)) ≡ ltb (value ps) (value qs + bit b)
borrow-law ps qs b bp bq e = go (carry_out ps (ones qs) (not b)) (difference-law ps qs b bp bq e) below
  where
    below : value (sum_bytes ps (ones qs) (not b)) < 256 ^ length ps
    below =
        rw (sum-length ps (ones qs) (not b) (e ∙ sym (ones-length qs))) at
        (value-below (sum_bytes ps (ones qs) (not b)) (sum-bytes ps (ones qs) (not b)))

    go : (t : Bool) → value (sum_bytes ps (ones qs) (not b)) + 256 ^ length ps * bit t + value qs + bit b ≡ value ps + 256 ^ length ps
        → value (sum_bytes ps (ones qs) (not b)) < 256 ^ length ps → not t ≡ ltb (value ps) (value qs + bit b)
    go true d l = sym (le-ltb (value ps) (value qs + bit b) (omega arith))
    go false d l = sym (lt-ltb (value ps) (value qs + bit b) (omega arith))

-- ---- back again

digits-back : (p r k j : ℕ) → p < 256 → r < 256 → r + 256 * k + 256 * j ≡ p + 256 → (r ≡ p) × (k + j ≡ 1)
digits-back p r k j hp hr e = omega arith

-- one byte: the sum less what was added is what there was, and the borrow is the sum's carry
byte-back : (p q : ℕ) (c : Bool) → p < 256 → q < 256
    → ((add_of (add_of p q c).result (255 - q) (not c)).result ≡ p) × ((add_of (add_of p q c).result (255 - q) (not c)).c8 ≡ not (add_of p q c).c8)
byte-back p q c hp hq =
    let x = add_of p q c in
    let h = byte-sum p q c hp hq in
    let k = byte-sum x.result (255 - q) (not c) (result-byte p q c) (omega arith) in
    let y = add_of x.result (255 - q) (not c) in
    let d = digits-back p y.result (bit y.c8) (bit x.c8) hp (result-byte x.result (255 - q) (not c)) (omega (arith, not-bit c)) in
    (d.0, bit_not y.c8 x.c8 d.1)

-- subtracting after adding gives the bytes back
pub back : (ps qs : List ℕ) (c : Bool) → Bytes ps → Bytes qs → length ps ≡ length qs → sum_bytes (sum_bytes ps qs c) (ones qs) (not c) ≡ ps
back [] [] c bp bq e = refl
back [] (q ∷ qs) c bp bq e = refl
back (p ∷ ps) [] c bp bq e = absurd (omega arith)
back (p ∷ ps) (q ∷ qs) c bp bq e =
    let ih = back ps qs (add_of p q c).c8 bp.1 bq.1 (omega arith) in
    let b = byte-back p q c bp.0 bq.0 in
    ap₂ ◌∷◌ b.0 (rw b.1 ih)

-- ---- V of the last cycle is about the whole number

-- a low digit below 256 moves no test at a multiple of 256
digit-below : (r t k : ℕ) → r < 256 → ltb t k ≡ ltb (r + 256 * t) (256 * k)
digit-below r t k h = same-below t k (r + 256 * t) (256 * k) (λ l. omega arith) (λ l. omega arith)

pub digit-from : (r t k : ℕ) → r < 256 → leb k t ≡ leb (256 * k) (r + 256 * t)
digit-from r t k h = same_from k t (256 * k) (r + 256 * t) (λ l. omega arith) (λ l. omega arith)

-- nor the signed number's sign
biased-digit : (h x p : ℕ) → p < 256 → biased (256 * h) (p + 256 * x) ≡ p + 256 * biased h x
biased-digit h x p l = ap (λ (t : Bool). pick t (p + 256 * x + 256 * h) (p + 256 * x - 256 * h)) (sym (digit-below p x h l)) ∙ go (ltb x h) refl
  where
    go : (t : Bool) → ltb x h ≡ t → pick t (p + 256 * x + 256 * h) (p + 256 * x - 256 * h) ≡ p + 256 * pick t (x + h) (x - h)
    go true e = omega arith
    go false e = omega (arith, ltb-false x h e)

outside-digit : (h x y p q r : ℕ) (c k : Bool) → p < 256 → q < 256 → r < 256 → r + 256 * bit k ≡ p + q + bit c
    → sum_outside h x y k ≡ sum_outside (256 * h) (p + 256 * x) (q + 256 * y) c
outside-digit h x y p q r c k hp hq hr e =
    let t = biased h x + biased h y + bit k in
    let s = biased (256 * h) (p + 256 * x) + biased (256 * h) (q + 256 * y) + bit c in
    let whole : r + 256 * t ≡ s = omega (arith, biased-digit h x p hp, biased-digit h y q hq) in
    let third : 256 * (3 * h) ≡ 3 * (256 * h) = omega arith in
    ap₂ ◌||◌ (digit-below r t h hr ∙ ap (λ (n : ℕ). ltb n (256 * h)) whole) (digit-from r t (3 * h) hr ∙ ap₂ leb third whole)

-- w of the next byte up
pub step-up : (w n : ℕ) → w * 256 ^ suc n ≡ 256 * (w * 256 ^ n)
step-up w n = rw (pow-succ' 256 n) (omega arith)

v-byte : (p q : ℕ) (c : Bool) → (add_of p q c).v ≡ sum_outside (half 0) (value (p ∷ [])) (value (q ∷ [])) c
unfolding add_of
v-byte p q c = simp add-zero

-- V of the last of n + 1 cycles says that the signed sum of the whole numbers does not fit
pub v-law : (p q : ℕ) (ps qs : List ℕ) (c v : Bool) → Bytes (p ∷ ps) → Bytes (q ∷ qs) → length ps ≡ length qs
    → last_v (p ∷ ps) (q ∷ qs) c v ≡ sum_outside (half (length ps)) (value (p ∷ ps)) (value (q ∷ qs)) c
v-law p q [] [] c v bp bq e = v-byte p q c
v-law p q [] (y ∷ qs) c v bp bq e = absurd (omega arith)
v-law p q (x ∷ ps) [] c v bp bq e = absurd (omega arith)
v-law p q (x ∷ ps) (y ∷ qs) c v bp bq e =
    v-law x y ps qs (add_of p q c).c8 (add_of p q c).v bp.1 bq.1 (omega arith)
    ∙ outside-digit (half (length ps)) (value (x ∷ ps)) (value (y ∷ qs)) p q (add_of p q c).result c (add_of p q c).c8 bp.0 bq.0 (result-byte p q c)
    (byte-sum p q c bp.0 bq.0)
    ∙ ap (λ (h : ℕ). sum_outside h (value (p ∷ x ∷ ps)) (value (q ∷ y ∷ qs)) c) (sym (step-up 128 (length ps)))

-- the signed number of 255 - q for each byte, and that of the bytes, make one less than the range
biased-ones : (h y z : ℕ) → z + y + 1 ≡ 2 * h → biased h z + biased h y + 1 ≡ 2 * h
biased-ones h y z e = go (ltb z h) refl (ltb y h) refl
  where
    go : (s : Bool) → ltb z h ≡ s → (t : Bool) → ltb y h ≡ t → pick s (z + h) (z - h) + pick t (y + h) (y - h) + 1 ≡ 2 * h
    go true a true b = omega (arith, ltb-true z h a, ltb-true y h b)
    go true a false b = omega (arith, ltb-true z h a, ltb-false y h b)
    go false a true b = omega (arith, ltb-false z h a, ltb-true y h b)
    go false a false b = omega (arith, ltb-false z h a, ltb-false y h b)

outside-ones : (h x y z : ℕ) (b : Bool) → z + y + 1 ≡ 2 * h → sum_outside h x z (not b) ≡ difference_outside h x y b
outside-ones h x y z b e =
    let o = biased-ones h y z e in
    let n = not-bit b in
    ap₂ ◌||◌
    (same-below (biased h x + biased h z + bit (not b)) h (biased h x + h) (biased h y + bit b) (λ l. omega arith) (λ l. omega arith))
    (same_from (3 * h) (biased h x + biased h z + bit (not b)) (biased h y + bit b + h) (biased h x) (λ l. omega arith) (λ l. omega arith))

-- the same of a difference
pub v-difference-law : (p q : ℕ) (ps qs : List ℕ) (b v : Bool) → Bytes (p ∷ ps) → Bytes (q ∷ qs) → length ps ≡ length qs
    → last_v (p ∷ ps) (ones (q ∷ qs)) (not b) v ≡ difference_outside (half (length ps)) (value (p ∷ ps)) (value (q ∷ qs)) b
v-difference-law p q ps qs b v bp bq e =
    let o : value (ones (q ∷ qs)) + value (q ∷ qs) + 1 ≡ 2 * half (length ps)
    = ones_value (q ∷ qs) bq ∙ pow-succ' 256 (length qs) ∙ ap (λ (n : ℕ). 256 * 256 ^ n) (sym e) ∙ omega arith in
    v-law p (255 - q) ps (ones qs) (not b) v bp (ones-bytes (q ∷ qs) bq) (e ∙ sym (ones-length qs))
    ∙ outside-ones (half (length ps)) (value (p ∷ ps)) (value (q ∷ qs)) (value (ones (q ∷ qs))) b o

-- ---- 02, L2: "a left shift agrees with adding the operand to itself .., the C flag being the carry in for the forms with carry"

-- tests that are the same for each byte, with and without a carry in, as antt computes
abbrev same_for : (f g : Bool → ℕ → Bool) → Bool → ℕ → Bool
same_for f g c q = beq (f c q) (g c q)

same_tests : (f g : Bool → ℕ → Bool) → T (all_below 256 (same_for f g true)) → T (all_below 256 (same_for f g false)) → (q : ℕ) (c : Bool) → q < 256
    → f c q ≡ g c q
same_tests f g t u q true h = equal-tests (f true q) (g true q) (below 256 (same_for f g true) t q h)
same_tests f g t u q false h = equal-tests (f false q) (g false q) (below 256 (same_for f g false) u q h)

-- every output of the cycle
pub left-adds : (q : ℕ) (c : Bool) → q < 256 → left_of q c ≡ add_of q q c
unfolding left_of add_of
left-adds q c h =
    let result : (left_of q c).result ≡ (add_of q q c).result = omega (arith, bit_le c) in
    let carry = same_tests (λ d x. (left_of x d).c8) (λ d x. (add_of x x d).c8) tt tt q c h in
    λ i. record {
      result = result i;
      c4 = same_tests (λ d x. (left_of x d).c4) (λ d x. (add_of x x d).c4) tt tt q c h i;
      c8 = carry i;
      v = same_tests (λ d x. (left_of x d).v) (λ d x. (add_of x x d).v) tt tt q c h i;
      c = carry i;
    }

-- "The boards set V when a left shift changes the sign"
pub left-sign : (q : ℕ) (c : Bool) → q < 256 → (left_of q c).v ≡ not (beq (leb 128 (left_of q c).result) (leb 128 q))
unfolding left_of
left-sign = same_tests (λ d x. (left_of x d).v) (λ d x. not (beq (leb 128 (left_of x d).result) (leb 128 x))) tt tt

-- of any number of bytes
pub shifted-bytes : (qs : List ℕ) (c : Bool) → Bytes qs → shifted_bytes qs c ≡ sum_bytes qs qs c
shifted-bytes [] c b = refl
shifted-bytes (q ∷ qs) c b = rw (left-adds q c b.0) (ap (◌∷◌ (add_of q q c).result) (shifted-bytes qs (add_of q q c).c8 b.1))

pub shifted-out : (qs : List ℕ) (c : Bool) → Bytes qs → shifted_out qs c ≡ carry_out qs qs c
shifted-out [] c b = refl
shifted-out (q ∷ qs) c b = rw (left-adds q c b.0) (shifted-out qs (add_of q q c).c8 b.1)

pub shifted-v : (qs : List ℕ) (c v : Bool) → Bytes qs → shifted_v qs c v ≡ last_v qs qs c v
shifted-v [] c v b = refl
shifted-v (q ∷ qs) c v b = rw (left-adds q c b.0) (shifted-v qs (add_of q q c).c8 (add_of q q c).v b.1)

-- so the bytes and the carry together are the number twice, and the carry in
pub double-law : (qs : List ℕ) (c : Bool) → Bytes qs → value (shifted_bytes qs c) + 256 ^ length qs * bit (shifted_out qs c) ≡ 2 * value qs + bit c
double-law qs c b = rw (shifted-bytes qs c b, shifted-out qs c b) (sum-law qs qs c b b refl ∙ omega arith)

-- and V says that the signed number twice, and the carry in, does not fit
pub v-double-law : (q : ℕ) (qs : List ℕ) (c v : Bool) → Bytes (q ∷ qs)
    → shifted_v (q ∷ qs) c v ≡ sum_outside (half (length qs)) (value (q ∷ qs)) (value (q ∷ qs)) c
v-double-law q qs c v b = shifted-v (q ∷ qs) c v b ∙ v-law q q qs qs c v b b refl

-- and that the sign changes
pub shifted-sign : (q : ℕ) (qs : List ℕ) (c v : Bool) → Bytes (q ∷ qs)
    → let h = half (length qs) in
    shifted_v (q ∷ qs) c v ≡ not (beq (leb h (value (shifted_bytes (q ∷ qs) c))) (leb h (value (q ∷ qs))))
shifted-sign q [] c v b = simp add-zero (left-sign q c b.0)
shifted-sign q (x ∷ qs) c v b =
    let r : (left_of q c).result < 256 = rw (left-adds q c b.0) (result-byte q q c) in
    shifted-sign x qs (left_of q c).c8 (left_of q c).v b.1
    ∙ ap₂ (λ s t. not (beq s t))
    (digit-from (left_of q c).result (value (shifted_bytes (x ∷ qs) (left_of q c).c8)) (half (length qs)) r)
    (digit-from q (value (x ∷ qs)) (half (length qs)) b.0)
    ∙ ap (λ (h : ℕ). not (beq (leb h (value (shifted_bytes (q ∷ x ∷ qs) c))) (leb h (value (q ∷ x ∷ qs))))) (sym (step-up 128 (length qs)))
