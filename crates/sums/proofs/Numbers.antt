-- Laws over two lists of bytes, for sums and differences at once: what alu's laws say with the carry that a sum or a difference begins with. Assumes nothing.
use Prim.Native.Nat.{ℕ, suc, ◌+◌, ◌-◌, ◌*◌, ◌^◌, ◌/◌, ◌%◌, ◌<◌, ◌≤◌}
use mathlib.Core.Path.{◌≡◌, refl, ap, sym, ◌∙◌}
use mathlib.Core.Bool.{Bool, true, false}
use mathlib.Core.List.{List, [], ◌∷◌}
use native.Mathlib.Omega.{arith}
use native.Mathlib.Nat.{add-zero, pow-succ', one-le-pow, mul-le-mul_left, le-pred_of_lt, add-mul-mod_self_left, mod-eq_of_lt, mod-lt, mod-add-div}
use lib.Dec.{leb, ltb}
use lib.ListN.{length}
use borrow.Author.Tests.{ltb-true, ltb-false, leb-true, leb-false, le-leb, lt-leb}
use Rattle.alu.proofs.Laws.{result-byte, byte-sum, sum-bytes, sum-length, value-below, sum-law, ones-bytes, ones-length}
use Rattle.alu.proofs.Laws.{difference-law, carry-law, borrow-law, v-law, v-difference-law, ones_value, digit-from, step-up}
use Rattle.choose.specs.Ranged.{bit}
use Rattle.alu.specs.Cycle.{add_of, sum_outside}
use Rattle.alu.specs.Numbers.{value, sum_bytes, carry_out, last_v, ones, half, difference_outside}
use Rattle.alu.specs.declared.Cycle.{Cycle}
use Rattle.numbers.specs.Numbers.{Bytes}
use Rattle.sums.specs.Sums.{Sign, result_of, c_of, v_of, c8_of, c4_of}
use Rattle.sums.specs.Sums.Sign.{plus, minus}
use Rattle.sums.proofs.Cycles.{cycle_with}
use Rattle.sums.proofs.Chain.{added, added-cons, last_cycle}
use Rattle.sums.proofs.Codes.{carry_in}

-- ---- the last cycle

-- its result, and its C4
abbrev pub last_byte : ℕ → List ℕ → ℕ
last_byte d [] = d
last_byte d (x ∷ xs) = last_byte x xs

abbrev pub last_c4 : List ℕ → List ℕ → Bool → Bool → Bool
last_c4 [] qs c d = d
last_c4 (p ∷ ps) [] c d = d
last_c4 (p ∷ ps) (q ∷ qs) c d = last_c4 ps qs (add_of p q c).c8 (add_of p q c).c4

pub record Last (sign : Sign) (y : Cycle) (ps qs : List ℕ) (c : Bool) (z : Cycle) : Type 0 where
  pub c8 : z.c8 ≡ carry_out ps (added sign qs) c
  pub c-flag : z.c ≡ c8_of sign z.c8
  pub v : z.v ≡ last_v ps (added sign qs) c y.v
  pub c4 : z.c4 ≡ last_c4 ps (added sign qs) c y.c4
  pub result : z.result ≡ last_byte y.result (sum_bytes ps (added sign qs) c)

pub last-is : (sign : Sign) (y : Cycle) (ps qs : List ℕ) (c : Bool) → length ps ≡ length qs → y.c8 ≡ c → y.c ≡ c8_of sign y.c8
    → Last sign y ps qs c (last_cycle sign y ps qs c)
last-is sign y [] qs c e h k = record { c8 = h; c-flag = k; v = refl; c4 = refl; result = refl }
last-is sign y (p ∷ ps) [] c e h k = absurd (omega arith)
last-is sign y (p ∷ ps) (q ∷ qs) c e h k =
    let i = last-is sign (cycle_with sign p q c) ps qs (cycle_with sign p q c).c8 (omega arith) refl refl in
    let a = added-cons sign q qs in
    record { c8 = rw a i.c8; c-flag = i.c-flag; v = rw a i.v; c4 = rw a i.c4; result = rw a i.result }

-- ---- the number, C and V

-- what is left of a number below w when multiples of w go
pub remainder : (r w s t : ℕ) → r < w → r + w * t ≡ s → s % w ≡ r
remainder r w s t h e = ap (λ (n : ℕ). n % w) (sym e) ∙ add-mul-mod_self_left r w t ∙ mod-eq_of_lt h

module _ (ps qs : List ℕ) (bp : Bytes ps) (bq : Bytes qs) (e : length ps ≡ length qs) where
  pub result-law : (sign : Sign) → value (sum_bytes ps (added sign qs) (carry_in sign)) ≡ result_of sign (length ps) (value ps) (value qs)
  result-law plus =
      let below = rw (sum-length ps qs false e) at (value-below (sum_bytes ps qs false) (sum-bytes ps qs false)) in
      sym (remainder _ (256 ^ length ps) (value ps + value qs) (bit (carry_out ps qs false)) below (sum-law ps qs false bp bq e ∙ add-zero _))
  result-law minus =
      let d = difference-law ps qs false bp bq e in
      let below =
      rw (sum-length ps (ones qs) true (e ∙ sym (ones-length qs))) at (value-below (sum_bytes ps (ones qs) true) (sum-bytes ps (ones qs) true)) in
      sym (remainder _ (256 ^ length ps) (value ps + 256 ^ length ps - value qs) (bit (carry_out ps (ones qs) true)) below (omega arith))

  pub c-law : (sign : Sign) → c8_of sign (carry_out ps (added sign qs) (carry_in sign)) ≡ c_of sign (length ps) (value ps) (value qs)
  c-law plus = carry-law ps qs false bp bq e ∙ simp add-zero
  c-law minus = borrow-law ps qs false bp bq e ∙ simp add-zero

less_one : (n : ℕ) → suc n - 1 ≡ n
less_one n = omega arith

pub last-v-law : (sign : Sign) (ps qs : List ℕ) (v : Bool) → Bytes ps → Bytes qs → length ps ≡ length qs → 1 ≤ length ps
    → last_v ps (added sign qs) (carry_in sign) v ≡ v_of sign (length ps) (value ps) (value qs)
last-v-law sign [] qs v bp bq e h = absurd (omega arith)
last-v-law sign (p ∷ ps) [] v bp bq e h = absurd (omega arith)
last-v-law plus (p ∷ ps) (q ∷ qs) v bp bq e h =
    v-law p q ps qs false v bp bq (omega arith) ∙ ap (λ (n : ℕ). sum_outside (half n) (value (p ∷ ps)) (value (q ∷ qs)) false) (sym (less_one (length ps)))
last-v-law minus (p ∷ ps) (q ∷ qs) v bp bq e h =
    v-difference-law p q ps qs false v bp bq (omega arith)
    ∙ ap (λ (n : ℕ). difference_outside (half n) (value (p ∷ ps)) (value (q ∷ qs)) false) (sym (less_one (length ps)))

-- ---- digits

-- a low digit stays when multiples go
digit-mod : (p x m : ℕ) → p < 256 → 0 < m → (p + 256 * x) % (256 * m) ≡ p + 256 * (x % m)
digit-mod p x m h k =
    let low = mod-lt x k in
    let whole = mod-add-div x m in
    remainder (p + 256 * (x % m)) (256 * m) (p + 256 * x) (x / m) (omega arith) (omega arith)

-- ---- the sign

-- bit 7 of the last byte is the sign of the whole
sign-from : (d x : ℕ) (xs : List ℕ) → Bytes (x ∷ xs) → leb 128 (last_byte d (x ∷ xs)) ≡ leb (half (length xs)) (value (x ∷ xs))
sign-from d x [] b = simp add-zero
sign-from d x (y ∷ xs) b =
    sign-from x y xs b.1
    ∙ digit-from x (value (y ∷ xs)) (half (length xs)) b.0
    ∙ ap (λ (k : ℕ). leb k (value (x ∷ y ∷ xs))) (sym (step-up 128 (length xs)))

pub sign-law : (d : ℕ) (xs : List ℕ) → Bytes xs → 1 ≤ length xs → leb 128 (last_byte d xs) ≡ leb (half (length xs - 1)) (value xs)
sign-law d [] b h = absurd (omega arith)
sign-law d (x ∷ xs) b h = rw (less_one (length xs)) (sign-from d x xs b)

-- ---- C4

-- x and y below the highest digit, and a carry, have no room there
abbrev carries : ℕ → ℕ → ℕ → Bool → Bool
carries m x y c = leb m (x % m + y % m + bit c)

c4-byte : (p q : ℕ) (c : Bool) → (add_of p q c).c4 ≡ carries 16 (value (p ∷ [])) (value (q ∷ [])) c
unfolding add_of
c4-byte p q c = simp add-zero

c4-digit : (m x y p q r : ℕ) (c k : Bool) → 0 < m → p < 256 → q < 256 → r < 256 → r + 256 * bit k ≡ p + q + bit c
    → carries m x y k ≡ carries (256 * m) (p + 256 * x) (q + 256 * y) c
c4-digit m x y p q r c k h hp hq hr e =
    digit-from r (x % m + y % m + bit k) m hr ∙ ap (leb (256 * m)) (omega (arith, digit-mod p x m hp h, digit-mod q y m hq h))

some-weight : (n : ℕ) → 0 < 16 * 256 ^ n
some-weight n = omega (arith, one-le-pow n 256 (omega arith))

c4-from : (p q : ℕ) (ps qs : List ℕ) (c d : Bool) → Bytes (p ∷ ps) → Bytes (q ∷ qs) → length ps ≡ length qs
    → last_c4 (p ∷ ps) (q ∷ qs) c d ≡ carries (16 * 256 ^ length ps) (value (p ∷ ps)) (value (q ∷ qs)) c
c4-from p q [] [] c d bp bq e = c4-byte p q c
c4-from p q [] (y ∷ qs) c d bp bq e = absurd (omega arith)
c4-from p q (x ∷ ps) [] c d bp bq e = absurd (omega arith)
c4-from p q (x ∷ ps) (y ∷ qs) c d bp bq e =
    let z = add_of p q c in
    c4-from x y ps qs z.c8 z.c4 bp.1 bq.1 (omega arith)
    ∙ c4-digit (16 * 256 ^ length ps) (value (x ∷ ps)) (value (y ∷ qs)) p q z.result c z.c8 (some-weight (length ps)) bp.0 bq.0 (result-byte p q c)
    (byte-sum p q c bp.0 bq.0)
    ∙ ap (λ (m : ℕ). carries m (value (p ∷ x ∷ ps)) (value (q ∷ y ∷ qs)) c) (sym (step-up 16 (length ps)))

-- r + m q is 16 m, and r is from 1 to 2 m - 1: it is m
one_left : (r m q : ℕ) → 1 ≤ r → r < 2 * m → r + m * q ≡ 16 * m → r ≡ m
one_left r m q lo hi e = go (ltb q 15) refl (ltb q 16) refl
  where
    go : (s : Bool) → ltb q 15 ≡ s → (t : Bool) → ltb q 16 ≡ t → r ≡ m
    go true a t b = absurd (omega (arith, mul-le-mul_left m (le-pred_of_lt (ltb-true q 15 a))))
    go false a true b =
        let here : q ≡ 15 = omega (arith, ltb-false q 15 a, ltb-true q 16 b) in
        omega (arith, ap (λ (n : ℕ). m * n) here)
    go false a false b = absurd (omega (arith, mul-le-mul_left m (ltb-false q 16 b)))

-- of two numbers that make 16 m - 1, what is below m makes m - 1
complement : (z y m : ℕ) → 0 < m → z + y + 1 ≡ 16 * m → z % m + y % m + 1 ≡ m
complement z y m h e =
    let a = mod-lt z h in
    let b = mod-lt y h in
    let c = mod-add-div z m in
    let d = mod-add-div y m in
    one_left (z % m + y % m + 1) m (z / m + y / m) (omega arith) (omega arith) (omega arith)

no_borrow : (m x y z : ℕ) → 0 < m → z + y + 1 ≡ 16 * m → carries m x z true ≡ leb (y % m) (x % m)
no_borrow m x y z h e = go (leb (y % m) (x % m)) refl
  where
    go : (b : Bool) → leb (y % m) (x % m) ≡ b → carries m x z true ≡ b
    go true t = le-leb m (x % m + z % m + 1) (omega (arith, leb-true (y % m) (x % m) t, complement z y m h e))
    go false t = lt-leb m (x % m + z % m + 1) (omega (arith, leb-false (y % m) (x % m) t, complement z y m h e))

pub c4-law : (sign : Sign) (ps qs : List ℕ) (d : Bool) → Bytes ps → Bytes qs → length ps ≡ length qs → 1 ≤ length ps
    → last_c4 ps (added sign qs) (carry_in sign) d ≡ c4_of sign (length ps) (value ps) (value qs)
c4-law sign [] qs d bp bq e h = absurd (omega arith)
c4-law sign (p ∷ ps) [] d bp bq e h = absurd (omega arith)
c4-law plus (p ∷ ps) (q ∷ qs) d bp bq e h = rw (less_one (length ps)) (c4-from p q ps qs false d bp bq (omega arith) ∙ simp add-zero)
c4-law minus (p ∷ ps) (q ∷ qs) d bp bq e h =
    let n : length ps ≡ length qs = omega arith in
    let whole : value (ones (q ∷ qs)) + value (q ∷ qs) + 1 ≡ 16 * (16 * 256 ^ length ps)
    = ones_value (q ∷ qs) bq ∙ pow-succ' 256 (length qs) ∙ ap (λ (i : ℕ). 256 * 256 ^ i) (sym n) ∙ omega arith in
    rw (less_one (length ps))
    (c4-from p (255 - q) ps (ones qs) true d bp (ones-bytes (q ∷ qs) bq) (n ∙ sym (ones-length qs))
    ∙ no_borrow (16 * 256 ^ length ps) (value (p ∷ ps)) (value (q ∷ qs)) (value (ones (q ∷ qs))) (some-weight (length ps)) whole)
