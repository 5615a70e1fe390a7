-- The nets of the adder are its carries: proved once, over the position. C4, C8 and V are instances. Assumes nothing.
use Prim.Native.Nat.{ℕ, zero, suc, ◌+◌, ◌-◌, ◌*◌, ◌/◌, ◌%◌, ◌^◌, ◌≤◌, ◌<◌}
use mathlib.Core.Path.{◌≡◌, refl, ap, ap₂, ◌∙◌, sym}
use mathlib.Core.Bool.{Bool, true, false, not, ◌||◌, beq, or-true}
use native.Mathlib.Omega.{arith}
use native.Mathlib.Nat.{pow-suc, div-one, zero-mod, mod-one, mod-lt, mod-eq_of_lt}
use lib.Arith.{mod-mul}
use lib.Bits.{bit_and, bit_xor, xor_shr, xor_add_and, and_mask}
use lib.Dec.{eqb, leb, ltb}
use lib.Pow.{pow_pos, shr-shr}
use borrow.Author.Tests.{leb-true, leb-false, ltb-true, ltb-false, lt-ltb, le-ltb, le-leb, lt-leb}
use Rattle.choose.specs.Bits.{bit_at}
use Rattle.choose.specs.Ranged.{bit, pick}
use Rattle.choose.proofs.Tests.{same_from, bit_le, is-bit}
use Rattle.alu.specs.Cycle.{add_of, biased}
use Rattle.alu.specs.Nets.{carry_into, net_of, nets_of}

-- ---- position 0

-- p xor q xor the sum has the parity of p + q + p + q + c
low-net : (p q : ℕ) (c : Bool) → nets_of p q c % 2 ≡ bit c
low-net p q c = omega (arith, xor_add_and p q, xor_add_and (bit_xor p q) (p + q + bit c), bit_le c)

into-0 : (p q : ℕ) (c : Bool) → carry_into 0 p q c ≡ c
into-0 p q true = rw (mod-one p, mod-one q) refl
into-0 p q false = rw (mod-one p, mod-one q) refl

-- ---- one position down: the nets of the halves, with the carry into position 1 as their carry in

half-sum : (p q : ℕ) (c : Bool) → (p + q + bit c) / 2 ≡ p / 2 + q / 2 + bit (carry_into 1 p q c)
half-sum p q c = go (carry_into 1 p q c) refl
  where
    go : (t : Bool) → carry_into 1 p q c ≡ t → (p + q + bit c) / 2 ≡ p / 2 + q / 2 + bit t
    go true e = omega (arith, leb-true 2 (p % 2 + q % 2 + bit c) e, bit_le c)
    go false e = omega (arith, leb-false 2 (p % 2 + q % 2 + bit c) e)

half-nets : (p q : ℕ) (c : Bool) → nets_of p q c / 2 ≡ nets_of (p / 2) (q / 2) (carry_into 1 p q c)
half-nets p q c = xor_shr (bit_xor p q) (p + q + bit c) 1 ∙ ap₂ bit_xor (xor_shr p q 1) (half-sum p q c)

low_bits : (i p : ℕ) → p % 2 ^ suc i ≡ p / 2 % 2 ^ i * 2 + p % 2
low_bits i p = rw (pow-suc 2 i) (mod-mul p (pow_pos i) (omega arith))

carry-down : (i p q : ℕ) (c : Bool) → carry_into (suc i) p q c ≡ carry_into i (p / 2) (q / 2) (carry_into 1 p q c)
carry-down i p q c =
    let sum = half-sum p q c in
    let x = low_bits i p in
    let y = low_bits i q in
    let w = pow-suc 2 i in
    same_from (2 ^ suc i) (p % 2 ^ suc i + q % 2 ^ suc i + bit c) (2 ^ i) (p / 2 % 2 ^ i + q / 2 % 2 ^ i + bit (carry_into 1 p q c))
    (λ l. omega arith) (λ l. omega arith)

-- ---- every position at once

net-bit : (i p q : ℕ) (c : Bool) → bit_at (nets_of p q c) i ≡ bit (carry_into i p q c)
net-bit zero p q c = low-net p q c ∙ ap bit (sym (into-0 p q c))
net-bit (suc i) p q c = rw (half-nets p q c) (net-bit i (p / 2) (q / 2) (carry_into 1 p q c)) ∙ ap bit (sym (carry-down i p q c))

-- "the bits of p xor q xor s are the carries into each position"
pub net-law : (i p q : ℕ) (c : Bool) → net_of i p q c ≡ carry_into i p q c
net-law i p q c = is-bit (carry_into i p q c) (bit_at (nets_of p q c) i) (net-bit i p q c)

-- a net as the code takes it, by a shift and a mask
bit-at : (i x : ℕ) → bit_at x i ≡ x / 2 ^ i % 2
bit-at zero x = ap (λ (n : ℕ). n % 2) (sym (div-one x))
bit-at (suc i) x = bit-at i (x / 2) ∙ ap (λ (n : ℕ). n % 2) (shr-shr x 1 i ∙ ap (λ (j : ℕ). x / 2 ^ j) (omega arith))

pub masked-net : (i p q : ℕ) (c : Bool) → eqb (bit_and (nets_of p q c / 2 ^ i) 1) 1 ≡ net_of i p q c
masked-net i p q c = ap (λ (n : ℕ). eqb n 1) (and_mask (nets_of p q c / 2 ^ i) 1 ∙ sym (bit-at i (nets_of p q c)))

-- ---- the adder's flags

-- "C4 is the one into position 4"
pub c4-net : (p q : ℕ) (c : Bool) → (add_of p q c).c4 ≡ net_of 4 p q c
unfolding add_of
c4-net p q c = sym (net-law 4 p q c)

-- "the one out of it, bit 8 of s"
pub c8-net : (p q : ℕ) (c : Bool) → p < 256 → q < 256 → (add_of p q c).c8 ≡ net_of 8 p q c
unfolding add_of
c8-net p q c hp hq = rw (net-law 8 p q c, mod-eq_of_lt hp, mod-eq_of_lt hq) refl

-- m is what the low seven bits sum to, d how many operands have bit 7 set; n is the sum, s the signed sum with 256 added
outside : (m d n s : ℕ) (t u : Bool) → m < 256 → d ≤ 2 → n ≡ m + 128 * d → s + 128 * d ≡ m + 256 → leb 128 m ≡ t → leb 256 n ≡ u
    → ltb s 128 || leb 384 s ≡ not (beq t u)
outside m d n s true true hm hd en es a b =
    let into = leb-true 128 m a in
    let out = leb-true 256 n b in
    rw (le-ltb s 128 (omega arith), lt-leb 384 s (omega arith)) refl
outside m d n s true false hm hd en es a b =
    let into = leb-true 128 m a in
    let out = leb-false 256 n b in
    rw (le-leb 384 s (omega arith), or-true) refl
outside m d n s false true hm hd en es a b =
    let into = leb-false 128 m a in
    let out = leb-true 256 n b in
    rw (lt-ltb s 128 (omega arith)) refl
outside m d n s false false hm hd en es a b =
    let into = leb-false 128 m a in
    let out = leb-false 256 n b in
    rw (le-ltb s 128 (omega arith), lt-leb 384 s (omega arith)) refl

signed-byte : (p : ℕ) → p < 256 → biased 128 p + 128 * (p / 128) ≡ p % 128 + 128
signed-byte p h = go (ltb p 128) refl
  where
    go : (t : Bool) → ltb p 128 ≡ t → pick t (p + 128) (p - 128) + 128 * (p / 128) ≡ p % 128 + 128
    go true e = omega (arith, ltb-true p 128 e)
    go false e = omega (arith, ltb-false p 128 e)

-- "V says that the one into 7 differs from the one out of it"
pub v-net : (p q : ℕ) (c : Bool) → p < 256 → q < 256 → (add_of p q c).v ≡ not (beq (net_of 7 p q c) (net_of 8 p q c))
unfolding add_of
v-net p q c hp hq =
    let k = bit_le c in
    let x = signed-byte p hp in
    let y = signed-byte q hq in
    outside (p % 128 + q % 128 + bit c) (p / 128 + q / 128) (p % 256 + q % 256 + bit c) (biased 128 p + biased 128 q + bit c)
    (net_of 7 p q c) (net_of 8 p q c) (omega arith) (omega arith) (omega arith) (omega arith) (sym (net-law 7 p q c)) (sym (net-law 8 p q c))

-- ---- an operand alone: no net is high

none-into : (i q : ℕ) → carry_into i 0 q false ≡ false
none-into i q = lt-leb (2 ^ i) (0 % 2 ^ i + q % 2 ^ i + 0) (omega (arith, mod-lt q (pow_pos i), zero-mod (2 ^ i)))

no-net : (i q : ℕ) → net_of i 0 q false ≡ false
no-net i q = net-law i 0 q false ∙ none-into i q

pub alone : (q : ℕ) → q < 256 → add_of 0 q false ≡ record { result = q; c4 = false; c8 = false; v = false; c = false }
unfolding add_of
alone q h =
    let result : (0 + q + 0) % 256 ≡ q = omega arith in
    let c4 = none-into 4 q in
    let c8 = c8-net 0 q false (omega arith) h in
    let v = v-net 0 q false (omega arith) h in
    rw (result, c4, c8, v, no-net 7 q, no-net 8 q) refl
