-- Four bits and the number that they make, there and back, and eight as two such numbers: the marks and the flag byte. Assumes nothing.
use mathlib.Core.Path.{◌≡◌, refl, ◌∙◌}
use mathlib.Core.Bool.{Bool}
use Prim.Native.Nat.{ℕ, ◌+◌, ◌*◌, ◌/◌, ◌%◌, ◌≤◌, ◌<◌}
use native.Mathlib.Omega.{arith}
use lib.Dec.{eqb}
use Rattle.choose.specs.Ranged.{bit}
use Rattle.choose.proofs.Tests.{bit_le, is-bit, bit_is}
use Rattle.alu.specs.declared.Flags.{Flags}
use Rattle.state.specs.FlagByte.{nibble_of, flag_byte_of, flags_of}

pub nibble-le : (a b c d : Bool) → nibble_of a b c d ≤ 15
unfolding nibble_of
nibble-le a b c d = omega (arith, bit_le a, bit_le b, bit_le c, bit_le d)

-- a number is twice its half and its last bit
halves : (x : ℕ) → (x ≡ x / 2 * 2 + x % 2) × (x / 2 ≡ x / 4 * 2 + x / 2 % 2) × (x / 4 ≡ x / 8 * 2 + x / 4 % 2) × (x / 8 ≡ x / 16 * 2 + x / 8 % 2)
halves x = omega arith

-- the bits of a number, put together again, are its last four
pub digits : (x : ℕ) → nibble_of (eqb (x / 8 % 2) 1) (eqb (x / 4 % 2) 1) (eqb (x / 2 % 2) 1) (eqb (x % 2) 1) ≡ x % 16
unfolding nibble_of
digits x =
    rw (bit_is (x / 8 % 2) (omega arith), bit_is (x / 4 % 2) (omega arith), bit_is (x / 2 % 2) (omega arith), bit_is (x % 2) (omega arith))
    (omega (arith, halves x))

-- four bits are those of the number that they make
pub bits : (a b c d : Bool) → (x : ℕ) → x ≡ nibble_of a b c d → (x / 8 % 2 ≡ bit a) × (x / 4 % 2 ≡ bit b) × (x / 2 % 2 ≡ bit c) × (x % 2 ≡ bit d)
unfolding nibble_of
bits a b c d x e = omega (arith, bit_le a, bit_le b, bit_le c, bit_le d)

two_digits : (x : ℕ) → x < 256 → x / 16 % 16 * 16 + x % 16 ≡ x
two_digits x h = omega arith

pub flag-byte-below : (f : Flags) → flag_byte_of f < 256
unfolding flag_byte_of
flag-byte-below f = omega (arith, nibble-le f.n f.z f.v f.c, nibble-le f.nb f.zb f.c4 f.c8)

pub flag-byte-back : (x : ℕ) → x < 256 → flag_byte_of (flags_of x) ≡ x
unfolding flag_byte_of flags_of
flag-byte-back x h =
    let a : x / 128 ≡ x / 16 / 8 % 2 = omega arith in
    let b : x / 64 % 2 ≡ x / 16 / 4 % 2 = omega arith in
    let c : x / 32 % 2 ≡ x / 16 / 2 % 2 = omega arith in
    rw (a, b, c, digits (x / 16), digits x) (two_digits x h)

-- two numbers of four bits in one of eight: where each bit stands
places : (h l x : ℕ) → h ≤ 15 → l ≤ 15 → x ≡ h * 16 + l
    → ((x / 128 ≡ h / 8 % 2) × (x / 64 % 2 ≡ h / 4 % 2) × (x / 32 % 2 ≡ h / 2 % 2) × (x / 16 % 2 ≡ h % 2))
    × ((x / 8 % 2 ≡ l / 8 % 2) × (x / 4 % 2 ≡ l / 4 % 2) × (x / 2 % 2 ≡ l / 2 % 2) × (x % 2 ≡ l % 2))
places h l x j k e = (omega arith, omega arith)

pub flags-back : (f : Flags) → flags_of (flag_byte_of f) ≡ f
unfolding flag_byte_of flags_of
flags-back f =
    let h = nibble_of f.n f.z f.v f.c in
    let l = nibble_of f.nb f.zb f.c4 f.c8 in
    let p = places h l (h * 16 + l) (nibble-le f.n f.z f.v f.c) (nibble-le f.nb f.zb f.c4 f.c8) refl in
    let hs = bits f.n f.z f.v f.c h refl in
    let ls = bits f.nb f.zb f.c4 f.c8 l refl in
    rw (is-bit f.n _ (p.0.0 ∙ hs.0), is-bit f.z _ (p.0.1 ∙ hs.1), is-bit f.v _ (p.0.2 ∙ hs.2), is-bit f.c _ (p.0.3 ∙ hs.3))
    (rw (is-bit f.nb _ (p.1.0 ∙ ls.0), is-bit f.zb _ (p.1.1 ∙ ls.1), is-bit f.c4 _ (p.1.2 ∙ ls.2), is-bit f.c8 _ (p.1.3 ∙ ls.3)))
