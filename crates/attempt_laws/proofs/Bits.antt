-- The bits of an OR and of an AND, and the taken word: "a waiting modification is ORed into its low 16 bits". Assumes nothing.
use Prim.Native.Nat.{ℕ, ◌+◌, ◌-◌, ◌*◌, ◌/◌, ◌%◌, ◌^◌, ◌<◌}
use mathlib.Core.Path.{◌≡◌, refl, sym, ap, ap₂, ◌∙◌}
use mathlib.Core.Bool.{Bool, true, false, ◌&&◌, ◌||◌, or-false, beq}
use mathlib.Core.List.{List}
use native.Mathlib.Omega.{arith}
use lib.Bits.{bit_and, bit_or, and_shr, and_mod, or_shr, or_mod, or_block, or_zero_r}
use lib.Dec.{T, eqb}
use Rattle.attempt.specs.Attempt.{modified_of}
use Rattle.choose.proofs.Table.{below}
use Rattle.choose.proofs.Tests.{equal-tests}
use Rattle.choose.specs.Below.{all_below}
use Rattle.choose.specs.Ranged.{pick}
use Rattle.numbers.specs.Numbers.{word_at}
use Rattle.state.specs.declared.Core.{Core}
use Rattle.state.specs.declared.Latches.{Latches}
use Rattle.attempt_laws.specs.After.{has_bit, Modified}
use Rattle.attempt_laws.specs.Fate.{user_bits, taken_word}

-- ---- one digit: what a test found of 0 and 1

module _ (f g : ℕ → ℕ → Bool) where
  abbrev same : ℕ → ℕ → Bool
  same x y = beq (f x y) (g x y)

  digits : T (all_below 2 (λ x. all_below 2 (same x))) → (x y : ℕ) → x < 2 → y < 2 → f x y ≡ g x y
  digits t x y p q = equal-tests (f x y) (g x y) (below 2 (same x) (below 2 (λ x. all_below 2 (same x)) t x p) y q)

-- ---- bit i

pub or-bit : (i x y : ℕ) → has_bit i (bit_or x y) ≡ has_bit i x || has_bit i y
or-bit i x y =
    rw (or_shr x y i, or_mod (x / 2 ^ i) (y / 2 ^ i) 1)
    (digits (λ p q. eqb (bit_or p q) 1) (λ p q. eqb p 1 || eqb q 1) tt (x / 2 ^ i % 2) (y / 2 ^ i % 2) (omega arith) (omega arith))

pub and-bit : (i x y : ℕ) → has_bit i (bit_and x y) ≡ has_bit i x && has_bit i y
and-bit i x y =
    rw (and_shr x y i, and_mod (x / 2 ^ i) (y / 2 ^ i) 1)
    (digits (λ p q. eqb (bit_and p q) 1) (λ p q. eqb p 1 && eqb q 1) tt (x / 2 ^ i % 2) (y / 2 ^ i % 2) (omega arith) (omega arith))

-- ---- the taken word

-- 16 bits ORed into a word's low half are ORed into the word
ored-whole : (word m : ℕ) → m < 2 ^ 16 → word / 2 ^ 16 * 2 ^ 16 + bit_or (word % 2 ^ 16) m ≡ bit_or word m
ored-whole word m h =
    let parts : word ≡ word / 2 ^ 16 * 2 ^ 16 + word % 2 ^ 16 = omega arith in
    let whole : m ≡ 0 * 2 ^ 16 + m = omega arith in
    sym
    (ap₂ bit_or parts whole
    ∙ or_block 16 (word / 2 ^ 16) 0 (word % 2 ^ 16) m (omega arith) h
    ∙ ap (λ (n : ℕ). n * 2 ^ 16 + bit_or (word % 2 ^ 16) m) (or_zero_r (word / 2 ^ 16)))

modified : (word : ℕ) (l : Latches) → l.modification < 65536 → Modified word l.marked l.modification (modified_of word l)
unfolding modified_of
modified word l h = go l.marked
  where
    m : ℕ
    m = l.modification

    none : m / 2 ^ 16 ≡ 0
    none = omega arith

    go : (t : Bool) → Modified word t m (pick t (word / 0x1_0000 * 0x1_0000 + bit_or (word % 0x1_0000) m) word)
    go true =
        rw (ored-whole word m h)
        (record {
          low = λ i p. or-bit i word m;
          high = or_shr word m 16 ∙ ap (λ (n : ℕ). bit_or (word / 2 ^ 16) n) none ∙ or_zero_r (word / 2 ^ 16);
        })
    go false = record { low = λ i p. sym (or-false _); high = refl }

pub taken_word_lem : (ws : List ℕ) (k : Core) → k.latches.modification < 65536
    → Modified (word_at ws k.address.lc) k.latches.marked k.latches.modification (taken_word ws k)
taken_word_lem ws k h = modified (word_at ws k.address.lc) k.latches h

-- bits 18-21 are the word's own: a modification does not reach them
pub taken-outputs : (ws : List ℕ) (k : Core) → k.latches.modification < 65536 → user_bits (taken_word ws k) ≡ user_bits (word_at ws k.address.lc)
taken-outputs ws k h = omega (arith, (taken_word_lem ws k h).high)
