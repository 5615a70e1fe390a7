-- The rows of a section one by one, its words and its samples: by induction over their number, and by the unused bits of each. Assumes nothing.
use mathlib.Core.Path.{◌≡◌, refl, ap, ◌∙◌}
use mathlib.Core.Bool.{Bool, true, false, ◌&&◌, and-true, and_comm, false≢true}
use mathlib.Core.List.{List}
use Prim.Native.Nat.{ℕ, zero, suc, ◌+◌, ◌-◌, ◌*◌, ◌/◌, ◌^◌, ◌<◌}
use native.Mathlib.Nat.{mod-eq_of_lt, div-lt_iff_lt-mul}
use native.Mathlib.Omega.{arith}
use borrow.Author.Tests.{eq-eqb, ne_eqb, eqb-true, lt-ltb, ltb-true, le-leb, leb-true}
use lib.Bits.{bit_and, bit_or, or_add_and, and_le_l, and_le_r, and_block, and_high}
use lib.Dec.{eqb, leb, ltb}
use lib.ListN.{length}
use lib.Pow.{pow-add, pow_pos}
use Rattle.choose.specs.Below.{all_below}
use Rattle.choose.proofs.Table.{all_same_lem}
use Rattle.choose.proofs.Tests.{both_true}
use Rattle.numbers.specs.Numbers.{word_at, Bytes}
use Rattle.numbers.proofs.Laws.{byte-below, quad-bytes}
use Rattle.rows.specs.Section.{row_from, rows_of}
use Rattle.rows.specs.Range.{row_in_range, rows_in_range}
use Rattle.rows.proofs.Laws.{range-append}
use Rattle.deck.specs.Elements.{lines_at, interrupts_at}
use Rattle.deck.specs.Quads.{every_quad}

-- the rows of a section, one by one
pub rows-every : (s : List ℕ) (n : ℕ) → rows_in_range (rows_of s n) ≡ all_below n (λ i. row_in_range (row_from s (i * 16)))
unfolding rows_of rows_in_range
rows-every s zero = refl
rows-every s (suc n) = rw (range-append (rows_of s n), and-true (row_in_range (row_from s (n * 16))), and_comm (rows_in_range (rows_of s n)), rows-every s n)

-- ---- unused bits
-- a test that holds just where a number is 0
zero_test : (x : ℕ) (t : Bool) → (t ≡ true → x ≡ 0) → (x ≡ 0 → t ≡ true) → eqb x 0 ≡ t
zero_test x true f g = eq-eqb x 0 (f refl)
zero_test x false f g = ne_eqb x 0 (λ e. false≢true (g e))

-- an OR is 0 just where both are
pub or-none : (a b : ℕ) → eqb (bit_or a b) 0 ≡ eqb b 0 && eqb a 0
or-none a b =
    let sum = or_add_and a b in
    let left = and_le_l a b in
    let right = and_le_r a b in
    zero_test (bit_or a b) (eqb b 0 && eqb a 0)
    (λ h. let (last, first) = both_true (eqb b 0) (eqb a 0) h in omega (arith, eqb-true b 0 last, eqb-true a 0 first))
    (λ e. rw (eq-eqb b 0 (omega arith), eq-eqb a 0 (omega arith)))

-- the bits of a number of j + k bits above the first k
top : (j k w : ℕ) → w < 2 ^ (j + k) → bit_and w (2 ^ (j + k) - 2 ^ k) ≡ w / 2 ^ k * 2 ^ k
top j k w h =
    let few : w / 2 ^ k < 2 ^ j = (div-lt_iff_lt-mul (pow_pos k)).1 (rw pow-add at h) in
    and_high w j k ∙ ap (λ (q : ℕ). q * 2 ^ k) (mod-eq_of_lt few)

-- a word of at most 22 bits
word : (a b c d w : ℕ) → a < 256 → b < 256 → c < 256 → d < 256 → w ≡ a + 256 * b + 65536 * c + 16777216 * d
    → eqb (bit_and w 0xFFC0_0000) 0 ≡ ltb w 4194304
word a b c d w ha hb hc hd e =
    let unused : bit_and w 0xFFC0_0000 ≡ w / 4194304 * 4194304 = top 10 22 w (omega arith) in
    zero_test (bit_and w 0xFFC0_0000) (ltb w 4194304) (λ t. omega (arith, ltb-true w 4194304 t)) (λ z. lt-ltb w 4194304 (omega arith))

-- a sample with at most five lines and four interrupts
sample : (a b c d w : ℕ) → a < 256 → b < 256 → c < 256 → d < 256 → w ≡ a + 256 * b + 65536 * c + 16777216 * d
    → eqb (bit_and w 0xF0E0_0000) 0 ≡ leb c 31 && leb d 15
sample a b c d w ha hb hc hd e =
    let r = a + 256 * b + 65536 * c in
    let split : w ≡ d * 16777216 + r = omega arith in
    let lines : bit_and r 0xE0_0000 ≡ r / 2097152 * 2097152 = top 3 21 r (omega arith) in
    let interrupts : bit_and d 0xF0 ≡ d / 16 * 16 = top 4 4 d (omega arith) in
    let unused : bit_and w 0xF0E0_0000 ≡ bit_and d 0xF0 * 16777216 + bit_and r 0xE0_0000 =
    rw split (and_block 24 d 0xF0 r 0xE0_0000 (omega arith) (omega arith)) in
    zero_test (bit_and w 0xF0E0_0000) (leb c 31 && leb d 15)
    (λ t. let (x, y) = both_true (leb c 31) (leb d 15) t in omega (arith, leb-true c 31 x, leb-true d 15 y))
    (λ z. rw (le-leb c 31 (omega arith), le-leb d 15 (omega arith)))

module _ (s : List ℕ) (b : Bytes s) where
  pub words-every : every_quad s 0xFFC0_0000 ≡ all_below (length s / 4) (λ i. ltb (word_at s i) 4194304)
  unfolding every_quad word_at
  words-every =
      let at = byte-below s b in
      all_same_lem _ _ (λ i. word _ _ _ _ _ (at (i * 4)) (at (i * 4 + 1)) (at (i * 4 + 2)) (at (i * 4 + 3)) (quad-bytes s (i * 4))) (length s / 4)

  pub samples-every : every_quad s 0xF0E0_0000 ≡ all_below (length s / 4) (λ i. leb (lines_at s i) 31 && leb (interrupts_at s i) 15)
  unfolding every_quad word_at
  samples-every =
      let at = byte-below s b in
      all_same_lem _ _ (λ i. sample _ _ _ _ _ (at (i * 4)) (at (i * 4 + 1)) (at (i * 4 + 2)) (at (i * 4 + 3)) (quad-bytes s (i * 4))) (length s / 4)
