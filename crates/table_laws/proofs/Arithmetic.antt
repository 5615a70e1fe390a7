-- One byte cycle, and the two of a word, beside the operations on whole numbers: a law for each kind of cycle. Assumes nothing.
use Prim.Native.Nat.{ℕ, ◌+◌, ◌-◌, ◌*◌, ◌/◌, ◌%◌, ◌^◌, ◌<◌, ◌≤◌}
use mathlib.Core.Path.{◌≡◌, refl, ap, ap₂, sym, ◌∙◌}
use mathlib.Core.Bool.{Bool, true, false, not, ◌||◌, beq, false≢true}
use mathlib.Core.List.{[], ◌∷◌}
use native.Mathlib.Nat.{add-zero}
use native.Mathlib.Omega.{arith}
use lib.Bits.{bit_and, bit_or, bit_xor, and_block, or_block, xor_block, and_lt, or_lt, xor_lt}
use lib.Dec.{eqb, leb, ltb}
use borrow.Author.Tests.{leb-true, leb-false, lt-ltb, le-ltb, eq-eqb, ne_eqb}
use Rattle.alu.proofs.Laws.{not-bit, byte-sum, result-byte, carry-law, v-law, digit-from}
use Rattle.alu.specs.Cycle.{sum_outside, biased, add_of, subtract_of, kept_of, ones_of, left_of, right_of, cycle_of, high_first_of}
use Rattle.alu.specs.declared.Cycle.{Cycle}
use Rattle.alu.specs.declared.Flags.{Flags}
use Rattle.alu.specs.declared.Kind.{Kind}
use Rattle.attempt_laws.specs.Fate.{odd}
use Rattle.choose.proofs.Tests.{same-below, same_from, bit_le, bit_is}
use Rattle.choose.specs.Ranged.{bit, pick}
use Rattle.table_laws.specs.Operations.{Result, less_of, signed_outside, sum_of, difference_of, logical_of, complement_of, shift_left_of, shift_right_of}

pub no : {A : Type 0} → false ≡ true → A
no e = absurd (false≢true e)

-- what a kind of cycle does to whole numbers
abbrev pub of_kind : Kind → ℕ → ℕ → ℕ → Bool → Flags → Result
of_kind Kind.Add h p q c f = sum_of h p q c
of_kind Kind.Subtract h p q c f = difference_of h p q c
of_kind Kind.And h p q c f = logical_of h (bit_and p q) f
of_kind Kind.AndNot h p q c f = logical_of h (bit_and p (h - 1 - q)) f
of_kind Kind.Or h p q c f = logical_of h (bit_or p q) f
of_kind Kind.Exclusive h p q c f = logical_of h (bit_xor p q) f
of_kind Kind.Move h p q c f = logical_of h q f
of_kind Kind.Ones h p q c f = complement_of h q
of_kind Kind.Left h p q c f = shift_left_of h q c
of_kind Kind.Right h p q c f = shift_right_of h q c

-- ---- V and the borrow

biased-is : (h x : ℕ) → biased h x + less_of h x ≡ x + h
biased-is h x = go (leb h x) refl
  where
    go : (t : Bool) → leb h x ≡ t → biased h x + pick t (2 * h) 0 ≡ x + h
    go true e = let l = leb-true h x e in rw (le-ltb x h l) (omega arith)
    go false e = rw (lt-ltb x h (leb-false h x e)) (omega arith)

-- "V says the signed sum is outside -128 to 127"
outside-is : (h p q : ℕ) (c : Bool) → sum_outside h p q c ≡ signed_outside h p q c
outside-is h p q c =
    let i = biased-is h p in
    let j = biased-is h q in
    let s = p + q + bit c in
    let less = less_of h p + less_of h q in
    ap₂ ◌||◌
    (same-below (biased h p + biased h q + bit c) h (s + h) less (λ l. omega arith) (λ l. omega arith))
    (same_from (3 * h) (biased h p + biased h q + bit c) (less + h) s (λ l. omega arith) (λ l. omega arith))

not-leb : (m n : ℕ) → not (leb m n) ≡ ltb n m
not-leb m n = go (leb m n) refl
  where
    go : (t : Bool) → leb m n ≡ t → not t ≡ ltb n m
    go true e = sym (le-ltb n m (leb-true m n e))
    go false e = sym (lt-ltb n m (leb-false m n e))

-- "C the borrow": more was taken than there was
borrow-is : (h p q : ℕ) (c : Bool) → q < h → not (leb h (p + (h - 1 - q) + bit c)) ≡ ltb p (q + bit (not c))
borrow-is h p q c l =
    let n = not-bit c in
    not-leb h (p + (h - 1 - q) + bit c)
    ∙ same-below (p + (h - 1 - q) + bit c) h p (q + bit (not c)) (λ i. omega arith) (λ i. omega arith)

-- ---- one cycle

-- the number n, and what the flags take of a cycle, are a result's
pub record Shows (r : Result) (n : ℕ) (y : Cycle) : Type 0 where
  pub number : n ≡ r.number
  pub negative : leb 128 y.result ≡ r.negative
  pub c4 : y.c4 ≡ r.c4
  pub c8 : y.c8 ≡ r.c8
  pub v : y.v ≡ r.v
  pub c : y.c ≡ r.c

abbrev pub Same : Result → Cycle → Type 0
Same r y = Shows r y.result y

add-byte : (p q : ℕ) (c : Bool) → Same (sum_of 256 p q c) (add_of p q c)
unfolding add_of sum_of
add-byte p q c = record { number = refl; negative = refl; c4 = refl; c8 = refl; v = outside-is 128 p q c; c = refl }

subtract-byte : (p q : ℕ) (c : Bool) → q < 256 → Same (difference_of 256 p q c) (subtract_of p q c)
unfolding subtract_of add_of difference_of sum_of
subtract-byte p q c h =
    record { number = refl; negative = refl; c4 = refl; c8 = refl; v = outside-is 128 p (255 - q) c; c = borrow-is 256 p q c h }

kept_byte : (x : ℕ) (f : Flags) → Same (logical_of 256 x f) (kept_of x f)
unfolding kept_of logical_of
kept_byte x f = record { number = refl; negative = refl; c4 = refl; c8 = refl; v = refl; c = refl }

ones-byte : (q : ℕ) → Same (complement_of 256 q) (ones_of q)
unfolding ones_of complement_of
ones-byte q = record { number = refl; negative = refl; c4 = refl; c8 = refl; v = refl; c = refl }

-- a carry of a number doubled, whatever comes in at the low end
doubled-carry : (m x n y : ℕ) (c : Bool) → (m ≤ x → n ≤ y) → (x < m → y + 2 ≤ n) → leb m x ≡ leb n (y + bit c)
doubled-carry m x n y c f g = same_from m x n (y + bit c) (λ l. omega (arith, f l)) (λ l. omega (arith, g l, bit_le c))

left-byte : (q : ℕ) (c : Bool) → Same (shift_left_of 256 q c) (left_of q c)
unfolding left_of shift_left_of
left-byte q c =
    let e : q * 2 % 256 + bit c ≡ (q * 2 + bit c) % 256 = omega (arith, bit_le c) in
    let into = doubled-carry 64 (q % 128) 128 (q % 128 * 2) c (λ l. omega arith) (λ l. omega arith) in
    let out = doubled-carry 128 q 256 (q * 2) c (λ l. omega arith) (λ l. omega arith) in
    record { number = e; negative = ap (leb 128) e; c4 = refl; c8 = refl; v = ap₂ (λ i o. not (beq i o)) into out; c = refl }

bit-seven : (x : ℕ) → x < 256 → leb 128 x ≡ odd (x / 128)
bit-seven x h = go (leb 128 x) refl
  where
    go : (t : Bool) → leb 128 x ≡ t → t ≡ odd (x / 128)
    go true e = let l = leb-true 128 x e in sym (eq-eqb (x / 128 % 2) 1 (omega arith))
    go false e = let l = leb-false 128 x e in sym (ne_eqb (x / 128 % 2) 1 (λ n. omega arith))

right-byte : (q : ℕ) (c : Bool) → q < 256 → Same (shift_right_of 256 q c) (right_of q c)
unfolding right_of shift_right_of
right-byte q c h =
    record { number = refl; negative = bit-seven (q / 2 + 128 * bit c) (omega (arith, bit_le c)); c4 = refl; c8 = refl; v = refl; c = refl }

pub byte-same : (k : Kind) (p q : ℕ) (c : Bool) (f : Flags) → q < 256 → Same (of_kind k 256 p q c f) (cycle_of k p q c f)
unfolding cycle_of
byte-same Kind.Add p q c f h = add-byte p q c
byte-same Kind.Subtract p q c f h = subtract-byte p q c h
byte-same Kind.And p q c f h = kept_byte (bit_and p q) f
byte-same Kind.AndNot p q c f h = kept_byte (bit_and p (255 - q)) f
byte-same Kind.Or p q c f h = kept_byte (bit_or p q) f
byte-same Kind.Exclusive p q c f h = kept_byte (bit_xor p q) f
byte-same Kind.Move p q c f h = kept_byte q f
byte-same Kind.Ones p q c f h = ones-byte q
byte-same Kind.Left p q c f h = left-byte q c
byte-same Kind.Right p q c f h = right-byte q c h

-- ---- the two cycles of a word

-- the low byte's cycle and the high byte's, and which of them is the last
abbrev pub Joined : Result → Cycle → Cycle → Cycle → Type 0
Joined r low high last = Shows r (low.result + 256 * high.result) last

-- "the low byte, then the high byte with C8 as its carry"
abbrev pub LowFirst : Kind → ℕ → ℕ → ℕ → ℕ → Bool → Flags → Type 0
LowFirst k p₀ p₁ q₀ q₁ c f =
    let low = cycle_of k p₀ q₀ c f in
    let high = cycle_of k p₁ q₁ low.c8 f in
    Joined (of_kind k 65536 (p₀ + 256 * p₁) (q₀ + 256 * q₁) c f) low high high

-- "Right shifts go high byte first"
abbrev pub HighFirst : Kind → ℕ → ℕ → ℕ → ℕ → Bool → Flags → Type 0
HighFirst k p₀ p₁ q₀ q₁ c f =
    let high = cycle_of k p₁ q₁ c f in
    let low = cycle_of k p₀ q₀ high.c8 f in
    Joined (of_kind k 65536 (p₀ + 256 * p₁) (q₀ + 256 * q₁) c f) low high low

module _ (p₀ p₁ q₀ q₁ : ℕ) (c : Bool) (f : Flags) (hp₀ : p₀ < 256) (hp₁ : p₁ < 256) (hq₀ : q₀ < 256) (hq₁ : q₁ < 256) where
  abbrev P : ℕ
  P = p₀ + 256 * p₁

  abbrev Q : ℕ
  Q = q₀ + 256 * q₁

  abbrev low_sum : Cycle
  low_sum = add_of p₀ q₀ c

  abbrev high_sum : Cycle
  high_sum = add_of p₁ q₁ low_sum.c8

  sum_number : low_sum.result + 256 * high_sum.result ≡ (P + Q + bit c) % 65536
  sum_number =
      let one = byte-sum p₀ q₀ c hp₀ hq₀ in
      let two = byte-sum p₁ q₁ low_sum.c8 hp₁ hq₁ in
      omega (arith, result-byte p₀ q₀ c, result-byte p₁ q₁ low_sum.c8, bit_le high_sum.c8)

  sum-c4 : leb 16 (p₁ % 16 + q₁ % 16 + bit low_sum.c8) ≡ leb 4096 (P % 4096 + Q % 4096 + bit c)
  sum-c4 =
      let one = byte-sum p₀ q₀ c hp₀ hq₀ in
      let r = result-byte p₀ q₀ c in
      same_from 16 (p₁ % 16 + q₁ % 16 + bit low_sum.c8) 4096 (P % 4096 + Q % 4096 + bit c) (λ l. omega arith) (λ l. omega arith)

  sum-c8 : high_sum.c8 ≡ leb 65536 (P + Q + bit c)
  sum-c8 = simp add-zero at (carry-law (p₀ ∷ p₁ ∷ []) (q₀ ∷ q₁ ∷ []) c (hp₀, (hp₁, tt)) (hq₀, (hq₁, tt)) refl)

  sum-v : high_sum.v ≡ signed_outside 32768 P Q c
  sum-v =
      simp add-zero at (v-law p₀ q₀ (p₁ ∷ []) (q₁ ∷ []) c false (hp₀, (hp₁, tt)) (hq₀, (hq₁, tt)) refl)
      ∙ outside-is 32768 P Q c

  add-word : LowFirst Kind.Add p₀ p₁ q₀ q₁ c f
  unfolding cycle_of sum_of add_of
  add-word =
      record {
        number = sum_number;
        negative = digit-from low_sum.result high_sum.result 128 (result-byte p₀ q₀ c) ∙ ap (leb 32768) sum_number;
        c4 = sum-c4;
        c8 = sum-c8;
        v = sum-v;
        c = sum-c8;
      }

kept_word : (low high x : ℕ) (f : Flags) → low < 256 → low + 256 * high ≡ x → Joined (logical_of 65536 x f) (kept_of low f) (kept_of high f) (kept_of high f)
unfolding kept_of logical_of
kept_word low high x f h e =
    record { number = e; negative = digit-from low high 128 h ∙ ap (leb 32768) e; c4 = refl; c8 = refl; v = refl; c = refl }

-- a byte twice, and its bit 7
twice : (q : ℕ) → q < 256 → q * 2 % 256 + 256 * bit (leb 128 q) ≡ q * 2
twice q h = go (leb 128 q) refl
  where
    go : (t : Bool) → leb 128 q ≡ t → q * 2 % 256 + 256 * bit t ≡ q * 2
    go true e = let l = leb-true 128 q e in omega arith
    go false e = let l = leb-false 128 q e in omega arith

-- logic goes bit by bit, so byte by byte
bits-word : (g : ℕ → ℕ → ℕ) → ((k a b r s : ℕ) → r < 2 ^ k → s < 2 ^ k → g (a * 2 ^ k + r) (b * 2 ^ k + s) ≡ g a b * 2 ^ k + g r s)
    → (p₀ p₁ q₀ q₁ : ℕ) (f : Flags) → p₀ < 256 → q₀ < 256 → g p₀ q₀ < 256
    → Joined (logical_of 65536 (g (p₀ + 256 * p₁) (q₀ + 256 * q₁)) f) (kept_of (g p₀ q₀) f) (kept_of (g p₁ q₁) f) (kept_of (g p₁ q₁) f)
bits-word g block p₀ p₁ q₀ q₁ f hp hq h =
    let p : p₀ + 256 * p₁ ≡ p₁ * 256 + p₀ = omega arith in
    let q : q₀ + 256 * q₁ ≡ q₁ * 256 + q₀ = omega arith in
    let e = block 8 p₁ q₁ p₀ q₀ hp hq in
    kept_word (g p₀ q₀) (g p₁ q₁) _ f h (rw (p, q, e) (omega arith))

module _ (p₀ p₁ q₀ q₁ : ℕ) (c : Bool) (f : Flags) (hp₀ : p₀ < 256) (hp₁ : p₁ < 256) (hq₀ : q₀ < 256) (hq₁ : q₁ < 256) where
  ones_value : (255 - q₀) + 256 * (255 - q₁) ≡ 65535 - (q₀ + 256 * q₁)
  ones_value = omega arith

  subtract-word : LowFirst Kind.Subtract p₀ p₁ q₀ q₁ c f
  unfolding cycle_of subtract_of difference_of sum_of
  subtract-word =
      let P = p₀ + 256 * p₁ in
      let Q = q₀ + 256 * q₁ in
      let y = rw ones_value at (add-word p₀ p₁ (255 - q₀) (255 - q₁) c f hp₀ hp₁ (omega arith) (omega arith)) in
      record { number = y.number; negative = y.negative; c4 = y.c4; c8 = y.c8; v = y.v; c = ap not y.c8 ∙ borrow-is 65536 P Q c (omega arith) }

  ones-word : LowFirst Kind.Ones p₀ p₁ q₀ q₁ c f
  unfolding cycle_of ones_of complement_of
  ones-word =
      record {
        number = ones_value;
        negative = digit-from (255 - q₀) (255 - q₁) 128 (omega arith) ∙ ap (leb 32768) ones_value;
        c4 = refl;
        c8 = refl;
        v = refl;
        c = refl;
      }

  left_word : LowFirst Kind.Left p₀ p₁ q₀ q₁ c f
  unfolding cycle_of left_of shift_left_of
  left_word =
      let Q = q₀ + 256 * q₁ in
      let low = q₀ * 2 % 256 + bit c in
      let high = q₁ * 2 % 256 + bit (leb 128 q₀) in
      let e : low + 256 * high ≡ (Q * 2 + bit c) % 65536 = omega (arith, twice q₀ hq₀, twice q₁ hq₁, bit_le c, bit_le (leb 128 q₀), bit_le (leb 128 q₁)) in
      let d : q₁ / 8 ≡ Q / 2048 = omega arith in
      let m : Q % 32768 ≡ q₀ + 256 * (q₁ % 128) = omega arith in
      let into = doubled-carry 64 (q₁ % 128) 32768 (Q % 32768 * 2) c (λ l. omega arith) (λ l. omega arith) in
      let out = doubled-carry 128 q₁ 65536 (Q * 2) c (λ l. omega arith) (λ l. omega arith) in
      record {
        number = e;
        negative = digit-from low high 128 (omega (arith, bit_le c)) ∙ ap (leb 32768) e;
        c4 = ap odd d;
        c8 = digit-from q₀ q₁ 128 hq₀;
        v = ap₂ (λ i o. not (beq i o)) into out;
        c = digit-from q₀ q₁ 128 hq₀;
      }

  -- "Right shifts go high byte first, and NB and N are bit 7 of the low byte"
  right-word : Joined (shift_right_of 65536 (q₀ + 256 * q₁) c) (right_of q₀ (right_of q₁ c).c8) (right_of q₁ c) (right_of q₀ (right_of q₁ c).c8)
  unfolding right_of shift_right_of
  right-word =
      let Q = q₀ + 256 * q₁ in
      let low = q₀ / 2 + 128 * bit (odd q₁) in
      let b : bit (odd q₁) ≡ q₁ % 2 = bit_is (q₁ % 2) (omega arith) in
      let e : low + 256 * (q₁ / 2 + 128 * bit c) ≡ Q / 2 + 32768 * bit c = omega arith in
      let d : low / 128 % 2 ≡ (Q / 2 + 32768 * bit c) / 128 % 2 = omega arith in
      let o : q₀ % 2 ≡ Q % 2 = omega arith in
      let same : odd q₀ ≡ odd Q = ap (λ n. eqb n 1) o in
      record { number = e; negative = bit-seven low (omega arith) ∙ ap (λ n. eqb n 1) d; c4 = refl; c8 = same; v = refl; c = same }

  pub high-first-joined : (k : Kind) → high_first_of k ≡ true → HighFirst k p₀ p₁ q₀ q₁ c f
  unfolding cycle_of
  high-first-joined Kind.Add e = no e
  high-first-joined Kind.Subtract e = no e
  high-first-joined Kind.And e = no e
  high-first-joined Kind.AndNot e = no e
  high-first-joined Kind.Or e = no e
  high-first-joined Kind.Exclusive e = no e
  high-first-joined Kind.Move e = no e
  high-first-joined Kind.Ones e = no e
  high-first-joined Kind.Left e = no e
  high-first-joined Kind.Right e = right-word

  pub low-first-joined : (k : Kind) → high_first_of k ≡ false → LowFirst k p₀ p₁ q₀ q₁ c f
  unfolding cycle_of
  low-first-joined Kind.Add e = add-word p₀ p₁ q₀ q₁ c f hp₀ hp₁ hq₀ hq₁
  low-first-joined Kind.Subtract e = subtract-word
  low-first-joined Kind.And e = bits-word bit_and and_block p₀ p₁ q₀ q₁ f hp₀ hq₀ (and_lt 8 p₀ q₀ hp₀ hq₀)
  low-first-joined Kind.AndNot e =
      let h : 255 - q₀ < 256 = omega arith in
      rw ones_value at (bits-word bit_and and_block p₀ p₁ (255 - q₀) (255 - q₁) f hp₀ h (and_lt 8 p₀ (255 - q₀) hp₀ h))
  low-first-joined Kind.Or e = bits-word bit_or or_block p₀ p₁ q₀ q₁ f hp₀ hq₀ (or_lt 8 p₀ q₀ hp₀ hq₀)
  low-first-joined Kind.Exclusive e = bits-word bit_xor xor_block p₀ p₁ q₀ q₁ f hp₀ hq₀ (xor_lt 8 p₀ q₀ hp₀ hq₀)
  low-first-joined Kind.Move e = kept_word q₀ q₁ _ f hq₀ refl
  low-first-joined Kind.Ones e = ones-word
  low-first-joined Kind.Left e = left_word
  low-first-joined Kind.Right e = no (sym e)
