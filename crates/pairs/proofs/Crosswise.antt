-- On crosswise pairs the second cycle reads what the first wrote: from the law of every operation, that of MW, AW, SW, SLW and SRW in bytes.
-- Assumes nothing.
use Prim.Native.Nat.{ℕ, ◌+◌, ◌-◌, ◌*◌, ◌/◌, ◌%◌, ◌<◌}
use mathlib.Core.Path.{◌≡◌, refl, ap, sym, ◌∙◌}
use mathlib.Core.Bool.{Bool, true, false, ◌||◌}
use mathlib.Core.List.{List, [], ◌∷◌}
use native.Mathlib.Omega.{arith}
use lib.Dec.{T, ltb}
use lib.ListN.{length, get_or}
use borrow.Author.Tests.{ltb-true, ltb-false}
use Rattle.attempt.specs.Attempt.{attempt_of}
use Rattle.attempt_laws.proofs.Range.{attempt-in-range}
use Rattle.attempt_laws.specs.Fate.{within, top_in, b_in, a_in, taken_word}
use Rattle.choose.proofs.Table.{SameTests, all-same-tests, below}
use Rattle.choose.specs.Below.{all_below, all_same}
use Rattle.choose.specs.Ranged.{bit, pick}
use Rattle.rows.specs.declared.Row.{Row}
use Rattle.state.proofs.Laws.{written_same}
use Rattle.state.specs.File.{slot_of, register_of, written_of}
use Rattle.state.specs.Pairs.{inverted}
use Rattle.state.specs.declared.Core.{Core}
use Rattle.state.specs.declared.Sample.{Sample}
use Rattle.table_laws.proofs.Performed.{register-below}
use Rattle.table_laws.proofs.Set.{attempt-sets, no_line, each_at}
use Rattle.table_laws.specs.Operations.{Line, operations, sum_of, difference_of, logical_of, shift_left_of, shift_right_of}
use Rattle.table_laws.specs.Set.{condition_fails, ConditionHolds, word_code, shifts_right, pair_found}
use Rattle.pairs.specs.Crosswise.{moved, added, subtracted, shifted_left, shifted_right, Given, Leaving}

-- ---- a register under two names

same-register : (xs : List ℕ) (g d e : ℕ) → slot_of g d ≡ slot_of g e → register_of xs g d ≡ register_of xs g e
unfolding register_of
same-register xs g d e h = rw h

-- two bytes of a number
abbrev Splits : ℕ → ℕ × ℕ → Type 0
Splits n (low, high) = (n % 256 ≡ low) × (n / 256 ≡ high)

-- ---- an instruction of line i

abbrev line : ℕ → Line
line i = get_or operations i no_line

-- its codes, the even one and the odd one, are of the line, words, of two designators, without condition, and begin with the byte that is said
abbrev facts : ℕ → Bool → ℕ → List (Bool × Bool)
facts i high x =
    (within (line i).first (line i).last x, true) ∷ (word_code x, true) ∷ (shifts_right x, high) ∷ (within 0x20 0x6F x, false) ∷
    (within 0xE0 0xE7 x, false) ∷ (within 0x84 0x87 x || within 0xA4 0xA7 x, false) ∷ (within 0xAE 0xAF x, false) ∷ []

abbrev Tested : ℕ → ℕ → Bool → Type 0
Tested even i high = T (all_below 0x100 (λ x. pick (within even (even + 1) x) (all_same (facts i high x)) true))

module _ (even i : ℕ) (high : Bool) (there : i < length operations) (t : Tested even i high)
    (ws : List ℕ) (rs : List Row) (xs : List ℕ) (k : Core) (s : Sample) (given : Given even ws rs xs k s) where
  abbrev word : ℕ
  word = taken_word ws k

  abbrev g : ℕ
  g = k.latches.g

  abbrev a : ℕ
  a = a_in word

  abbrev b : ℕ
  b = b_in word

  abbrev x : ℕ
  x = register_of xs g a

  abbrev y : ℕ
  y = register_of xs g b

  abbrev ys : List ℕ
  ys = (attempt_of ws rs xs k s).file

  code-facts : SameTests (facts i high (top_in word))
  code-facts =
      all-same-tests (facts i high (top_in word))
      (rw given.code at (below 0x100 (λ x. pick (within even (even + 1) x) (all_same (facts i high x)) true) t (top_in word) (omega arith)))

  holds : ConditionHolds ws k
  unfolding condition_fails
  holds =
      let (here, (w, (r, (l, (n, (c, (i, u))))))) = code-facts in
      rw (c, i)

  -- the pair after it is what the line gives of the pair before it and of what the cycles found
  pair-after : (line i).writes ≡ true
      → register_of ys g a + 256 * register_of ys g (inverted a)
      ≡ ((line i).gives 0x1_0000 (register_of xs g a + 256 * register_of xs g (inverted a)) (pair_found (line i) high xs g k.flags b a) k.flags).number
  pair-after writes =
      let sets = attempt-sets ws rs xs k s given.state given.sample given.completes holds in
      let (here, (w, (r, (l, (n, u))))) = code-facts in
      let performed = rw (w, r, l, n) at ((each_at sets.operation i there).performed here) in
      performed.stored writes

  -- the second cycle finds what the first gave, in bytes: low byte first
  found-low : high ≡ false → (line i).writes ≡ true → pair_found (line i) high xs g k.flags b a ≡ y + 256 * ((line i).gives 0x100 x y k.flags).number
  found-low e writes =
      let v = ((line i).gives 0x100 x y k.flags).number in
      rw (e, writes)
      (ap (λ n. y + 256 * n) (same-register (written_of xs g a v) g (inverted b) a given.crosswise.high ∙ written_same xs g a v given.state.size))

  -- and high byte first
  found-high : high ≡ true → (line i).writes ≡ true → pair_found (line i) high xs g k.flags b a ≡ ((line i).gives 0x100 y x k.flags).number + 256 * x
  found-high e writes =
      let a' = inverted a in
      let ra = sym (same-register xs g b a' given.crosswise.low) in
      let rb = same-register xs g (inverted b) a given.crosswise.high in
      let v = ((line i).gives 0x100 y x k.flags).number in
      rw (e, writes, ra, rb)
      (ap (λ n. n + 256 * x) (same-register (written_of xs g a' v) g b a' given.crosswise.low ∙ written_same xs g a' v given.state.size))

  -- Ra and Rb afterwards, as one number, from Ra and Rb before
  after : (found : ℕ) → (line i).writes ≡ true → pair_found (line i) high xs g k.flags b a ≡ found
      → register_of ys g a + 256 * register_of ys g b ≡ ((line i).gives 0x1_0000 (x + 256 * y) found k.flags).number
  after found writes e =
      rw (same-register ys g b (inverted a) given.crosswise.low, same-register xs g b (inverted a) given.crosswise.low, ← e) (pair-after writes)

  -- and so each by itself
  leave : (held : ℕ → ℕ → ℕ × ℕ) (found : ℕ) → (line i).writes ≡ true → pair_found (line i) high xs g k.flags b a ≡ found
      → Splits ((line i).gives 0x1_0000 (x + 256 * y) found k.flags).number (held x y) → Leaving held ws rs xs k s
  leave held found writes e (low, high) =
      let n = after found writes e in
      let below = register-below g ys (attempt-in-range ws rs xs k s given.rows given.state given.sample).bytes in
      (omega (arith, below a, below b), omega (arith, below a, below b))

  byte-before : (d : ℕ) → register_of xs g d < 256
  byte-before = register-below g xs given.state.bytes

  abbrev OfBytes : (ℕ → ℕ → ℕ × ℕ) → (ℕ → ℕ → ℕ) → Type 0
  OfBytes held found =
      (x y : ℕ) → x < 256 → y < 256 → Splits ((line i).gives 0x1_0000 (x + 256 * y) (found x y) k.flags).number (held x y)

  low_first : high ≡ false → (line i).writes ≡ true → (held : ℕ → ℕ → ℕ × ℕ)
      → OfBytes held (λ x y. y + 256 * ((line i).gives 0x100 x y k.flags).number) → Leaving held ws rs xs k s
  low_first e writes held splits = leave held _ writes (found-low e writes) (splits x y (byte-before a) (byte-before b))

  high-first : high ≡ true → (line i).writes ≡ true → (held : ℕ → ℕ → ℕ × ℕ)
      → OfBytes held (λ x y. ((line i).gives 0x100 y x k.flags).number + 256 * x) → Leaving held ws rs xs k s
  high-first e writes held splits = leave held _ writes (found-high e writes) (splits x y (byte-before a) (byte-before b))

-- ---- the numbers of the five

splits : (n low high : ℕ) → low < 256 → n ≡ low + 256 * high → Splits n (low, high)
splits n low high l e = (omega arith, omega arith)

carried : (n low high : ℕ) → low < 256 → n ≡ low + 256 * high → Splits (n % 65536) (low, high % 256)
carried n low high l e = (omega arith, omega arith)

sum-bytes : (x y : ℕ) → Splits (((x + 256 * y) + (y + 256 * ((x + y + 0) % 256)) + 0) % 65536) (added x y)
sum-bytes x y = carried _ ((x + y) % 256) (y + (x + y) % 256 + (x + y) / 256) (omega arith) (omega arith)

-- d is x less y, with a borrow c
less : (x y d c : ℕ) → y < 256 → d < 256 → c < 2 → x + 256 * c ≡ y + d
    → (x + 256 * y) + (65535 - (y + 256 * d)) + 1 ≡ d + 256 * (256 + y - d - c)
less x y d c hy hd hc e = omega arith

difference-bytes : (x y : ℕ) → x < 256 → y < 256
    → Splits (((x + 256 * y) + (65535 - (y + 256 * ((x + (255 - y) + 1) % 256))) + 1) % 65536) (subtracted x y)
difference-bytes x y hx hy = go (ltb x y) refl
  where
    go : (t : Bool) → ltb x y ≡ t
        → Splits (((x + 256 * y) + (65535 - (y + 256 * ((x + (255 - y) + 1) % 256))) + 1) % 65536)
        (let low = (256 + x - y) % 256 in (low, (256 + y - low - bit t) % 256))
    go true e =
        let l = ltb-true x y e in
        let d : (256 + x - y) % 256 ≡ 256 + x - y = omega arith in
        let c : (x + (255 - y) + 1) % 256 ≡ 256 + x - y = omega arith in
        rw (c, d) (carried _ (256 + x - y) (256 + y - (256 + x - y) - 1) (omega arith) (less x y (256 + x - y) 1 hy (omega arith) (omega arith) (omega arith)))
    go false e =
        let l = ltb-false x y e in
        let d : (256 + x - y) % 256 ≡ x - y = omega arith in
        let c : (x + (255 - y) + 1) % 256 ≡ x - y = omega arith in
        rw (c, d) (carried _ (x - y) (256 + y - (x - y) - 0) (omega arith) (less x y (x - y) 0 hy (omega arith) (omega arith) (omega arith)))

left-bytes : (y : ℕ) → Splits (((y + 256 * ((y * 2 + 0) % 256)) * 2 + 0) % 65536) (shifted_left 0 y)
left-bytes y =
    let low : (y * 2 + 0) % 256 ≡ 2 * y % 256 = omega arith in
    let out : 2 * y ≡ 2 * y % 256 + 256 * (y / 128) = omega arith in
    rw low (carried _ (2 * y % 256) (2 * (2 * y % 256) + y / 128) (omega arith) (omega arith))

right-bytes : (x : ℕ) → x < 256 → Splits ((x / 2 + 0 + 256 * x) / 2 + 0) (shifted_right x 0)
right-bytes x h = splits _ (x / 2 / 2 + 128 * (x % 2)) (x / 2) (omega arith) (omega arith)

-- ---- the five, by their lines, counted from 0

module _ (ws : List ℕ) (rs : List Row) (xs : List ℕ) (k : Core) (s : Sample) where
  pub mw-crosswise : Given 0x82 ws rs xs k s → Leaving moved ws rs xs k s
  unfolding logical_of
  mw-crosswise given = low_first 0x82 7 false (omega arith) tt ws rs xs k s given refl refl moved (λ x y hx hy. (omega arith, omega arith))

  pub aw-crosswise : Given 0xA2 ws rs xs k s → Leaving added ws rs xs k s
  unfolding sum_of
  aw-crosswise given = low_first 0xA2 14 false (omega arith) tt ws rs xs k s given refl refl added (λ x y hx hy. sum-bytes x y)

  pub sw-crosswise : Given 0xB2 ws rs xs k s → Leaving subtracted ws rs xs k s
  unfolding difference_of sum_of
  sw-crosswise given = low_first 0xB2 17 false (omega arith) tt ws rs xs k s given refl refl subtracted difference-bytes

  pub slw-crosswise : Given 0x8E ws rs xs k s → Leaving shifted_left ws rs xs k s
  unfolding shift_left_of
  slw-crosswise given = low_first 0x8E 9 false (omega arith) tt ws rs xs k s given refl refl shifted_left (λ x y hx hy. left-bytes y)

  pub srw-crosswise : Given 0xDE ws rs xs k s → Leaving shifted_right ws rs xs k s
  unfolding shift_right_of
  srw-crosswise given = high-first 0xDE 27 true (omega arith) tt ws rs xs k s given refl refl shifted_right (λ x y hx hy. right-bytes x hx)
