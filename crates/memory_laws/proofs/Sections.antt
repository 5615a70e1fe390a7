-- The bytes of samples, and the samples of those bytes. Assumes nothing.
use Prim.Native.Nat.{ℕ, zero, suc, ◌+◌, ◌*◌, ◌/◌, ◌%◌, ◌<◌, ◌≤◌}
use mathlib.Core.Path.{◌≡◌, refl, sym, ap, ap₂, ◌∙◌}
use mathlib.Core.Bool.{Bool, true, false}
use mathlib.Core.List.{List, [], ◌∷◌, ◌++◌}
use native.Mathlib.Nat.{add-zero}
use native.Mathlib.Omega.{arith}
use borrow.Author.Tests.{ltb-true, ltb-false}
use lib.Dec.{ltb}
use lib.ListN.{length, length-append, get_or-append}
use lib.Seq.{get_or-append-add}
use Rattle.choose.proofs.Tests.{bit_le, is-bit}
use Rattle.deck.proofs.Slip.{samples-tested}
use Rattle.deck.specs.Elements.{sample_at, sample_of, lines_at, interrupts_at}
use Rattle.deck.specs.Ranges.{samples_in_range}
use Rattle.engine.specs.Run.{samples_from}
use Rattle.numbers.proofs.Laws.{append-bytes}
use Rattle.numbers.specs.Numbers.{byte_at, Bytes}
use Rattle.state.specs.Range.{SampleInRange}
use Rattle.state.specs.declared.Sample.{Sample}
use Rattle.memory_laws.specs.Attempts.{samples_below}
use Rattle.memory_laws.specs.Decks.{lines_byte, sample_bytes, section_below}

-- ---- one sample
-- five tests fit in five bits
lines-below : (s : Sample) → lines_byte s ≤ 31
lines-below s = omega (arith, bit_le s.reply, bit_le s.busy, bit_le s.compute, bit_le s.reset, bit_le s.ics)

sample-bytes : (s : Sample) → SampleInRange s → Bytes (sample_bytes s)
sample-bytes s r = (omega arith, (omega (arith, r.dal), (omega (arith, lines-below s), (omega (arith, r.interrupts), tt))))

-- its four bytes hold it
sample-back : (s : Sample) → sample_of (s.dal % 256) (s.dal / 256) (lines_byte s) s.interrupts ≡ s
sample-back s =
    let n = lines_byte s in
    let a = bit_le s.reply in
    let b = bit_le s.busy in
    let c = bit_le s.compute in
    let d = bit_le s.reset in
    let e = bit_le s.ics in
    let dal : ◌≡◌ {A = ℕ} (s.dal % 256 + 256 * (s.dal / 256)) s.dal = omega arith in
    rw (
      dal,
      is-bit s.reply (n % 2) (omega arith),
      is-bit s.busy (n / 2 % 2) (omega arith),
      is-bit s.compute (n / 4 % 2) (omega arith),
      is-bit s.reset (n / 8 % 2) (omega arith),
      is-bit s.ics (n / 16 % 2) (omega arith),
    )

-- ---- n samples
module _ (at : ℕ → Sample) where
  pub section-length : (n : ℕ) → length (section_below at n) ≡ n * 4
  unfolding section_below
  section-length zero = refl
  section-length (suc n) = length-append (section_below at n) (sample_bytes (at n)) ∙ omega (arith, section-length n)

  pub section-bytes : (n : ℕ) → ((j : ℕ) → j < n → SampleInRange (at j)) → Bytes (section_below at n)
  unfolding section_below
  section-bytes zero r = tt
  section-bytes (suc n) r =
      append-bytes (section_below at n) (sample_bytes (at n)) (section-bytes n (λ j l. r j (omega arith))) (sample-bytes (at n) (r n (omega arith)))

  -- byte k of sample j
  section-byte : (n j k : ℕ) → j < n → k < 4 → byte_at (section_below at n) (j * 4 + k) ≡ byte_at (sample_bytes (at j)) k
  unfolding section_below
  section-byte zero j k l m = absurd (omega arith)
  section-byte (suc n) j k l m = go (λ early. section-byte n j k early m) (ltb j n) refl
    where
      size : length (section_below at n) ≡ n * 4
      size = section-length n

      go : (j < n → byte_at (section_below at n) (j * 4 + k) ≡ byte_at (sample_bytes (at j)) k) → (t : Bool) → ltb j n ≡ t
          → byte_at (section_below at n ++ sample_bytes (at n)) (j * 4 + k) ≡ byte_at (sample_bytes (at j)) k
      go before true t =
          let early = ltb-true j n t in
          get_or-append (section_below at n) (sample_bytes (at n)) 0 (j * 4 + k) (omega (arith, size)) ∙ before early
      go before false t =
          let late = ltb-false j n t in
          let last : n ≡ j = omega arith in
          let place : j * 4 + k ≡ length (section_below at n) + k = omega (arith, size) in
          ap (byte_at (section_below at n ++ sample_bytes (at n))) place
          ∙ get_or-append-add (section_below at n) (sample_bytes (at n)) k 0
          ∙ ap (λ (i : ℕ). byte_at (sample_bytes (at i)) k) last

  pub section-sample : (n j : ℕ) → j < n → sample_at (section_below at n) j ≡ at j
  unfolding sample_at
  section-sample n j l =
      let s = section_below at n in
      let low : byte_at s (j * 4) ≡ (at j).dal % 256 = ap (byte_at s) (sym (add-zero (j * 4))) ∙ section-byte n j 0 l (omega arith) in
      rw (low, section-byte n j 1 l (omega arith), section-byte n j 2 l (omega arith), section-byte n j 3 l (omega arith)) (sample-back (at j))

  -- the deck's test of them: 4 is not given
  pub section-in-range : (n : ℕ) → n ≤ 65535 → ((j : ℕ) → j < n → SampleInRange (at j)) → samples_in_range (section_below at n) ≡ true
  section-in-range n few r =
      let s = section_below at n in
      let size = section-length n in
      samples-tested s (omega arith)
      (λ j m.
      let l : j < n = omega arith in
      let lines : lines_at s j ≡ lines_byte (at j) = section-byte n j 2 l (omega arith) in
      let interrupts : interrupts_at s j ≡ (at j).interrupts = section-byte n j 3 l (omega arith) in
      (omega (arith, lines-below (at j)), omega (arith, (r j l).interrupts)))

-- ---- the samples of a section
-- one more at the end
samples-more : (s : List ℕ) (n i : ℕ) → samples_from s i (suc n) ≡ samples_from s i n ++ (sample_at s (i + n) ∷ [])
unfolding samples_from
samples-more s zero i = ap (λ (j : ℕ). sample_at s j ∷ []) (sym (add-zero i))
samples-more s (suc n) i =
    let past : suc i + n ≡ i + suc n = omega arith in
    ap (λ (xs : List Sample). sample_at s i ∷ xs) (samples-more s n (suc i) ∙ ap (λ (j : ℕ). samples_from s (suc i) n ++ (sample_at s j ∷ [])) past)

pub samples-below : (s : List ℕ) (n : ℕ) → samples_from s 0 n ≡ samples_below (sample_at s) n
unfolding samples_from samples_below
samples-below s zero = refl
samples-below s (suc n) =
    let here : 0 + n ≡ n = omega arith in
    samples-more s n 0 ∙ ap₂ (λ (xs : List Sample) (j : ℕ). xs ++ (sample_at s j ∷ [])) (samples-below s n) here

-- the same samples, one by one
pub below-same : (at to : ℕ → Sample) (n : ℕ) → ((j : ℕ) → j < n → at j ≡ to j) → samples_below at n ≡ samples_below to n
unfolding samples_below
below-same at to zero e = refl
below-same at to (suc n) e =
    ap₂ (λ (xs : List Sample) (s : Sample). xs ++ (s ∷ [])) (below-same at to n (λ j l. e j (omega arith))) (e n (omega arith))

-- the samples of their bytes are themselves
pub section-samples : (at : ℕ → Sample) (n : ℕ) → samples_from (section_below at n) 0 n ≡ samples_below at n
section-samples at n = samples-below (section_below at n) n ∙ below-same _ at n (section-sample at n)
