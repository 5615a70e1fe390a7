-- What the laws of a run say, by name.
use Rattle.std.specs.Prelude.{ℕ, ◌+◌, ◌*◌, ◌/◌, ◌<◌, ◌≤◌, ◌≡◌, List, [], ◌∷◌, eqb, length, get_or}
use Rattle.numbers.specs.Numbers.{word_at}
use Rattle.engine.specs.Run.{World, run_from}
use Rattle.state.specs.Range.{SampleInRange}
use Rattle.state.specs.declared.Sample.{Sample}
use Rattle.choose.specs.Ranged.{pick}
use Rattle.rows.specs.declared.Row.{Row}

-- each sample is in range
abbrev pub SamplesInRange : List Sample → Type 0
SamplesInRange [] = Unit {0}
SamplesInRange (s ∷ ss) = SampleInRange s × SamplesInRange ss

-- no word is "a word of 2^22 or more"
abbrev pub WordsInRange : List ℕ → Type 0
WordsInRange ws = (i : ℕ) → i < length ws / 4 → word_at ws i < 0x40_0000

-- 0, or one of the numbers that an attempt is refused with: "5, 6, 7, 8", of which 02, L6: "7 no longer occurs"
abbrev pub Number : ℕ → Type 0
Number n = (n ≡ 0 → ⊥) → (5 ≤ n) × (n ≤ 8) × (n ≡ 7 → ⊥)

-- v, after a run of n samples from w, has used them all where its answer is 0, and fewer where it is another
pub record Counted (n : ℕ) (w v : World) : Type 0 where
  pub full : v.answer ≡ 0 → v.attempts ≡ w.attempts + n
  pub short : (v.answer ≡ 0 → ⊥) → v.attempts < w.attempts + n

-- from w to v the request buffer keeps its length, and only the places of the attempts between are written
pub record Placed (w v : World) : Type 0 where
  pub size : length v.buffer ≡ length w.buffer
  pub onward : w.attempts ≤ v.attempts
  pub before : (i d : ℕ) → i < w.attempts * 4 → get_or v.buffer i d ≡ get_or w.buffer i d
  pub past : (i d : ℕ) → v.attempts * 4 ≤ i → get_or v.buffer i d ≡ get_or w.buffer i d

-- the samples ts after a run that left v: none of them where it was refused
abbrev pub further : List ℕ → List Row → List Sample → World → World
further ws rs ts v = pick (eqb v.answer 0) (run_from ws rs ts v) v
