-- The lines of the words that are left, laid where the next begins, are the rest of the whole listing.
use Rattle.std.proofs.Common.{ℕ, List, length, ◌+◌, ◌*◌, ◌-◌, ◌≤◌, ◌≡◌}
use Rattle.std.proofs.lemmas.List.Edits.{sets}
use Rattle.choose.specs.Below.{firsts}
use Rattle.numbers.specs.Numbers.{word_at}
use Rattle.listing.specs.Listed.{listing_from}
use Rattle.listing.proofs.listed.Given as goal

-- the lines of the words from i on, and all lines
abbrev pub rest : List ℕ → ℕ → ℕ → List ℕ
rest words n i = listing_from i (firsts (word_at words) i (n - i))

abbrev pub whole : List ℕ → ℕ → List ℕ
whole words n = listing_from 0 (firsts (word_at words) 0 n)

pub record Goes (words : List ℕ) (n : ℕ) (before text : List ℕ) (at i : ℕ) : Type 0 where
  pub within : i ≤ n
  pub short : at ≤ 40 * i
  pub bytes : sets text at (rest words n i) ≡ sets before 0 (whole words n)
  pub ends : at + length (rest words n i) ≡ length (whole words n)

abbrev pub invariant-loop-address : goal.invariant-loop-address
invariant-loop-address l = Goes l.words l.n l.initial.text l.text l.at l.address
