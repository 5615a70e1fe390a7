-- What an attempt leaves besides the register file: the rest of the state, its request, its microcycles, and the number of its refusal, or 0.
use Rattle.std.specs.Prelude.{ℕ, Result, Ok, Err}
use Rattle.attempt.specs.declared.Done.{Done}
use Rattle.refusals.specs.Refusals.{number_of}
use Rattle.refusals.specs.declared.Refusal.{Refusal}
use Rattle.state.specs.declared.Core.{Core}

pub record Outcome : Type 0 where
  pub core : Core
  pub request : ℕ
  pub cycles : ℕ
  pub refusal : ℕ

abbrev pub outcome_of : Core → ℕ → ℕ → ℕ → Outcome
outcome_of k request cycles refusal = record { core = k; request = request; cycles = cycles; refusal = refusal }

-- of an attempt that is not refused
abbrev pub unrefused : Done → Outcome
unrefused d = outcome_of d.core d.request d.cycles 0

-- "a refusal returns the state before the attempt", k
abbrev pub outcome : Core → Result Done Refusal → Outcome
outcome k (Ok d) = unrefused d
outcome k (Err r) = outcome_of k 0 0 (number_of r)
