-- "Numbers 5-8 return the state before the refused attempt": a refusal changes nothing.
-- Assumes nothing.
use Prim.Native.Nat.{ℕ}
use mathlib.Core.Path.{◌≡◌, refl}
use mathlib.Core.List.{List}
use Rattle.code.specs.declared.Fields.{Fields}
use Rattle.rows.specs.declared.Outputs.{Outputs}
use Rattle.rows.specs.declared.Row.{Row}
use Rattle.state.specs.declared.Core.{Core}
use Rattle.state.specs.declared.Sample.{Sample}
use Rattle.attempt.specs.Attempt.{executed_of, attempt_of}
use Rattle.attempt_laws.proofs.Cases.{attempt-all}
use Rattle.state.specs.File.{Leaves}
use Rattle.attempt.specs.Outcome.{Outcome}

-- an executed word is not refused
pub executes : (xs : List ℕ) (k : Core) (w : Fields) (s : Sample) (o : Outputs) → (executed_of xs k w s o).back.refusal ≡ 0
unfolding executed_of
executes xs k w s o = refl

pub refusal-keeps : (ws : List ℕ) (rs : List Row) (xs : List ℕ) (k : Core) (s : Sample) → ((attempt_of ws rs xs k s).back.refusal ≡ 0 → ⊥)
    → ((attempt_of ws rs xs k s).file ≡ xs) × ((attempt_of ws rs xs k s).back.core ≡ k)
refusal-keeps ws rs xs k s =
    attempt-all (λ (e : Leaves Outcome). (e.back.refusal ≡ 0 → ⊥) → (e.file ≡ xs) × (e.back.core ≡ k)) ws rs xs k s
    (record {
      refuses = λ n h. (refl, refl);
      waits = λ h. absurd (h refl);
      resets = λ h. absurd (h refl);
      stops = λ h. absurd (h refl);
      executes = λ w f h. absurd (h (executes xs k w s _));
    })
