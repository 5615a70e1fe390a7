-- 02, L6: "7 no longer occurs": no attempt is refused with it, whatever is handed in. Assumes nothing.
use Prim.Native.Nat.{ℕ}
use mathlib.Core.Path.{◌≡◌}
use mathlib.Core.List.{List}
use native.Mathlib.Omega.{arith}
use Rattle.attempt.specs.Attempt.{attempt_of}
use Rattle.rows.specs.declared.Row.{Row}
use Rattle.state.specs.declared.Core.{Core}
use Rattle.state.specs.declared.Sample.{Sample}
use Rattle.attempt_laws.specs.Fate.{OtherNumber}
use Rattle.attempt_laws.proofs.Never.{from-seven, attempt-never}

pub seven : OtherNumber 7
seven = from-seven 7 (omega arith) (λ e. omega arith)

pub attempt-not-7 : (ws : List ℕ) (rs : List Row) (xs : List ℕ) (k : Core) (s : Sample) → (attempt_of ws rs xs k s).back.refusal ≡ 7 → ⊥
attempt-not-7 = attempt-never 7 seven
