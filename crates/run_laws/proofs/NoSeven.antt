-- 02, L6: "7 no longer occurs": no run answers it, nor does what the host is handed back, whatever is handed in. Assumes nothing.
use mathlib.Core.Path.{◌≡◌}
use mathlib.Core.List.{List}
use Prim.Native.Nat.{ℕ}
use native.Mathlib.Omega.{arith}
use Rattle.attempt_laws.proofs.NoSeven.{seven}
use Rattle.engine.specs.Host.{host_of}
use Rattle.engine.specs.Run.{World, run_from}
use Rattle.rows.specs.declared.Row.{Row}
use Rattle.state.specs.declared.Sample.{Sample}
use Rattle.run_laws.proofs.Never.{not-before, run-never, host-never}

pub run-not-7 : (ws : List ℕ) (rs : List Row) (ss : List Sample) (w : World) → (w.answer ≡ 7 → ⊥) → (run_from ws rs ss w).answer ≡ 7 → ⊥
run-not-7 = run-never 7 seven

pub host-not-7 : (deck requests state : List ℕ) (marking : ℕ) → (host_of deck requests state marking).report.answer ≡ 7 → ⊥
host-not-7 = host-never 7 seven (not-before 7 (omega arith) (λ e. omega arith) (λ e. omega arith))
