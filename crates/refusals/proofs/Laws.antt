-- A refusal's number is not that of an answer where nothing is refused. Assumes nothing.
use Prim.Native.Nat.{ℕ}
use mathlib.Core.Path.{◌≡◌}
use native.Mathlib.Omega.{arith}
use Rattle.refusals.specs.Refusals.{number_of}
use Rattle.refusals.specs.declared.Refusal.{Refusal}

pub not-0 : (r : Refusal) → number_of r ≡ 0 → ⊥
not-0 Refusal.StateRange e = omega arith
not-0 Refusal.WordRange e = omega arith
not-0 Refusal.RowRange e = omega arith
not-0 Refusal.SampleRange e = omega arith
not-0 Refusal.NoWord e = omega arith
not-0 Refusal.Unlisted e = omega arith
not-0 Refusal.NotAnOption e = omega arith
not-0 Refusal.NoDeck e = omega arith
not-0 Refusal.Mnemonic e = omega arith
not-0 Refusal.Operand e = omega arith
not-0 Refusal.Address e = omega arith
not-0 Refusal.Memory e = omega arith
not-0 Refusal.NoReply e = omega arith
not-0 Refusal.NoMarking e = omega arith
