-- Exactly the listed top bytes have a mnemonic: one test that antt computes at each of the 256.
use Prim.Native.Nat.{ℕ, ◌<◌}
use mathlib.Core.Path.{◌≡◌}
use mathlib.Core.Bool.{beq}
use Rattle.choose.specs.Ranged.{ranged}
use Rattle.choose.proofs.Table.{below}
use Rattle.choose.proofs.Tests.{equal-tests}
use Rattle.code.specs.CodeRows.{class_of, listed}
use Rattle.names.specs.Mnemonics.{mnemonic_of, is_named}

pub named-listed : (top : ℕ) → top < 0x100 → is_named top ≡ listed (class_of top)
unfolding mnemonic_of class_of ranged
named-listed top h = equal-tests _ _ (below 0x100 (λ x. beq (is_named x) (listed (class_of x))) tt top h)
