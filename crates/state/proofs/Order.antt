-- The bits of the flag byte are the flags in 01's order, from the bytes and to them.
-- Assumes nothing.
use mathlib.Core.Path.{◌≡◌, sym, ◌∙◌}
use Prim.Native.Nat.{ℕ, ◌<◌}
use native.Mathlib.Omega.{arith}
use Rattle.alu.specs.declared.Flags.{Flags}
use Rattle.choose.specs.Bits.{high_to_low}
use Rattle.state.specs.FlagByte.{nibble_of, flag_byte_of, flags_of}
use Rattle.state.specs.Order.{in_order}
use Rattle.state.proofs.Digits.{flag-byte-back}

-- "Flag byte, high to low: N Z V C NB ZB C4 C8"
pub flag-byte-order : (f : Flags) → flag_byte_of f ≡ high_to_low (in_order f)
unfolding flag_byte_of nibble_of
flag-byte-order f = omega arith

-- the same of the flags that a byte gives
pub flags-order : (x : ℕ) → x < 256 → high_to_low (in_order (flags_of x)) ≡ x
flags-order x h = sym (flag-byte-order (flags_of x)) ∙ flag-byte-back x h
