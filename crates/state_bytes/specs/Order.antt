-- "State: .. G0-GB, R2-RF, G, flags, LC, RR, TR, M, TSR, marks (bit 0 ICS, 1 SYNC, 2 IACK, 3 modification), I4-I6 in bits 0-2, modification", and the
-- outputs: this order as a list. Each number has its width beside it, and stands where those before it end.
use Rattle.std.specs.Prelude.{ℕ, zero, suc, ◌+◌, ◌<◌, ◌≡◌, List, [], ◌∷◌, length}
use Rattle.choose.specs.Bits.{high_to_low, from_bit0, bit_at}
use Rattle.numbers.specs.Laid.{number_at, LaidWithin}
use Rattle.numbers.specs.Numbers.{byte_at}
use Rattle.state.specs.File.{register_of}
use Rattle.state.specs.Order.{in_order}
use Rattle.state.specs.Registers.{name_of, name_at, Designates}
use Rattle.state.specs.declared.Core.{Core}
use Rattle.state_bytes.specs.Bytes.{state_bytes}

-- G0-GB and R2-RF
abbrev pub registers_wide : ℕ
registers_wide = 12 + 14

-- and what comes after them
abbrev pub state_order : Core → List (ℕ × ℕ)
state_order k =
    (1, k.latches.g)
    ∷ (1, high_to_low (in_order k.flags))
    ∷ (2, k.address.lc)
    ∷ (2, k.address.rr)
    ∷ (2, k.latches.tr)
    ∷ (2, k.bus.m)
    ∷ (1, k.address.tsr)
    ∷ (1, from_bit0 (k.latches.ics ∷ k.bus.sync ∷ k.bus.iack ∷ k.latches.marked ∷ []))
    ∷ (1, k.latches.interrupts)
    ∷ (2, k.latches.modification)
    ∷ (1, k.outputs)
    ∷ []

-- the register file xs holds the first bytes of s, each under the name that 01 lists at its place
abbrev pub RegistersInOrder : List ℕ → List ℕ → Type 0
RegistersInOrder s xs = (i g d : ℕ) → i < registers_wide → Designates g d → name_of g d ≡ name_at i → register_of xs g d ≡ byte_at s i

-- "G (0-7), LC, RR (0-2047), TR, M (16 bits), TSR (0-7)": the limits of the same numbers; flags are eight, marks four, I4-I6 three; 02, L1: "1 also for
-- a 42nd byte over 15"
abbrev pub state_limits : List (ℕ × ℕ)
state_limits = (1, 7) ∷ (1, 0xFF) ∷ (2, 2047) ∷ (2, 2047) ∷ (2, 0xFFFF) ∷ (2, 0xFFFF) ∷ (1, 7) ∷ (1, 0xF) ∷ (1, 7) ∷ (2, 0xFFFF) ∷ (1, 15) ∷ []

-- where number i of them starts: after the registers and the widths before it
abbrev pub start_of : ℕ → List (ℕ × ℕ) → ℕ
start_of zero fs = registers_wide
start_of (suc i) [] = registers_wide
start_of (suc i) (f ∷ fs) = f.0 + start_of i fs

-- a state in range: "Out of range includes any unused bit set, .. and a modification without its mark". The mark is bit 3 of marks, which is number 7 of those
-- listed; the modification is number 9
pub record StateInRange (s : List ℕ) : Type 0 where
  pub size : length s ≡ state_bytes
  pub limits : LaidWithin s registers_wide state_limits
  pub unmarked : bit_at (number_at s (start_of 7 state_limits) 1) 3 ≡ 0 → number_at s (start_of 9 state_limits) 2 ≡ 0
