-- Which states are in range: "G (0-7), LC, RR (0-2047), .. TSR (0-7), .. and a waiting modification (a mark and 16 bits, zero when
-- unmarked)". "Out of range includes any unused bit set, .. and a modification without its mark." 02, L1: "1 also for a 42nd byte over 15".
use Rattle.std.specs.Prelude.{Bool, ◌&&◌, ◌||◌, List, ℕ, eqb, leb, length}
use Rattle.numbers.specs.Numbers.{byte_at}
use Rattle.state.specs.declared.Address.{Address}
use Rattle.state.specs.declared.Latches.{Latches}
use Rattle.state.specs.declared.Core.{Core}
use Rattle.state.specs.declared.Marking.{Marking}
use Rattle.state_bytes.specs.Bytes.{state_bytes, core_of}

unfoldable pub address_in_range : Address → Bool
address_in_range a = leb a.lc 2047 && leb a.rr 2047 && leb a.tsr 7

unfoldable pub latches_in_range : Latches → Bool
latches_in_range l = leb l.g 7 && leb l.interrupts 7 && (l.marked || eqb l.modification 0)

unfoldable pub core_in_range : Core → Bool
core_in_range k = address_in_range k.address && latches_in_range k.latches && leb k.outputs 15

-- refusal 1 is given exactly when the state's bytes are not this; marks has four bits. Every marking has the same range
unfoldable pub state_in_range : List ℕ → Bool
state_in_range s = eqb (length s) state_bytes && leb (byte_at s 37) 15 && core_in_range (core_of s Marking.CP1661B)
