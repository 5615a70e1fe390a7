-- The state in range. 01, "What is handed in": what no unused bit is set in.
use Rattle.std.specs.Prelude.{ℕ, ◌<◌, ◌≡◌, false, List, length}
use Rattle.numbers.specs.Numbers.{Bytes}
use Rattle.state.specs.declared.Core.{Core}
use Rattle.state.specs.declared.Sample.{Sample}

-- "26 registers, G (0-7), LC, RR (0-2047), TR, M (16 bits), TSR (0-7), .. I4-I6, and a waiting modification (a mark and 16 bits, zero when unmarked)";
-- 02, L1: "the last executed word's four bits"
pub record InRange (xs : List ℕ) (k : Core) : Type 0 where
  pub size : length xs ≡ 26
  pub bytes : Bytes xs
  pub g : k.latches.g < 8
  pub lc : k.address.lc < 2048
  pub rr : k.address.rr < 2048
  pub tr : k.latches.tr < 65536
  pub m : k.bus.m < 65536
  pub tsr : k.address.tsr < 8
  pub interrupts : k.latches.interrupts < 8
  pub modification : k.latches.modification < 65536
  pub unmarked : k.latches.marked ≡ false → k.latches.modification ≡ 0
  pub outputs : k.outputs < 16

-- "DAL data (16 bits), .. I0-I3"
pub record SampleInRange (s : Sample) : Type 0 where
  pub dal : s.dal < 65536
  pub interrupts : s.interrupts < 16
