-- "State: .. G0-GB, R2-RF, G, flags, LC, RR, TR, M, TSR, marks (bit 0 ICS, 1 SYNC, 2 IACK, 3 modification), I4-I6 in bits 0-2, modification", and
-- by 02, L1, the user's outputs "as a 42nd byte". The registers are bytes 0 to 25; then G at 26, flags 27, LC 28, RR 30, TR 32, M 34, TSR 36, marks 37,
-- I4-I6 38, modification 39, outputs 41. A byte that is missing reads as 0.
use Rattle.std.specs.Prelude.{◌≡◌, List, [], ◌∷◌, ◌++◌, ℕ, ◌/◌, ◌%◌, eqb, length, take, replicate}
use Rattle.choose.specs.Ranged.{pick}
use Rattle.numbers.specs.Numbers.{byte_at, pair_at}
use Rattle.state.specs.FlagByte.{nibble_of, flag_byte_of, flags_of}
use Rattle.state.specs.declared.Address.{Address}
use Rattle.state.specs.declared.Bus.{Bus}
use Rattle.state.specs.declared.Latches.{Latches}
use Rattle.state.specs.declared.Core.{Core}
use Rattle.state.specs.declared.Marking.{Marking}

-- how many bytes a state has, in a deck and in the host's buffer
abbrev pub state_bytes : ℕ
state_bytes = 42

-- ---- from the bytes
unfoldable pub address_of : List ℕ → Address
address_of s = record { lc = pair_at s 28; rr = pair_at s 30; tsr = byte_at s 36 }

unfoldable pub bus_of : List ℕ → Bus
bus_of s =
    record {
      m = pair_at s 34;
      sync = eqb (byte_at s 37 / 2 % 2) 1;
      iack = eqb (byte_at s 37 / 4 % 2) 1;
    }

unfoldable pub latches_of : List ℕ → Latches
latches_of s =
    record {
      g = byte_at s 26;
      tr = pair_at s 32;
      ics = eqb (byte_at s 37 % 2) 1;
      interrupts = byte_at s 38;
      marked = eqb (byte_at s 37 / 8 % 2) 1;
      modification = pair_at s 39;
    }

-- in a set of this marking: the bytes do not say it
unfoldable pub core_of : List ℕ → Marking → Core
core_of s marking =
    record {
      flags = flags_of (byte_at s 27);
      address = address_of s;
      bus = bus_of s;
      latches = latches_of s;
      outputs = byte_at s 41;
      marking = marking;
    }

-- the bytes s, and n zeros for what is missing
abbrev pub padded : List ℕ → ℕ → List ℕ
padded s n = s ++ replicate n 0

-- "G0-GB, R2-RF": the first 26 bytes
unfoldable pub file_of : List ℕ → List ℕ
file_of s = take 26 (padded s 26)

-- what `load` makes of the bytes s: a core, and the register file
pub record Loaded (s : List ℕ) (marking : Marking) (k : Core) (xs : List ℕ) : Type 0 where
  pub core : k ≡ core_of s marking
  pub file : xs ≡ file_of s

-- ---- to the bytes
-- what comes after the registers
unfoldable pub tail_of : Core → List ℕ
tail_of k =
    k.latches.g
    ∷ flag_byte_of k.flags
    ∷ k.address.lc % 256
    ∷ k.address.lc / 256
    ∷ k.address.rr % 256
    ∷ k.address.rr / 256
    ∷ k.latches.tr % 256
    ∷ k.latches.tr / 256
    ∷ k.bus.m % 256
    ∷ k.bus.m / 256
    ∷ k.address.tsr
    ∷ nibble_of k.latches.marked k.bus.iack k.bus.sync k.latches.ics
    ∷ k.latches.interrupts
    ∷ k.latches.modification % 256
    ∷ k.latches.modification / 256
    ∷ k.outputs
    ∷ []

abbrev pub bytes_of : List ℕ → Core → List ℕ
bytes_of file k = file ++ tail_of k

-- "a state buffer .. The state returned is written there"; one of another length than a state's is left as found
unfoldable pub stored_of : List ℕ → Core → List ℕ → List ℕ
stored_of file k out = pick (eqb (length out) state_bytes) (bytes_of file k) out
