-- Inputs with SYNC and IACK high, as one table: the marking, the word, TR before it, the data that it takes, and whether SYNC and IACK are kept.
use Rattle.std.specs.Prelude.{ℕ, ◌/◌, ◌%◌, Bool, true, false, ◌&&◌, List, [], ◌∷◌, eqb, replicate}
use Rattle.std.specs.Bool.{beq}
use Rattle.attempt.specs.Attempt.{attempt_of}
use Rattle.attempt.specs.Outcome.{Outcome}
use Rattle.state.specs.File.{Leaves}
use Rattle.state.specs.declared.Core.{Core}
use Rattle.state.specs.declared.Marking.{Marking}
use Rattle.state.specs.declared.Sample.{Sample}

pub data Case : Type 0 where
  case : (marking : Marking) (word tr dal : ℕ) (kept : Bool) → Case

-- all zero but TR, SYNC and IACK
abbrev pub holding : Marking → ℕ → Core
holding marking tr =
    record {
      flags = record { n = false; z = false; v = false; c = false; nb = false; zb = false; c4 = false; c8 = false };
      address = record { lc = 0; rr = 0; tsr = 0 };
      bus = record { m = 0; sync = true; iack = true };
      latches = record { g = 0; tr = tr; ics = false; interrupts = 0; marked = false; modification = 0 };
      outputs = 0;
      marking = marking;
    }

-- REPLY and COMPUTE
abbrev pub replying : ℕ → Sample
replying dal = record { dal = dal; reply = true; busy = false; compute = true; reset = false; ics = false; interrupts = 0 }

-- it completes, and both lines are as said
abbrev pub leaves_lines : Leaves Outcome → Bool → Bool
leaves_lines e kept =
    eqb e.back.refusal 0 && eqb (e.back.request / 65536) 5 && beq e.back.core.bus.sync kept && beq e.back.core.bus.iack kept

unfoldable pub all_hold : List Case → Bool
all_hold [] = true
all_hold (case marking word tr dal kept ∷ cs) =
    leaves_lines (attempt_of (word % 256 ∷ word / 256 ∷ 0 ∷ 0 ∷ []) [] (replicate 26 0) (holding marking tr) (replying dal)) kept && all_hold cs

-- the two chips
abbrev pub base : ℕ → ℕ → ℕ → Bool → Case
base = case Marking.CP1661B

abbrev pub older : ℕ → ℕ → ℕ → Bool → Case
older = case Marking.CP1621B

-- E0x2 is IB and E2x2 IW with b x. "not TR14 and TR13": 2000, and not 6000 or 4000. "not TR14, not TR12, TR11, not TR10, TR9, TR8, TR7 and TR6 together":
-- 0BC0, and not with one of its bits otherwise. TR is "read .. before the instruction", where IW loads it
unfoldable pub inputs : List Case
inputs =
    base 0xE042 0x2000 0 true ∷ base 0xE042 0x0BC0 0 true ∷ base 0xE032 0x0000 0 false ∷ base 0xE252 0x2000 0x2000 true ∷
    older 0xE042 0x0000 0 true ∷ older 0xE042 0x2000 0 false ∷ older 0xE072 0x2000 0 false ∷ older 0xE042 0xBFFF 0 false ∷
    older 0xE042 0x4000 0 true ∷ older 0xE042 0x6000 0 true ∷ older 0xE032 0x0000 0 false ∷
    older 0xE042 0x0BC0 0 false ∷ older 0xE042 0x8BFF 0 false ∷ older 0xE042 0x4BC0 0 true ∷ older 0xE042 0x1BC0 0 true ∷
    older 0xE042 0x03C0 0 true ∷ older 0xE042 0x0FC0 0 true ∷ older 0xE042 0x09C0 0 true ∷ older 0xE042 0x0AC0 0 true ∷
    older 0xE042 0x0B40 0 true ∷ older 0xE042 0x0B80 0 true ∷
    older 0xE252 0x2000 0x0000 false ∷ older 0xE252 0x0000 0x2000 true ∷ older 0xE242 0x2000 0x0000 false ∷
    []
