-- "A failed condition (C, or ICS for CAWI, being 0) changes registers and flags not at all; cycles stay": what it costs, and what a code with a
-- condition does where that is met. Codes are by number, as 01 and the manual have them: they use none of the engine's tables.
use Rattle.std.specs.Prelude.{ℕ, ◌≡◌}
use Rattle.alu.specs.declared.Flags.{Flags}
use Rattle.attempt.specs.Outcome.{Outcome}
use Rattle.attempt_laws.specs.Fate.{b_in, a_in}
use Rattle.code.specs.Word.{top_of}
use Rattle.state.specs.File.{Leaves}

-- a code with a condition beside the code that does the same without one, each even and odd
pub data Conditional : ℕ → ℕ → Type 0 where
  -- CMB and MB
  cmb : Conditional 0x84 0x80
  cmb-odd : Conditional 0x85 0x81
  -- CMW and MW
  cmw : Conditional 0x86 0x82
  cmw-odd : Conditional 0x87 0x83
  -- CAB and AB
  cab : Conditional 0xA4 0xA0
  cab-odd : Conditional 0xA5 0xA1
  -- CAW and AW
  caw : Conditional 0xA6 0xA2
  caw-odd : Conditional 0xA7 0xA3
  -- CAWI and AW
  cawi : Conditional 0xAE 0xA2
  cawi-odd : Conditional 0xAF 0xA3

-- the other word has that code, and the same designators
pub record Unconditional (word other : ℕ) : Type 0 where
  pub code : Conditional (top_of word) (top_of other)
  pub b : b_in other ≡ b_in word
  pub a : a_in other ≡ a_in word

-- what an attempt leaves in the registers and the flags, and what it costs
pub record LeavesAs (e : Leaves Outcome) (m : Leaves Flags) (cost : ℕ) : Type 0 where
  pub file : e.file ≡ m.file
  pub flags : e.back.core.flags ≡ m.back
  pub cycles : e.back.cycles ≡ cost
