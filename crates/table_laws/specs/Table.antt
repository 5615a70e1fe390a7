-- What the columns `stores` and `flags` of the table say of the registers and the flags that an attempt leaves.
use Rattle.std.specs.Prelude.{ℕ, ◌+◌, ◌*◌, ◌/◌, ◌%◌, ◌≡◌, Bool, ◌&&◌, ◌||◌, List, [], ◌∷◌, eqb, length, get_or}
use Rattle.alu.specs.declared.Flags.{Flags}
use Rattle.attempt.specs.Outcome.{Outcome}
use Rattle.attempt_laws.specs.Fate.{within, odd, b_in, a_in}
use Rattle.choose.specs.Ranged.{bit}
use Rattle.code.specs.CodeRows.{row_of}
use Rattle.code.specs.Word.{top_of}
use Rattle.code.specs.declared.Stores.{Stores}
use Rattle.state.specs.File.{Leaves, leaves, slot_of, high_of}
use Rattle.state.specs.declared.Core.{Core}

-- ---- registers

-- the designators that `stores` names, of a word's own two: none; a; a and the designator of its high byte; a and b
unfoldable pub stored_by : Stores → ℕ → ℕ → List ℕ
stored_by Stores.Nothing b a = []
stored_by Stores.Ra b a = a ∷ []
stored_by Stores.RaPair b a = a ∷ high_of a ∷ []
stored_by Stores.RaAndRb b a = a ∷ b ∷ []

-- place i of the file is of none of the registers that these designators name, "by G before the attempt"
abbrev pub Elsewhere : ℕ → List ℕ → ℕ → Type 0
Elsewhere g [] i = Unit {0}
Elsewhere g (d ∷ ds) i = (i ≡ slot_of g d → ⊥) × Elsewhere g ds i

-- every place but theirs keeps its byte
pub record RegistersKept (g : ℕ) (ds before after : List ℕ) : Type 0 where
  pub size : length after ≡ length before
  pub byte : (i : ℕ) → Elsewhere g ds i → get_or after i 0 ≡ get_or before i 0

-- ---- flags

-- each flag whose bit of the mask is 0 is as before: N Z V C are bits 7-4, NB ZB C4 C8 bits 3-0
pub record FlagsKept (mask : ℕ) (before after : Flags) : Type 0 where
  pub n : mask / 0x80 % 2 ≡ 0 → after.n ≡ before.n
  pub z : mask / 0x40 % 2 ≡ 0 → after.z ≡ before.z
  pub v : mask / 0x20 % 2 ≡ 0 → after.v ≡ before.v
  pub c : mask / 0x10 % 2 ≡ 0 → after.c ≡ before.c
  pub nb : mask / 8 % 2 ≡ 0 → after.nb ≡ before.nb
  pub zb : mask / 4 % 2 ≡ 0 → after.zb ≡ before.zb
  pub c4 : mask / 2 % 2 ≡ 0 → after.c4 ≡ before.c4
  pub c8 : mask % 2 ≡ 0 → after.c8 ≡ before.c8

-- N Z V C are as before
pub record ConditionsKept (before after : Flags) : Type 0 where
  pub n : after.n ≡ before.n
  pub z : after.z ≡ before.z
  pub v : after.v ≡ before.v
  pub c : after.c ≡ before.c

-- ---- both

-- what is not marked is kept: every register that is not named, and every flag outside the mask
pub record RestKept (g : ℕ) (stored : List ℕ) (mask : ℕ) (before after : Leaves Flags) : Type 0 where
  pub registers : RegistersKept g stored before.file after.file
  pub flags : FlagsKept mask before.back after.back

-- what the row of a word's top byte says of an attempt; an unlisted one's row has no store and no flag
abbrev pub RowHolds : ℕ → List ℕ → Core → Leaves Outcome → Type 0
RowHolds word xs k e =
    RestKept k.latches.g (stored_by (row_of (top_of word)).stores (b_in word) (a_in word)) (row_of (top_of word)).flags (leaves xs k.flags)
    (leaves e.file e.back.core.flags)

-- ---- 01's own lists of codes, which use none of the table

-- "Compare and test write no register": CL, TL; CB, CW; TB, TW
unfoldable pub compares_or_tests : ℕ → Bool
compares_or_tests code = within 0x30 0x3F code || within 0x50 0x5F code || within 0xB4 0xB7 code || within 0xC4 0xC7 code

-- "condition flags (N Z V C) only by LCF and odd codes 81-DF and E1-E7": LCF is 73
unfoldable pub sets_conditions : ℕ → Bool
sets_conditions code = eqb code 0x73 || (odd code && (within 0x81 0xDF code || within 0xE1 0xE7 code))

-- "Status (NB ZB C4 C8) is always set as 5.3.2 marks it": all four of AL, CIB and CDB, shifts left to decrements, shifts right, F0-F7; NB and ZB of
-- CL, NL, TL and
-- LL, moves, logic and inputs; else none
abbrev pub sets_carries : ℕ → Bool
sets_carries code = within 0x20 0x2F code || within 0x76 0x77 code || within 0x88 0xBF code || within 0xD8 0xDF code || within 0xF0 0xF7 code

abbrev pub sets_status : ℕ → Bool
sets_status code =
    sets_carries code || within 0x30 0x6F code || within 0x80 0x87 code || within 0xC0 0xD3 code ||
    within 0xE0 0xE7 code

-- the marks of a code as a flag byte. An odd code writes N, Z and V, and C where it writes C8; LCF writes all four
unfoldable pub marks_in : ℕ → ℕ
marks_in code =
    0x10 * bit (sets_conditions code && (sets_carries code || eqb code 0x73)) + 0xE0 * bit (sets_conditions code) +
    0x0C * bit (sets_status code) +
    0x03 * bit (sets_carries code)
