-- The row of each top byte, by ranges: manual 5.2 and 5.3.2 as 01 corrects them (B6/B7 are CW, BC-BF DB1 and DW1).
use Rattle.std.specs.Prelude.{ℕ, ◌+◌, ◌*◌, ◌/◌, ◌%◌, Bool, true, false, ◌||◌, List, [], ◌∷◌, eqb}
use Rattle.choose.specs.Ranged.{pick, ranged}
use Rattle.code.specs.declared.Class.{Class}
use Rattle.code.specs.declared.CodeRow.{CodeRow}
use Rattle.code.specs.declared.Stores.{Stores}
use Rattle.code.specs.declared.Waits.{Waits}

-- manual 5.2's four formats; 01: "unlisted are 78-7F, AD, D4-D7 and E8-EB, 17 in all". Each range is named by its end
abbrev pub classes : List (ℕ × Class)
classes =
    (0x10, Class.Jump) ∷
    (0x20, Class.Conditional) ∷
    (0x70, Class.Literal) ∷
    (0x78, Class.Register) ∷
    (0x80, Class.Unlisted) ∷
    (0xAD, Class.Register) ∷
    (0xAE, Class.Unlisted) ∷
    (0xD4, Class.Register) ∷
    (0xD8, Class.Unlisted) ∷
    (0xE8, Class.Register) ∷
    (0xEC, Class.Unlisted) ∷
    (0x100, Class.Register) ∷
    []

unfoldable pub class_of : ℕ → Class
class_of top = ranged top classes Class.Unlisted

abbrev pub listed : Class → Bool
listed Class.Unlisted = false
listed Class.Jump = true
listed Class.Conditional = true
listed Class.Literal = true
listed Class.Register = true

-- the same as a list, and a number that is one of a list
abbrev pub unlisted : List ℕ
unlisted = 0x78 ∷ 0x79 ∷ 0x7A ∷ 0x7B ∷ 0x7C ∷ 0x7D ∷ 0x7E ∷ 0x7F ∷ 0xAD ∷ 0xD4 ∷ 0xD5 ∷ 0xD6 ∷ 0xD7 ∷ 0xE8 ∷ 0xE9 ∷ 0xEA ∷ 0xEB ∷ []

abbrev pub among : ℕ → List ℕ → Bool
among x [] = false
among x (y ∷ ys) = eqb x y || among x ys

-- 1 for the word codes among the register codes 80-F7: bit 1 of the top byte
abbrev pub word_bit : ℕ → ℕ
word_bit top = top / 2 % 2

-- 5.2: jumps take two cycles, literals one; "If the designators apply to a word data quantum, the instruction takes two cycles"
unfoldable pub cycles_of : ℕ → ℕ
cycles_of top =
    ranged top
    ((0x20, 2) ∷  -- jumps
    (0x80, 1) ∷  -- literals, 70-77
    (0xF8, 1 + word_bit top) ∷
    [])
    1

-- "R, W, RA, WA and the F0-F7 codes wait if REPLY or BUSY is high"; "IB, IW, OB, OW wait if REPLY is low"
unfoldable pub waits_of : ℕ → Waits
waits_of top =
    ranged top
    ((0xE0, Waits.Never) ∷
    (0xE4, Waits.ReplyLow) ∷  -- IB, IW
    (0xF0, Waits.Never) ∷
    (0xFC, Waits.ReplyOrBusyHigh) ∷
    (0xFE, Waits.ReplyLow) ∷  -- OB, OW
    [])
    Waits.Never

-- the highest b that is listed: "IB and IW take b 0-7, ISB 0-3"
unfoldable pub options_of : ℕ → ℕ
options_of top = ranged top ((0xE0, 15) ∷ (0xE4, 7) ∷ (0xE6, 3) ∷ []) 15

-- NB ZB C4 C8, bits 3-0, as 5.3.2 marks them: all four, NB and ZB, or none
unfoldable pub status_flags_of : ℕ → ℕ
status_flags_of top =
    ranged top
    ((0x20, 0) ∷
    (0x30, 0x0F) ∷  -- AL
    (0x70, 0x0C) ∷  -- CL, NL, TL, LL
    (0x76, 0) ∷
    (0x78, 0x0F) ∷  -- CIB, CDB
    (0x80, 0) ∷
    (0x88, 0x0C) ∷  -- moves
    (0xC0, 0x0F) ∷  -- shifts left to decrements
    (0xD4, 0x0C) ∷  -- logic
    (0xD8, 0) ∷
    (0xE0, 0x0F) ∷  -- shifts right
    (0xE8, 0x0C) ∷  -- inputs
    (0xF0, 0) ∷
    (0xF8, 0x0F) ∷  -- reads and writes that increment
    [])
    0

-- N Z V C, bits 7-4, "only by LCF and odd codes 81-DF and E1-E7": such a code writes N Z V, and C where it writes C8
unfoldable pub condition_flags_of : ℕ → ℕ
condition_flags_of top =
    ranged top
    ((0x73, 0) ∷
    (0x74, 0xF0) ∷  -- LCF
    (0x80, 0) ∷
    (0xE8, top % 2 * (0xE0 + 0x10 * (status_flags_of top % 2))) ∷
    [])
    0

-- Ra, or what a word code writes in its place
abbrev pub ra_or : Stores → ℕ → Stores
ra_or word top = pick (eqb (word_bit top) 0) Stores.Ra word

-- the registers that are written. "Compare and test write no register", nor do jumps, lines, interrupts and loads of G, TR, TSR or flags; a pair is
-- that of Ra and its high byte; "F0-F7: Ra gains 1 or 2; the word codes then add the carry to Rb"
unfoldable pub stores_of : ℕ → Stores
stores_of top =
    ranged top
    ((0x20, Stores.Nothing) ∷
    (0x30, Stores.Ra) ∷  -- AL
    (0x40, Stores.Nothing) ∷
    (0x50, Stores.Ra) ∷  -- NL
    (0x60, Stores.Nothing) ∷
    (0x70, Stores.Ra) ∷  -- LL
    (0x72, Stores.Nothing) ∷
    (0x73, Stores.Ra) ∷  -- CCF
    (0x76, Stores.Nothing) ∷
    (0x80, Stores.Ra) ∷  -- CIB, CDB
    (0xB4, ra_or Stores.RaPair top) ∷  -- moves to subtracts
    (0xB8, Stores.Nothing) ∷  -- CB, CW
    (0xC4, ra_or Stores.RaPair top) ∷
    (0xC8, Stores.Nothing) ∷  -- TB, TW
    (0xE8, ra_or Stores.RaPair top) ∷
    (0xF0, Stores.Nothing) ∷
    (0xF8, ra_or Stores.RaAndRb top) ∷  -- reads and writes that increment
    [])
    Stores.Nothing

-- the row of an unlisted top byte
abbrev pub blank : CodeRow
blank = record { class = Class.Unlisted; cycles = 0; waits = Waits.Never; options = 0; flags = 0; stores = Stores.Nothing }

unfoldable pub row_of : ℕ → CodeRow
row_of top =
    pick (listed (class_of top))
    (record {
      class = class_of top;
      cycles = cycles_of top;
      waits = waits_of top;
      options = options_of top;
      flags = condition_flags_of top + status_flags_of top;
      stores = stores_of top;
    })
    blank

-- the number of a class
abbrev pub class_number : Class → ℕ
class_number Class.Unlisted = 0
class_number Class.Jump = 1
class_number Class.Conditional = 2
class_number Class.Literal = 3
class_number Class.Register = 4

-- the number of a way to wait
abbrev pub waits_number : Waits → ℕ
waits_number Waits.Never = 0
waits_number Waits.ReplyOrBusyHigh = 1
waits_number Waits.ReplyLow = 2

-- the number of the registers that are written
abbrev pub stores_number : Stores → ℕ
stores_number Stores.Nothing = 0
stores_number Stores.Ra = 1
stores_number Stores.RaPair = 2
stores_number Stores.RaAndRb = 3
