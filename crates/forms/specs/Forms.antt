-- The operands of each instruction as they are typed: "in the order of the manual's summary, which is that of the word's bits".
-- The kinds come from `code`'s classes.
use Rattle.std.specs.Prelude.{ℕ, ◌+◌, ◌*◌, ◌/◌, ◌%◌, false, List, [], ◌∷◌, eqb}
use Rattle.choose.specs.Ranged.{bit, pick, ranged}
use Rattle.code.specs.CodeRows.{class_of}
use Rattle.code.specs.declared.Class.{Class}
use Rattle.forms.specs.declared.Form.{Form}

-- the bits that the manual's summary marks x, by ranges of the top byte
abbrev pub spares : List (ℕ × ℕ)
spares =
    (0x08, 0) ∷
    (0x10, 0x7FF) ∷  -- RFS
    (0x70, 0) ∷
    (0x72, 0x0F) ∷  -- RI, SI: a
    (0x73, 0xF0) ∷  -- CCF: b
    (0x74, 0) ∷
    (0x75, 0xFF) ∷  -- RTSR
    (0x78, 0xF0) ∷  -- LGL, CIB, CDB: b
    (0xE6, 0) ∷
    (0xE8, 0xF0) ∷  -- ISW: b
    (0xFF, 0) ∷
    []

unfoldable pub spare_of : ℕ → ℕ
spare_of top = ranged top spares 0xFF  -- NOP

-- "a register instruction b, then a. A field that the summary marks x is no operand, and may follow as one trailing don't-care operand"
abbrev pub register_form : ℕ → Form
register_form x =
    pick (eqb x 0xFF)
    (record { first = 2; second = 0; needed = 0; a_first = false })
    (record { first = 1; second = 1; needed = 1 + bit (eqb x 0); a_first = eqb x 0xF0 })

-- "a jump its address; a literal instruction the literal, then a"
abbrev pub form_in : Class → ℕ → Form
form_in Class.Unlisted x = record { first = 0; second = 0; needed = 0; a_first = false }
form_in Class.Jump x = record { first = 3; second = 0; needed = bit (eqb x 0); a_first = false }
form_in Class.Conditional x = record { first = 2; second = 0; needed = 1; a_first = false }
form_in Class.Literal x = record { first = 2; second = 1; needed = 2; a_first = false }
form_in Class.Register x = register_form x

unfoldable pub form_of : ℕ → Form
form_of top = form_in (class_of top) (spare_of top)

-- "Range is the width of the field and nothing else: 7FF, FF, F"; an operand that an instruction doesn't have is 0
unfoldable pub limit_of : ℕ → ℕ
limit_of digits = ranged digits ((1, 1) ∷ (2, 0x10) ∷ (3, 0x100) ∷ []) 0x800

-- the typed operands as the word's low bits: a stands in bits 3-0, what else there is above it
unfoldable pub joined_of : Form → ℕ → ℕ → ℕ
joined_of form x y = pick (eqb form.second 0) x (pick form.a_first (y * 0x10 + x) (x * 0x10 + y))

-- and the low bits as typed operands
unfoldable pub first_of : Form → ℕ → ℕ
first_of form low = pick (eqb form.second 0) low (pick form.a_first (low % 0x10) (low / 0x10))

unfoldable pub second_of : Form → ℕ → ℕ
second_of form low = pick (eqb form.second 0) 0 (pick form.a_first (low / 0x10) (low % 0x10))
