-- The fixed spelling of a word: "address 3 digits, mnemonic, operands with the digits of their width, the don't-care operand only when it isn't zero,
-- then ODD, RR, RNI, U with its digit, each only when set; single spaces; upper case; a newline after every line".
use Rattle.std.specs.Prelude.{ℕ, ◌+◌, ◌*◌, ◌/◌, ◌%◌, Bool, not, ◌||◌, List, [], ◌∷◌, ◌++◌, Option, Some, None, eqb, ltb}
use Rattle.choose.specs.Ranged.{pick}
use Rattle.code.specs.Word.{low_of}
use Rattle.code.specs.declared.Fields.{Fields}
use Rattle.forms.specs.Forms.{form_of, first_of, second_of}
use Rattle.forms.specs.Named.{odd_of}
use Rattle.forms.specs.declared.Form.{Form}
use Rattle.names.specs.Mnemonics.{mnemonic_of, letters_from}

-- the last digit of a number, 0-9 A-F
unfoldable pub hex_digit : ℕ → ℕ
hex_digit n = pick (ltb (n % 0x10) 10) (0x30 + n % 0x10) (0x37 + n % 0x10)

abbrev pub digit_if : Bool → ℕ → List ℕ
digit_if given n = pick given (hex_digit n ∷ []) []

-- a digit that there is or isn't, as the code has it
abbrev pub digit_in : Option ℕ → List ℕ
digit_in None = []
digit_in (Some n) = hex_digit n ∷ []

-- the last k digits of a number, of three at most
unfoldable pub digits_of : ℕ → ℕ → List ℕ
digits_of k n = digit_if (ltb 2 k) (n / 0x100) ++ digit_if (ltb 1 k) (n / 0x10) ++ digit_if (ltb 0 k) n

-- the last letter of a name, unless it is one of the spaces that fill it up
abbrev pub letter_if : ℕ → List ℕ
letter_if c = pick (eqb (c % 0x100) 0x20) [] (c % 0x100 ∷ [])

unfoldable pub letters_of : ℕ → List ℕ
letters_of name = letter_if (name / 0x100_0000) ++ letter_if (name / 0x1_0000) ++ letter_if (name / 0x100) ++ letter_if name

abbrev pub operand_of : Bool → ℕ → ℕ → List ℕ
operand_of given k n = pick given (0x20 ∷ digits_of k n) []

abbrev pub operand_in : ℕ → Option ℕ → List ℕ
operand_in k None = []
operand_in k (Some n) = 0x20 ∷ digits_of k n

-- "with don't-care bits as a trailing operand when they aren't zero"
unfoldable pub operands_of : Form → ℕ → List ℕ
operands_of form low =
    operand_of (ltb 0 form.needed || not (eqb (first_of form low) 0)) form.first (first_of form low) ++
    operand_of (ltb 1 form.needed || not (eqb (second_of form low) 0)) form.second (second_of form low)

abbrev pub mark_of : Bool → ℕ → List ℕ
mark_of given name = pick given (0x20 ∷ letters_of name) []

abbrev pub mark_in : Option ℕ → List ℕ
mark_in None = []
mark_in (Some name) = 0x20 ∷ letters_of name

-- U, a digit and two spaces as one name
unfoldable pub user_name : ℕ → ℕ
user_name user = 0x5500_2020 + hex_digit user * 0x1_0000

unfoldable pub marks_of : Fields → List ℕ
marks_of f =
    mark_of (odd_of f.code) (letters_from 0 4 "ODD") ++ mark_of f.load_rr (letters_from 0 4 "RR") ++
    mark_of f.rni (letters_from 0 4 "RNI") ++ mark_of (not (eqb f.user 0)) (user_name f.user)

unfoldable pub spelled_of : ℕ → Fields → List ℕ
spelled_of address f =
    digits_of 3 address ++ (0x20 ∷ []) ++ letters_of (mnemonic_of f.code) ++ operands_of (form_of f.code) (low_of f.operands) ++
    marks_of f ++ (0x0A ∷ [])
