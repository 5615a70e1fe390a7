-- The fixed spelling of a text, from the text's own lines: its pieces are respelled, and no word is made. "a line for every address from 0 on, gaps as NOP;
-- address 3 digits, mnemonic, operands with the digits of their width, the don't-care operand only when it isn't zero, then ODD, RR, RNI, U with its
-- digit, each only when set; single spaces; upper case; a newline after every line".
use Rattle.std.specs.Prelude.{ℕ, zero, suc, ◌+◌, ◌-◌, not, ◌&&◌, ◌||◌, List, [], ◌∷◌, ◌++◌, map, reverse, eqb, ltb, drop}
use Rattle.choose.specs.Ranged.{pick}
use Rattle.forms.specs.Forms.{form_of}
use Rattle.forms.specs.Named.{top_named}
use Rattle.forms.specs.declared.Form.{Form}
use Rattle.line.specs.Kinds.{kind_of, user_of}
use Rattle.line.specs.Line.{Tail, tail_of}
use Rattle.names.specs.Mnemonics.{letters_from}
use Rattle.pieces.specs.Parts.{lines_of, pieces_of, piece_of}
use Rattle.pieces.specs.Read.{upper_of, name_of, value_of}
use Rattle.spelling.specs.Spelling.{digits_of, letters_of}

-- the first k bytes of a list in upper case, and zeros after its end
abbrev pub first_digits : ℕ → List ℕ → List ℕ
first_digits zero p = []
first_digits (suc k) [] = 0x30 ∷ first_digits k []
first_digits (suc k) (c ∷ p) = upper_of c ∷ first_digits k p

-- the last k digits of a piece, with zeros in front where it has fewer: what is in range has only zeros before them
unfoldable pub last_digits : ℕ → List ℕ → List ℕ
last_digits k p = reverse (first_digits k (reverse p))

-- piece i after the mnemonic as an operand of k digits: one that isn't there, and a don't-care operand that is zero, are left out
abbrev pub operand_fixed : Form → Tail → ℕ → ℕ → List ℕ → List ℕ
operand_fixed form t i k p =
    pick (ltb i t.count && (ltb i form.needed || not (eqb (value_of p) 0))) (0x20 ∷ last_digits k p) []

unfoldable pub operands_fixed : Form → List (List ℕ) → List ℕ
operands_fixed form ps =
    operand_fixed form (tail_of ps) 0 form.first (piece_of ps 0) ++ operand_fixed form (tail_of ps) 1 form.second (piece_of ps 1)

-- the piece of a kind of mark, in upper case; nothing where there is none
unfoldable pub mark_fixed : ℕ → List (List ℕ) → List ℕ
mark_fixed k [] = []
mark_fixed k (p ∷ ps) = pick (eqb (kind_of (name_of p)) k) (0x20 ∷ map upper_of p) (mark_fixed k ps)

-- ODD, RR, RNI and U, from the pieces after the operands; U0 is dropped
unfoldable pub marks_fixed : List (List ℕ) → List ℕ
marks_fixed ps = mark_fixed 0 ps ++ mark_fixed 1 ps ++ mark_fixed 2 ps ++ pick (eqb (user_of ps) 0) [] (mark_fixed 3 ps)

unfoldable pub line_fixed : List (List ℕ) → List ℕ
line_fixed ps =
    last_digits 3 (piece_of ps 0) ++ (0x20 ∷ []) ++ map upper_of (piece_of ps 1) ++
    operands_fixed (form_of (top_named (name_of (piece_of ps 1)))) (drop 2 ps) ++ marks_fixed (drop (tail_of (drop 2 ps)).count (drop 2 ps)) ++ (0x0A ∷ [])

-- NOP at n addresses from i on
unfoldable pub gap_fixed : ℕ → ℕ → List ℕ
gap_fixed i zero = []
gap_fixed i (suc n) = (digits_of 3 i ++ (0x20 ∷ []) ++ letters_of (letters_from 0 4 "NOP") ++ (0x0A ∷ [])) ++ gap_fixed (suc i) n

-- the address that a line gives
abbrev pub address_of : List ℕ → ℕ
address_of l = value_of (piece_of (pieces_of l) 0)

-- lines that begin at the address `next` or later
unfoldable pub fixed_from : ℕ → List (List ℕ) → List ℕ
fixed_from next [] = []
fixed_from next (l ∷ ls) = gap_fixed next (address_of l - next) ++ line_fixed (pieces_of l) ++ fixed_from (address_of l + 1) ls

unfoldable pub fixed_of : List ℕ → List ℕ
fixed_of text = fixed_from 0 (lines_of text)
