-- A piece read as a name and as a number.
use Rattle.std.specs.Prelude.{ℕ, ◌+◌, ◌*◌, ◌-◌, Bool, true, ◌&&◌, List, [], ◌∷◌, ltb, length, get_or}
use Rattle.choose.specs.Ranged.{pick, ranged}

-- "in upper or lower case, letter by letter (ASCII)": a-z become A-Z
unfoldable pub upper_of : ℕ → ℕ
upper_of c = ranged c ((0x61, c) ∷ (0x7B, c - 0x20) ∷ []) c

-- letter i of a name, a space where the piece has ended
abbrev pub letter_of : List ℕ → ℕ → ℕ
letter_of p i = upper_of (get_or p i 0x20)

-- a piece as a name: four letters in one number, as `mnemonic_of` has them. No name is longer: 0 is none
unfoldable pub name_of : List ℕ → ℕ
name_of p =
    pick (ltb 4 (length p)) 0 (letter_of p 0 * 0x100_0000 + letter_of p 1 * 0x1_0000 + letter_of p 2 * 0x100 + letter_of p 3)

-- "digits 0-9 A-F a-f"; 0x10 for any other byte
unfoldable pub digit_of : ℕ → ℕ
digit_of c =
    ranged c
    ((0x30, 0x10) ∷
    (0x3A, c - 0x30) ∷  -- 0-9
    (0x41, 0x10) ∷
    (0x47, c - 0x37) ∷  -- A-F
    (0x61, 0x10) ∷
    (0x67, c - 0x57) ∷  -- a-f
    [])
    0x10

-- all bytes are digits
abbrev pub digits : List ℕ → Bool
digits [] = true
digits (c ∷ p) = ltb (digit_of c) 0x10 && digits p

-- the digits of n, and these after them, as one number: "leading zeros count nothing"
abbrev pub value_from : ℕ → List ℕ → ℕ
value_from n [] = n
value_from n (c ∷ p) = value_from (n * 0x10 + digit_of c) p

-- "Numbers: one or more digits". No field is wider than 11 bits: 0x800 stands for a number over them, and for none at all
unfoldable pub value_of : List ℕ → ℕ
value_of p = pick (ltb 0 (length p) && digits p && ltb (value_from 0 p) 0x800) (value_from 0 p) 0x800

-- whether a piece is a number, and one that some field holds
abbrev pub is_number : List ℕ → Bool
is_number p = ltb (value_of p) 0x800
