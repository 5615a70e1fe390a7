-- "`ODD` the odd code of a pair, `RR` bit 16, `RNI` bit 17, `U` with exactly one hexadecimal digit": the pieces of each kind, counted.
use Rattle.std.specs.Prelude.{ℕ, ◌+◌, List, [], ◌∷◌, eqb, ltb}
use Rattle.choose.specs.Ranged.{bit, pick}
use Rattle.names.specs.Mnemonics.{letters_from}
use Rattle.pieces.specs.Read.{name_of}
use Rattle.line.specs.Marks.{user_in}

-- the kind of a name: 0 ODD, 1 RR, 2 RNI, 3 U with a digit, 4 no mark
unfoldable pub kind_of : ℕ → ℕ
kind_of name =
    pick (eqb name (letters_from 0 4 "ODD")) 0
    (pick (eqb name (letters_from 0 4 "RR")) 1 (pick (eqb name (letters_from 0 4 "RNI")) 2 (pick (ltb (user_in name) 0x10) 3 4)))

-- how many pieces are of a kind
unfoldable pub count_of : ℕ → List (List ℕ) → ℕ
count_of k [] = 0
count_of k (p ∷ ps) = bit (eqb (kind_of (name_of p)) k) + count_of k ps

-- the digit of the first U; 0x10 where there is none
unfoldable pub user_of : List (List ℕ) → ℕ
user_of [] = 0x10
user_of (p ∷ ps) = pick (eqb (kind_of (name_of p)) 3) (user_in (name_of p)) (user_of ps)
