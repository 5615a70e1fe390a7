-- The paper's own lists of what the other definitions get from ranges of the top byte and from the mnemonics; the laws say that both agree.
use Rattle.std.specs.Prelude.{ℕ, Bool, false, ◌&&◌, ◌||◌, List, [], ◌∷◌, eqb, leb}
use Prim.Native.String.{String}
use Rattle.choose.specs.Ranged.{pick}
use Rattle.names.specs.Mnemonics.{letters_from}

-- "RFS [bits 10-0], RI b [a], SI b [a], CCF a [b], LGL a [b], CIB a [b], CDB a [b], ISW a [b], RTSR [bits 7-0], NOP [bits 7-0]"
abbrev pub dont_cares : List (String × ℕ)
dont_cares =
    ("RFS", 0x7FF) ∷ ("RI", 0x0F) ∷ ("SI", 0x0F) ∷ ("CCF", 0xF0) ∷ ("LGL", 0xF0) ∷ ("CIB", 0xF0) ∷ ("CDB", 0xF0) ∷ ("ISW", 0xF0) ∷
    ("RTSR", 0xFF) ∷ ("NOP", 0xFF) ∷ []

-- what a list says of a mnemonic; 0 where it isn't in it
abbrev pub said_of : List (String × ℕ) → ℕ → ℕ
said_of [] name = 0
said_of (x ∷ xs) name = pick (eqb name (letters_from 0 4 x.0)) x.1 (said_of xs name)

-- "ODD goes with the codes that have an odd twin of the same mnemonic: 80-AB, AE/AF, B0-D3, D8-E7, EC-EF"
abbrev pub pairs : List (ℕ × ℕ)
pairs = (0x80, 0xAB) ∷ (0xAE, 0xAF) ∷ (0xB0, 0xD3) ∷ (0xD8, 0xE7) ∷ (0xEC, 0xEF) ∷ []

-- whether a number is in one of some ranges, given by their first and last
abbrev pub within : List (ℕ × ℕ) → ℕ → Bool
within [] n = false
within (r ∷ rs) n = leb r.0 n && leb n r.1 || within rs n
