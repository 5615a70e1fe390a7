-- The mnemonic of each top byte: manual 5.3.2's summary, "with B6/B7 read as CW, BC-BF as DB1 and DW1".
use Rattle.std.specs.Prelude.{ℕ, zero, suc, ◌+◌, ◌*◌, Bool, not, List, [], ◌∷◌, eqb}
use Prim.Native.Char.{code}
use Prim.Native.String.{String, [] as ended, ◌∷◌ as ◌then◌}
use Rattle.choose.specs.Ranged.{ranged}
use Rattle.choose.specs.Below.{firsts}

-- each range is named by its end; the even and the odd code of a pair have one mnemonic, an unlisted code has none
abbrev pub mnemonics : List (ℕ × String)
mnemonics =
    (0x08, "JMP") ∷
    (0x10, "RFS") ∷
    (0x11, "JZBF") ∷
    (0x12, "JZBT") ∷
    (0x13, "JC8F") ∷
    (0x14, "JC8T") ∷
    (0x15, "JIF") ∷
    (0x16, "JIT") ∷
    (0x17, "JNBF") ∷
    (0x18, "JNBT") ∷
    (0x19, "JZF") ∷
    (0x1A, "JZT") ∷
    (0x1B, "JCF") ∷
    (0x1C, "JCT") ∷
    (0x1D, "JVF") ∷
    (0x1E, "JVT") ∷
    (0x1F, "JNF") ∷
    (0x20, "JNT") ∷
    (0x30, "AL") ∷
    (0x40, "CL") ∷
    (0x50, "NL") ∷
    (0x60, "TL") ∷
    (0x70, "LL") ∷
    (0x71, "RI") ∷
    (0x72, "SI") ∷
    (0x73, "CCF") ∷
    (0x74, "LCF") ∷
    (0x75, "RTSR") ∷
    (0x76, "LGL") ∷
    (0x77, "CIB") ∷
    (0x78, "CDB") ∷
    (0x80, "") ∷
    (0x82, "MB") ∷
    (0x84, "MW") ∷
    (0x86, "CMB") ∷
    (0x88, "CMW") ∷
    (0x8A, "SLBC") ∷
    (0x8C, "SLWC") ∷
    (0x8E, "SLB") ∷
    (0x90, "SLW") ∷
    (0x92, "ICB1") ∷
    (0x94, "ICW1") ∷
    (0x96, "ICB2") ∷
    (0x98, "ICW2") ∷
    (0x9A, "TCB") ∷
    (0x9C, "TCW") ∷
    (0x9E, "OCB") ∷
    (0xA0, "OCW") ∷
    (0xA2, "AB") ∷
    (0xA4, "AW") ∷
    (0xA6, "CAB") ∷
    (0xA8, "CAW") ∷
    (0xAA, "ABC") ∷
    (0xAC, "AWC") ∷
    (0xAD, "CAD") ∷
    (0xAE, "") ∷
    (0xB0, "CAWI") ∷
    (0xB2, "SB") ∷
    (0xB4, "SW") ∷
    (0xB6, "CB") ∷
    (0xB8, "CW") ∷
    (0xBA, "SBC") ∷
    (0xBC, "SWC") ∷
    (0xBE, "DB1") ∷
    (0xC0, "DW1") ∷
    (0xC2, "NB") ∷
    (0xC4, "NW") ∷
    (0xC6, "TB") ∷
    (0xC8, "TW") ∷
    (0xCA, "ORB") ∷
    (0xCC, "ORW") ∷
    (0xCE, "XB") ∷
    (0xD0, "XW") ∷
    (0xD2, "NCB") ∷
    (0xD4, "NCW") ∷
    (0xD8, "") ∷
    (0xDA, "SRBC") ∷
    (0xDC, "SRWC") ∷
    (0xDE, "SRB") ∷
    (0xE0, "SRW") ∷
    (0xE2, "IB") ∷
    (0xE4, "IW") ∷
    (0xE6, "ISB") ∷
    (0xE8, "ISW") ∷
    (0xEC, "") ∷
    (0xEE, "MI") ∷
    (0xF0, "LTR") ∷
    (0xF1, "RIB1") ∷
    (0xF2, "WIB1") ∷
    (0xF3, "RIW1") ∷
    (0xF4, "WIW1") ∷
    (0xF5, "RIB2") ∷
    (0xF6, "WIB2") ∷
    (0xF7, "RIW2") ∷
    (0xF8, "WIW2") ∷
    (0xF9, "R") ∷
    (0xFA, "W") ∷
    (0xFB, "RA") ∷
    (0xFC, "WA") ∷
    (0xFD, "OB") ∷
    (0xFE, "OW") ∷
    (0xFF, "OS") ∷
    (0x100, "NOP") ∷
    []

-- the first n letters of a text as digits of one number, and spaces where the text is shorter
abbrev pub letters_from : ℕ → ℕ → String → ℕ
letters_from m zero s = m
letters_from m (suc n) ended = letters_from (m * 0x100 + 0x20) n ended
letters_from m (suc n) (c then s) = letters_from (m * 0x100 + code c) n s

-- four letters: no mnemonic is longer
unfoldable pub mnemonic_of : ℕ → ℕ
mnemonic_of top = letters_from 0 4 (ranged top mnemonics "")

-- whether a top byte has a mnemonic
abbrev pub is_named : ℕ → Bool
is_named top = not (eqb (mnemonic_of top) (letters_from 0 4 ""))

-- the names of all 256 top bytes
unfoldable pub all_mnemonics : List ℕ
all_mnemonics = firsts mnemonic_of 0 0x100
