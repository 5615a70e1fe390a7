-- Which top byte a mnemonic names, and which codes have an odd twin. Both come from the mnemonics of `names`.
use Rattle.std.specs.Prelude.{ℕ, suc, ◌+◌, ◌-◌, ◌%◌, Bool, ◌&&◌, List, [], ◌∷◌, eqb}
use Rattle.choose.specs.Ranged.{bit, pick}
use Rattle.code.specs.CodeRows.{class_of}
use Rattle.code.specs.Word.{same}
use Rattle.code.specs.declared.Class.{Class}
use Rattle.names.specs.Mnemonics.{mnemonic_of, all_mnemonics, letters_from}

-- where a number first stands in a list whose places are counted from i; past its end where it doesn't
abbrev pub place_from : ℕ → ℕ → List ℕ → ℕ
place_from n i [] = i
place_from n i (x ∷ xs) = pick (eqb x n) i (place_from n (suc i) xs)

-- the first top byte of a mnemonic, and 0x100 for what is no mnemonic: unlisted codes have no name
unfoldable pub top_named : ℕ → ℕ
top_named name = pick (eqb name (letters_from 0 4 "")) 0x100 (place_from name 0 all_mnemonics)

-- "the codes that have an odd twin of the same mnemonic": each jump and literal instruction has one code only, with its address or literal in it
unfoldable pub twinned : ℕ → Bool
twinned top = same (class_of top) Class.Register && eqb (mnemonic_of (top + 1)) (mnemonic_of top)

-- "the odd code of a pair"
unfoldable pub odd_of : ℕ → Bool
odd_of code = eqb (code % 2) 1 && twinned (code - 1)

-- the even code of a pair, and any other code itself
abbrev pub even_of : ℕ → ℕ
even_of code = code - bit (odd_of code)
