-- Which registers a word writes, by 01's own lists of codes and its own names of the registers: they use none of the engine's tables.
use Rattle.std.specs.Prelude.{ℕ, ◌≡◌, Bool, ◌||◌, List, [], ◌∷◌, eqb}
use Rattle.attempt_laws.specs.Fate.{within, b_in, a_in}
use Rattle.choose.specs.Ranged.{pick}
use Rattle.code.specs.Word.{top_of}
use Rattle.code.specs.declared.Stores.{Stores}
use Rattle.state.specs.Pairs.{inverted}
use Rattle.state.specs.Registers.{Register, name_of}
use Rattle.table_laws.specs.Set.{stores_byte, stores_word}

-- "F0-F7: Ra gains 1 or 2; the word codes then add the carry to Rb": F2, F3, F6, F7
unfoldable pub stores_both : ℕ → Bool
stores_both code = within 0xF2 0xF3 code || within 0xF6 0xF7 code

-- the codes that store a byte, and "CCF stores it in Ra": CCF is 72
unfoldable pub stores_ra : ℕ → Bool
stores_ra code = stores_byte code || eqb code 0x72

-- what the table's column has to be by these lists
unfoldable pub stores_by : ℕ → Stores
stores_by code =
    pick (stores_word code) Stores.RaPair (pick (stores_both code) Stores.RaAndRb (pick (stores_ra code) Stores.Ra Stores.Nothing))

-- the designators of the registers that a word may write: Ra's pair, 02, L6: "the high byte's designator is the low one's with its lowest bit inverted";
-- Ra and Rb; Ra; else none
unfoldable pub stored_in : ℕ → List ℕ
stored_in word =
    let code = top_of word in
    let a = a_in word in
    pick (stores_word code) (a ∷ inverted a ∷ [])
    (pick (stores_both code) (a ∷ b_in word ∷ [])
    (pick (stores_ra code) (a ∷ []) []))

-- a register is none of those that these designators name, "by G before the attempt"
abbrev pub Unnamed : ℕ → List ℕ → Register → Type 0
Unnamed g [] r = Unit {0}
Unnamed g (d ∷ ds) r = (r ≡ name_of g d → ⊥) × Unnamed g ds r
