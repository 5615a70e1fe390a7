-- The chip's marking. 02, L14: "A run names its marking", as a number, 1661 or 1621, the ones that are printed on the chips.
use Rattle.std.specs.Prelude.{ℕ, Bool, ◌||◌, eqb, Result, Ok, Err}
use Rattle.choose.specs.Ranged.{pick}
use Rattle.refusals.specs.declared.Refusal.{Refusal}
use Rattle.state.specs.declared.Marking.{Marking}

-- 24 is given for "unknown marking"
abbrev pub is_marking : ℕ → Bool
is_marking number = eqb number 1661 || eqb number 1621

-- "Older boards carry the CP1621B, which has Q1"; the base is CP1661B
unfoldable pub marking_of : ℕ → Marking
marking_of number = pick (eqb number 1621) Marking.CP1621B Marking.CP1661B

-- the marking of a number that is one
abbrev pub marking_in : ℕ → Result Marking Refusal
marking_in number = pick (is_marking number) (Ok (marking_of number)) (Err Refusal.NoMarking)
