-- "address mnemonic operands marks": what may stand after the mnemonic, given as operands and marks, and the word that they say.
use Rattle.std.specs.Prelude.{ℕ, ◌+◌, ◌*◌, ◌%◌, ◌≤◌, ◌<◌, ◌≡◌, true, not, List, ◌++◌, eqb, length}
use Rattle.choose.specs.Ranged.{bit}
use Rattle.forms.specs.Forms.{spare_of, form_of, limit_of, joined_of}
use Rattle.forms.specs.Named.{twinned}
use Rattle.pieces.specs.Parts.{piece_of}
use Rattle.pieces.specs.Read.{digits, value_from}
use Rattle.line.specs.Kinds.{count_of, user_of}

-- "Numbers: one or more digits 0-9 A-F a-f"; "Range is the width of the field and nothing else"
pub record Number (limit : ℕ) (p : List ℕ) : Type 0 where
  pub some : 0 < length p
  pub hexadecimal : digits p ≡ true
  pub in-range : value_from 0 p < limit

-- "A field that the summary marks x is no operand, and may follow as one trailing don't-care operand"
abbrev pub most_of : ℕ → ℕ
most_of top = (form_of top).needed + bit (not (eqb (spare_of top) 0))

-- operands xs and marks ms of the instruction, none "missing, extra or out of range". No instruction has more than two operands
pub record Written (top : ℕ) (xs ms : List (List ℕ)) : Type 0 where
  pub given : (form_of top).needed ≤ length xs
  pub most : length xs ≤ most_of top
  pub first : 0 < length xs → Number (limit_of (form_of top).first) (piece_of xs 0)
  pub second : 1 < length xs → Number (limit_of (form_of top).second) (piece_of xs 1)
  -- "Marks, after the operands, in any order, each at most once"
  pub marks : count_of 4 ms ≡ 0
  pub once : (k : ℕ) → k < 4 → count_of k ms ≤ 1
  -- "ODD goes with the codes that have an odd twin of the same mnemonic .. On any other it is an 11"
  pub odd : 0 < count_of 0 ms → twinned top ≡ true

-- the pieces after the mnemonic are such operands, and then such marks
pub record WellWritten (top : ℕ) (qs : List (List ℕ)) : Type 0 where
  pub operands : List (List ℕ)
  pub marks : List (List ℕ)
  pub order : qs ≡ operands ++ marks
  pub written : Written top operands marks

-- the word: the operands, 0 for one that isn't there; "`ODD` the odd code of a pair, `RR` bit 16, `RNI` bit 17, `U` .. bits 18-21"
unfoldable pub word_written : ℕ → List (List ℕ) → List (List ℕ) → ℕ
word_written top xs ms =
    joined_of (form_of top) (value_from 0 (piece_of xs 0)) (value_from 0 (piece_of xs 1)) + (top + count_of 0 ms) * 0x100 + count_of 1 ms * 0x1_0000 +
    count_of 2 ms * 0x2_0000 +
    user_of ms % 0x10 * 0x4_0000
