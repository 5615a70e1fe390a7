-- A line taken apart: "address mnemonic operands marks". On one line the first of 10, 11, 12 is given.
use Rattle.std.specs.Prelude.{ℕ, ◌+◌, ◌%◌, Bool, not, ◌&&◌, ◌||◌, List, ltb, leb, drop, Some, None, Option}
use Rattle.choose.specs.Ranged.{bit, pick}
use Rattle.code.specs.CodeRows.{class_of}
use Rattle.code.specs.Word.{operands_in, together_of}
use Rattle.code.specs.declared.Fields.{Fields}
use Rattle.forms.specs.Forms.{form_of, limit_of, joined_of}
use Rattle.forms.specs.Named.{top_named, twinned}
use Rattle.forms.specs.declared.Form.{Form}
use Rattle.pieces.specs.Parts.{piece_of}
use Rattle.pieces.specs.Read.{name_of, value_of, is_number}
use Rattle.line.specs.Marks.{Marks, no_marks, marks_from}

-- what stands after a mnemonic: how many operands, two at most; the operands, 0 for one that isn't there; the marks
pub record Tail : Type 0 where
  pub count : ℕ
  pub first : ℕ
  pub second : ℕ
  pub marks : Marks

-- a line's answer: the number of what is bad in it, or its word at its address
pub data Line : Type 0 where
  Bad : ℕ → Line
  Word : ℕ → ℕ → Line

-- so many operands, and marks after them
abbrev pub tail_with : ℕ → ℕ → ℕ → List (List ℕ) → Tail
tail_with n x y ps = record { count = n; first = x; second = y; marks = marks_from no_marks ps }

-- what stands after the mnemonic: no instruction has more than two operands, and a third number is no mark
unfoldable pub tail_of : List (List ℕ) → Tail
tail_of ps =
    pick (is_number (piece_of ps 0))
    (pick (is_number (piece_of ps 1))
    (tail_with 2 (value_of (piece_of ps 0)) (value_of (piece_of ps 1)) (drop 2 ps))
    (tail_with 1 (value_of (piece_of ps 0)) 0 (drop 1 ps)))
    (tail_with 0 0 0 ps)

-- no operand "missing, extra or out of range"; the one after those needed is the don't-care operand
unfoldable pub fits_form : Form → Tail → Bool
fits_form form t =
    leb form.needed t.count && leb t.count (1 + form.second) && ltb t.first (limit_of form.first) &&
    ltb t.second (limit_of form.second)

-- "ODD goes with the codes that have an odd twin of the same mnemonic .. On any other it is an 11"
abbrev pub good_marks : ℕ → Tail → Bool
good_marks top t = t.marks.good && (not t.marks.odd || twinned top)

-- the word's fields
abbrev pub fields_for : ℕ → Tail → Fields
fields_for top t =
    record {
      code = top + bit t.marks.odd;
      class = class_of top;
      operands = operands_in (class_of top) (joined_of (form_of top) t.first t.second);
      load_rr = t.marks.load_rr;
      rni = t.marks.rni;
      user = t.marks.user % 0x10;
    }

-- the word of an instruction with these operands and marks; malformed is an 11, "operand or mark missing, extra or out of range"
unfoldable pub word_for : ℕ → Tail → Option ℕ
word_for top t = pick (fits_form (form_of top) t && good_marks top t) (together_of (fields_for top t)) None

-- 12: "address not hexadecimal, not rising or over 2,047". It has to be `next` or more
unfoldable pub placed_of : ℕ → ℕ → Option ℕ → Line
placed_of next address None = Line.Bad 11
placed_of next address (Some w) = pick (ltb address 0x800 && leb next address) (Line.Word address w) (Line.Bad 12)

-- 10: "unknown or absent mnemonic"
unfoldable pub line_of : ℕ → List (List ℕ) → Line
line_of next ps =
    pick (ltb (top_named (name_of (piece_of ps 1))) 0x100)
    (placed_of next (value_of (piece_of ps 0)) (word_for (top_named (name_of (piece_of ps 1))) (tail_of (drop 2 ps))))
    (Line.Bad 10)
