-- The paper's own lines and answers, computed; and the bits of the marks in the word of any line. Assumes nothing.
use Prim.Native.Nat.{ℕ, ◌/◌, ◌%◌}
use Prim.Native.Char.{code}
use Prim.Native.String.{String, [] as ended, ◌∷◌ as ◌then◌}
use mathlib.Core.Path.{◌≡◌, refl, ap}
use mathlib.Core.List.{List, [], ◌∷◌, map}
use lib.Dec.{eqb}
use Rattle.choose.specs.Ranged.{ranged}
use Rattle.code.specs.CodeRows.{class_of}
use Rattle.code.specs.Word.{fits_in, fields_in, operands_in, well_formed, word_of, together_of}
use Rattle.code.specs.declared.Fields.{Fields}
use Rattle.code.proofs.Laws.{together-apart}
use Rattle.code.proofs.Words.{apart-is}
use Rattle.names.specs.Mnemonics.{mnemonic_of, all_mnemonics}
use Rattle.forms.specs.Forms.{spare_of, form_of, limit_of, joined_of}
use Rattle.forms.specs.Named.{top_named, twinned}
use Rattle.pieces.specs.Parts.{parts_of, pieces_of}
use Rattle.pieces.specs.Read.{upper_of, name_of, digit_of, value_of}
use Rattle.line.specs.Marks.{user_in, with_user, with_mark, marks_from}
use Rattle.line.specs.Line.{Line, Bad, Word, tail_of, fits_form, word_for, placed_of, line_of}
use Rattle.line.proofs.Laws.{tail_in, taken}

abbrev bytes : String → List ℕ
bytes ended = []
bytes (c then s) = code c ∷ bytes s

-- the paper's line, and one or more for each of its sentences; their address has to be 3 or more
abbrev pub lines : List (String × Line)
lines =
    ("003 CW 4 2 ODD RR U5", Word 3 0x15_B742) ∷
    ("  3  cw 4 2  u5 rr Odd ", Word 3 0x15_B742) ∷  -- "leading and trailing spaces count nothing", "upper or lower case", "in any order"
    ("3 JMP 7FF", Word 3 0x07FF) ∷
    ("3 JNT ff", Word 3 0x1FFF) ∷
    ("3 AL 5A C", Word 3 0x25AC) ∷  -- "the literal, then a"
    ("3 MB 1 2", Word 3 0x8012) ∷  -- "b, then a"
    -- "may follow as one trailing don't-care operand"
    ("3 RFS", Word 3 0x0800) ∷
    ("3 RFS 7FF", Word 3 0x0FFF) ∷
    ("3 RI 5", Word 3 0x7050) ∷
    ("3 RI 5 1", Word 3 0x7051) ∷
    ("3 CCF 3", Word 3 0x7203) ∷
    ("3 CCF 3 1", Word 3 0x7213) ∷
    ("3 ISW 2 F", Word 3 0xE6F2) ∷
    ("3 RTSR 81", Word 3 0x7481) ∷
    ("3 NOP", Word 3 0xFF00) ∷
    ("3 NOP 0", Word 3 0xFF00) ∷  -- "A trailing 0 is accepted"
    -- "are words and go round"; "CAD assembles (AC)"
    ("3 IB F 0", Word 3 0xE0F0) ∷
    ("3 ISB 4 0", Word 3 0xE440) ∷
    ("3 MW 1 3", Word 3 0x8213) ∷
    ("3 cad 1 2", Word 3 0xAC12) ∷
    ("3 MB 1 2 U0", Word 3 0x8012) ∷  -- "`U0` is accepted"
    ("3 MB 1 2 RNI", Word 3 0x2_8012) ∷
    ("0007ff NOP", Word 0x7FF 0xFF00) ∷  -- "leading zeros count nothing"
    -- "unknown or absent mnemonic"
    ("", Bad 10) ∷
    ("3", Bad 10) ∷
    ("3 NOPE", Bad 10) ∷
    -- "operand or mark missing, extra or out of range"
    ("3 JMP", Bad 11) ∷
    ("3 JMP 5 0", Bad 11) ∷
    ("3 JMP 800", Bad 11) ∷
    ("3 AL 100 0", Bad 11) ∷
    ("3 MB 1 10", Bad 11) ∷
    ("3 CW 4 2 7 ODD", Bad 11) ∷
    ("3 CW ODD 4 2", Bad 11) ∷
    ("3 CW 4 2 U", Bad 11) ∷
    ("3 CW 4 2 U05", Bad 11) ∷
    ("3 CW 4 2 RR RR", Bad 11) ∷
    ("3 CAD 1 2 ODD", Bad 11) ∷
    -- "address not hexadecimal, not rising or over 2,047"
    ("X NOP", Bad 12) ∷
    ("2 NOP", Bad 12) ∷
    ("800 NOP", Bad 12) ∷
    -- "on it the first of 10, 11, 12"
    ("X NOPE 800 U", Bad 10) ∷
    ("X NOP 800 U", Bad 11) ∷
    []

-- each gives what stands beside it
pub worked : map (λ (x : String × Line). line_of 3 (pieces_of (bytes x.0))) lines ≡ map (λ (x : String × Line). x.1) lines
unfolding line_of pieces_of parts_of name_of value_of upper_of digit_of top_named all_mnemonics mnemonic_of ranged placed_of word_for tail_of fits_form
    form_of spare_of class_of limit_of joined_of operands_in twinned marks_from with_mark with_user user_in together_of well_formed fits_in word_of
worked = refl

-- "`RR` bit 16, `RNI` bit 17, `U` .. bits 18-21"
pub record MarkBits (ps : List (List ℕ)) (w : ℕ) : Type 0 where
  pub bit-16 : eqb (w / 0x1_0000 % 2) 1 ≡ (tail_in ps).marks.load_rr
  pub bit-17 : eqb (w / 0x2_0000 % 2) 1 ≡ (tail_in ps).marks.rni
  pub bits-18-21 : w / 0x4_0000 % 0x10 ≡ (tail_in ps).marks.user % 0x10

pub mark-bits : (next : ℕ) (ps : List (List ℕ)) (a w : ℕ) → line_of next ps ≡ Line.Word a w → MarkBits ps w
unfolding fields_in
mark-bits next ps a w e =
    let t = taken next ps a w e in
    let same = (apart-is w _ (together-apart _ w t.whole)).2 in
    record { bit-16 = ap (λ (f : Fields). f.load_rr) same; bit-17 = ap (λ (f : Fields). f.rni) same; bits-18-21 = ap (λ (f : Fields). f.user) same }
