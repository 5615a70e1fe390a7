-- What the code has of a line, as the definitions have it.
use Rattle.std.specs.Prelude.{ℕ, ◌+◌, ◌%◌, ◌≡◌, ◌<◌, true, false, List, ◌∷◌, Option, None, Some, is_some, MatchOption, Result, Ok, Err, ltb}
use Rattle.std.specs.Option.{unwrap_or}
use Rattle.choose.specs.Ranged.{bit}
use Rattle.refusals.specs.Refusals.{number_of}
use Rattle.refusals.specs.declared.Refusal.{Refusal}
use Rattle.forms.specs.Named.{top_named}
use Rattle.pieces.specs.Parts.{piece_of}
use Rattle.pieces.specs.Read.{name_of, value_of, is_number}
use Rattle.line.specs.Marks.{Marks}
use Rattle.line.specs.Line.{Tail, Line}
use Rattle.line.specs.declared.Marks.{Marks as MarksSeen}
use Rattle.line.specs.declared.Tail.{Tail as TailRead}
use Rattle.line.specs.declared.Placed.{Placed}

-- U's digit; 0x10 stands for no U, since U0 is one
abbrev pub digit_in : Option ℕ → ℕ
digit_in None = 0x10
digit_in (Some u) = u % 0x10

abbrev pub marks_as : MarksSeen → Marks
marks_as m = record { good = true; odd = m.odd; load_rr = m.load_rr; rni = m.rni; user = digit_in m.user }

-- the code has the marks of a line where they are good
abbrev pub AreMarks : Option MarksSeen → Marks → Type 0
AreMarks r s = MatchOption r (s.good ≡ false) (λ m. s ≡ marks_as m)

abbrev pub tail_as : TailRead → Tail
tail_as t =
    record {
      count = bit (is_some t.first) + bit (is_some t.second);
      first = unwrap_or t.first 0;
      second = unwrap_or t.second 0;
      marks = marks_as t.marks;
    }

abbrev pub IsTail : Option TailRead → Tail → Type 0
IsTail r s = MatchOption r (s.marks.good ≡ false) (λ t. s ≡ tail_as t)

-- the first of some pieces is no number, or it is n and the others stand after it
abbrev pub NoNumber : List (List ℕ) → Type 0
NoNumber ps = is_number (piece_of ps 0) ≡ false

pub record FirstNumber (ps : List (List ℕ)) (n : ℕ) (rest : List (List ℕ)) : Type 0 where
  pub piece : List ℕ
  pub first : ps ≡ piece ∷ rest
  pub value : value_of piece ≡ n
  pub below : n < 0x800

-- the second of some pieces names no top byte, or this one, and the others stand after it
abbrev pub Nameless : List (List ℕ) → Type 0
Nameless ps = ltb (top_named (name_of (piece_of ps 1))) 0x100 ≡ false

pub record Named (ps : List (List ℕ)) (address : List ℕ) (top : ℕ) (rest : List (List ℕ)) : Type 0 where
  pub mnemonic : List ℕ
  pub parts : ps ≡ address ∷ mnemonic ∷ rest
  pub top-byte : top_named (name_of mnemonic) ≡ top
  pub below : top < 0x100

-- a line's word at its address, or the number of what it is refused for
abbrev pub line_as : Result Placed Refusal → Line
line_as (Ok p) = Line.Word p.address p.word
line_as (Err r) = Line.Bad (number_of r)
