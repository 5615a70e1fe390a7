-- "Marks, after the operands, in any order, each at most once": ODD, RR, RNI, and U with a digit.
use Rattle.std.specs.Prelude.{ℕ, Bool, ◌/◌, ◌%◌, true, false, not, ◌&&◌, List, [], ◌∷◌, eqb, ltb}
use Rattle.choose.specs.Ranged.{pick}
use Rattle.names.specs.Mnemonics.{letters_from}
use Rattle.pieces.specs.Read.{name_of, digit_of}

-- the marks of a line: whether they are good, which are there, and the digit of U
pub record Marks : Type 0 where
  pub good : Bool
  pub odd : Bool
  pub load_rr : Bool
  pub rni : Bool
  pub user : ℕ

-- before the first mark; 0x10 stands for no U, since U0 is one
abbrev pub no_marks : Marks
no_marks = record { good = true; odd = false; load_rr = false; rni = false; user = 0x10 }

-- "`U` with exactly one hexadecimal digit": the digit; 0x10 for any other name
unfoldable pub user_in : ℕ → ℕ
user_in name =
    pick (eqb (name / 0x100_0000) 0x55 && eqb (name % 0x1_0000) 0x2020) (digit_of (name / 0x1_0000 % 0x100)) 0x10

unfoldable pub with_user : Marks → ℕ → Marks
with_user m u =
    pick (ltb u 0x10)
    (record { good = m.good && eqb m.user 0x10; odd = m.odd; load_rr = m.load_rr; rni = m.rni; user = u })
    (record { good = false; odd = m.odd; load_rr = m.load_rr; rni = m.rni; user = m.user })

-- one mark more: it is good as long as it is a mark, and the first of its kind
unfoldable pub with_mark : Marks → ℕ → Marks
with_mark m name =
    pick (eqb name (letters_from 0 4 "ODD"))
    (record { good = m.good && not m.odd; odd = true; load_rr = m.load_rr; rni = m.rni; user = m.user })
    (pick (eqb name (letters_from 0 4 "RR"))
    (record { good = m.good && not m.load_rr; odd = m.odd; load_rr = true; rni = m.rni; user = m.user })
    (pick (eqb name (letters_from 0 4 "RNI"))
    (record { good = m.good && not m.rni; odd = m.odd; load_rr = m.load_rr; rni = true; user = m.user })
    (with_user m (user_in name))))

-- the marks m, and these pieces after them
unfoldable pub marks_from : Marks → List (List ℕ) → Marks
marks_from m [] = m
marks_from m (p ∷ ps) = marks_from (with_mark m (name_of p)) ps
