-- Which line of a text is refused: "the first bad line decides".
use Rattle.std.specs.Prelude.{ℕ, zero, suc, ◌+◌, ◌≡◌, List, [], ◌∷◌}
use Rattle.line.specs.Line.{Line, line_of}
use Rattle.pieces.specs.Parts.{pieces_of}

-- a good line, and P of its address
abbrev pub Good : ℕ → List ℕ → (ℕ → Type 0) → Type 0
Good next l P = (a : ℕ) × (w : ℕ) × (line_of next (pieces_of l) ≡ Line.Word a w) × P a

-- all lines are good; "Address rising is against the line before"
abbrev pub AllGood : ℕ → List (List ℕ) → Type 0
AllGood next [] = Unit {0}
AllGood next (l ∷ ls) = Good next l (λ a. AllGood (a + 1) ls)

-- line k, counted from 0, is refused with n, and the lines before it are good
abbrev pub FirstBad : ℕ → List (List ℕ) → ℕ → ℕ → Type 0
FirstBad next [] k n = ⊥
FirstBad next (l ∷ ls) zero n = line_of next (pieces_of l) ≡ Line.Bad n
FirstBad next (l ∷ ls) (suc k) n = Good next l (λ a. FirstBad (a + 1) ls k n)
