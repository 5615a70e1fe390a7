-- A text's lines and a line's pieces: what stands between two marks.
use Rattle.std.specs.Prelude.{ℕ, List, [], ◌∷◌, eqb, get_or}
use Rattle.choose.specs.Ranged.{pick}

-- a byte in front of the first part
abbrev pub ahead : ℕ → List (List ℕ) → List (List ℕ)
ahead c [] = (c ∷ []) ∷ []
ahead c (p ∷ ps) = (c ∷ p) ∷ ps

-- the parts of a text, each of which ends with a mark. The last may lack it, and is a part "only if it has a byte"
unfoldable pub parts_of : ℕ → List ℕ → List (List ℕ)
parts_of mark [] = []
parts_of mark (c ∷ t) = pick (eqb c mark) ([] ∷ parts_of mark t) (ahead c (parts_of mark t))

-- "A text is lines; each ends with a newline (byte 10), which the last line may lack"
abbrev pub lines_of : List ℕ → List (List ℕ)
lines_of t = parts_of 10 t

-- those that have a byte
abbrev pub filled : List (List ℕ) → List (List ℕ)
filled [] = []
filled ([] ∷ ps) = filled ps
filled ((c ∷ p) ∷ ps) = (c ∷ p) ∷ filled ps

-- "Pieces of a line are split by spaces (byte 32), one or more; leading and trailing spaces count nothing"
unfoldable pub pieces_of : List ℕ → List (List ℕ)
pieces_of l = filled (parts_of 32 l)

-- piece i; one without bytes where there is none
abbrev pub piece_of : List (List ℕ) → ℕ → List ℕ
piece_of ps i = get_or ps i []
