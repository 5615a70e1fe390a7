-- How many bytes a part has, and where a piece stands in its line. The laws say that this comes to the parts and pieces of Parts.
use Rattle.std.specs.Prelude.{ℕ, suc, ◌-◌, ◌≤◌, ◌<◌, ◌≡◌, List, [], ◌∷◌, eqb, length, take, drop}
use Rattle.choose.specs.Ranged.{pick}
use Rattle.pieces.specs.Parts.{pieces_of, piece_of}

-- how many bytes stand before the first mark
unfoldable pub length_to : ℕ → List ℕ → ℕ
length_to mark [] = 0
length_to mark (c ∷ t) = pick (eqb c mark) 0 (suc (length_to mark t))

-- how many spaces stand in front
unfoldable pub spaces_of : List ℕ → ℕ
spaces_of [] = 0
spaces_of (c ∷ t) = pick (eqb c 32) (suc (spaces_of t)) 0

-- the first piece of a line from byte `at` on is line[from..to], the other pieces stand after it, and a piece with a byte ends past `at`
pub record PieceAt (line : List ℕ) (at from to : ℕ) : Type 0 where
  pub ordered : from ≤ to
  pub within : to ≤ length line
  pub first : take (to - from) (drop from line) ≡ piece_of (pieces_of (drop at line)) 0
  pub others : pieces_of (drop to line) ≡ drop 1 (pieces_of (drop at line))
  pub onward : from < to → at < to
