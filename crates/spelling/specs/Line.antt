-- What a line holds, and what a function that adds to it leaves there.
use Rattle.std.specs.Prelude.{ℕ, ◌≤◌, ◌≡◌, List, ◌++◌, length, take}
use Rattle.spelling.specs.declared.line.Line.{Line}

abbrev pub text_of : Line → List ℕ
text_of line = take line.length line.bytes

-- the bytes bs, at most `most` of them, stand after the others, as far as there is room
pub record Adds (before : Line) (bs : List ℕ) (most : ℕ) (after : Line) : Type 0 where
  pub text : text_of after ≡ take 40 (text_of before ++ bs)
  pub short : length bs ≤ most
