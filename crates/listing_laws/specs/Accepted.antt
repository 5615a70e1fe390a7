-- Which texts and words the claims are about.
use Rattle.std.specs.Prelude.{ℕ, ◌<◌, ◌≡◌, List, [], ◌∷◌}
use Rattle.code.specs.Word.{apart_of, number_of}
use Rattle.listing.specs.Assembled.{refusal_from, words_from}
use Rattle.pieces.specs.Parts.{lines_of}

-- a text without a bad line
abbrev pub Accepted : List ℕ → Type 0
Accepted text = (refusal_from 1 0 (lines_of text)).answer ≡ 0

-- the words that it assembles to
abbrev pub words_of : List ℕ → List ℕ
words_of text = words_from 0 (lines_of text)

-- each word is below 2^22 and listed
abbrev pub Listed : List ℕ → Type 0
Listed [] = Unit {0}
Listed (w ∷ ws) = (number_of (apart_of w) ≡ 0) × Listed ws

-- each word fits the four bytes that it is handed over in
abbrev pub FourBytes : List ℕ → Type 0
FourBytes [] = Unit {0}
FourBytes (w ∷ ws) = (w < 0x1_0000_0000) × FourBytes ws
