-- The sections of a deck: "A deck holds the first four in this order, each after its count (two bytes, low first ..)."
use Rattle.std.specs.Prelude.{Bool, ◌&&◌, List, [], ℕ, ◌+◌, ◌*◌, eqb, leb, length, take, drop}
use Rattle.choose.specs.Ranged.{pick}
use Rattle.numbers.specs.Numbers.{pair_at}
use Rattle.state_bytes.specs.Bytes.{state_bytes}
use Rattle.deck.specs.declared.Layout.{Layout}

-- "each after its count": how many elements the section that starts at byte a says it has
abbrev pub count_at : List ℕ → ℕ → ℕ
count_at s a = pair_at s a

-- where that section ends, with elements of `size` bytes
unfoldable pub section_end : List ℕ → ℕ → ℕ → ℕ
section_end s a size = a + 2 + size * count_at s a

-- "in this order": words of 4 bytes, which start the deck, rows of 16, the state, samples of 4
unfoldable pub layout_of : List ℕ → Layout
layout_of s =
    let rows = section_end s 0 4 in
    let state = section_end s rows 16 in
    let samples = section_end s state state_bytes in
    record { rows = rows; state = state; samples = samples; end = section_end s samples 4 }

-- 9 is given for a "deck over 65,536 bytes, state count not 1, length other than its counts say". A count that lies past the end
-- reads as 0, and the end that it gives lies past the end too.
unfoldable pub whole_of : List ℕ → Bool
whole_of s = leb (length s) 65536 && eqb (count_at s (layout_of s).state) 1 && eqb (layout_of s).end (length s)

-- "Each section is handed back as that part of the deck itself", without its count
abbrev pub part_of : List ℕ → ℕ → ℕ → List ℕ
part_of s a size = take (size * count_at s a) (drop (a + 2) s)

-- a deck that is refused with 9 has no sections
unfoldable pub section_of : List ℕ → ℕ → ℕ → List ℕ
section_of s a size = pick (whole_of s) (part_of s a size) []

abbrev pub words_part : List ℕ → List ℕ
words_part s = section_of s 0 4

abbrev pub rows_part : List ℕ → List ℕ
rows_part s = section_of s (layout_of s).rows 16

abbrev pub state_part : List ℕ → List ℕ
state_part s = section_of s (layout_of s).state state_bytes

abbrev pub samples_part : List ℕ → List ℕ
samples_part s = section_of s (layout_of s).samples 4
