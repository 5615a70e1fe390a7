-- Sections and refusals by a layout, whatever it is; `sections-by-layout` and `refusal-by-layout` say that by a deck's own layout they are what Sections and
-- Ranges say.
use Rattle.std.specs.Prelude.{Bool, ◌&&◌, List, [], ℕ, ◌+◌, ◌-◌, eqb, leb, length, take, drop}
use Rattle.choose.specs.Ranged.{pick}
use Rattle.state.specs.Marking.{is_marking}
use Rattle.state_bytes.specs.Bytes.{state_bytes}
use Rattle.state_bytes.specs.Range.{state_in_range}
use Rattle.deck.specs.Sections.{count_at}
use Rattle.deck.specs.Ranges.{words_in_range, rows_part_in_range, samples_in_range, places_enough, unless}
use Rattle.deck.specs.declared.Layout.{Layout}

unfoldable pub whole_by : List ℕ → Layout → Bool
whole_by s l = leb (length s) 65536 && eqb (count_at s l.state) 1 && eqb l.end (length s)

-- the section whose count is at byte a and which ends before byte e; the empty part where the deck has none such
unfoldable pub between : List ℕ → ℕ → ℕ → List ℕ
between s a e = pick (leb e (length s) && leb (a + 2) e) (take (e - (a + 2)) (drop (a + 2) s)) []

unfoldable pub refusal_by : List ℕ → Layout → ℕ → ℕ → ℕ → ℕ
refusal_by s l requests buffer marking =
    unless (whole_by s l && eqb buffer state_bytes) 9
    (unless (is_marking marking) 24
    (unless (state_in_range (between s l.state l.samples)) 1
    (unless (words_in_range (between s 0 l.rows)) 2
    (unless (rows_part_in_range (between s l.rows l.state)) 3
    (unless (samples_in_range (between s l.samples l.end) && places_enough (between s l.samples l.end) requests) 4
    0)))))
