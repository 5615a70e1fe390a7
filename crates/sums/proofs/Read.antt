-- A deck without rows, by its parts: what is computed of the examples. Assumes nothing.
use Prim.Native.Nat.{ℕ, ◌/◌, ◌≤◌}
use mathlib.Core.Path.{◌≡◌, refl}
use mathlib.Core.Bool.{true}
use mathlib.Core.List.{List, []}
use lib.ListN.{length}
use Rattle.deck.proofs.Laws.{not-refused}
use Rattle.deck.specs.Ranges.{words_in_range, rows_part_in_range, samples_in_range, deck_refusal_of}
use Rattle.deck.specs.Sections.{whole_of, words_part, rows_part, state_part, samples_part}
use Rattle.rows.specs.Range.{rows_in_range}
use Rattle.rows.specs.Section.{rows_of}
use Rattle.state.specs.Marking.{is_marking}
use Rattle.state_bytes.specs.Bytes.{state_bytes}
use Rattle.state_bytes.specs.Range.{state_in_range}

pub record Read (deck ws before lines : List ℕ) : Type 0 where
  pub whole : whole_of deck ≡ true
  pub words : words_part deck ≡ ws
  pub rows : rows_part deck ≡ []
  pub state : state_part deck ≡ before
  pub samples : samples_part deck ≡ lines

no_rows : rows_part_in_range [] ≡ true
unfolding rows_part_in_range rows_in_range rows_of
no_rows = refl

-- parts in range are let in
pub let-in : (deck ws before lines : List ℕ) (requests marking : ℕ) → Read deck ws before lines → is_marking marking ≡ true → state_in_range before ≡ true
    → words_in_range ws ≡ true → samples_in_range lines ≡ true → length lines / 4 ≤ requests / 4 → deck_refusal_of deck requests state_bytes marking ≡ 0
let-in deck ws before lines requests marking r m s w l p =
    not-refused deck requests state_bytes marking
    (record {
      whole = r.whole;
      buffer-length = refl;
      known = m;
      state = rw r.state s;
      words = rw r.words w;
      rows = rw r.rows no_rows;
      samples = rw r.samples l;
      places = rw r.samples p;
    })
