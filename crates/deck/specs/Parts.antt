-- What a deck is handed back as.
use Rattle.std.specs.Prelude.{◌≡◌, List, ℕ}
use Rattle.deck.specs.Sections.{words_part, rows_part, state_part, samples_part}
use Rattle.deck.specs.declared.Deck.{Deck}

-- "Each section is handed back as that part of the deck itself"
pub record IsCut (d : Deck) (s : List ℕ) : Type 0 where
  pub words : d.words.now ≡ words_part s
  pub rows : d.rows.now ≡ rows_part s
  pub state : d.state.now ≡ state_part s
  pub samples : d.samples.now ≡ samples_part s
