-- Any two results that a contract permits hand back the same bytes. Assumes nothing.
use mathlib.Core.List.{List}
use mathlib.Core.Path.{◌≡◌, sym, ◌∙◌}
use Prim.Native.Nat.{ℕ}
use Rattle.deck.specs.Parts.{IsCut}
use Rattle.deck.specs.declared.Deck.{Deck}

-- for `sections`, and for what is opened
pub one-cut : (s : List ℕ) (d e : Deck) → IsCut d s → IsCut e s
    → (d.words.now ≡ e.words.now) × (d.rows.now ≡ e.rows.now) × (d.state.now ≡ e.state.now) × (d.samples.now ≡ e.samples.now)
one-cut s d e p q = (p.words ∙ sym q.words, p.rows ∙ sym q.rows, p.state ∙ sym q.state, p.samples ∙ sym q.samples)
