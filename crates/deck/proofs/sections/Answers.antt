-- What is no whole deck has none of the four.
use Rattle.std.proofs.Common.{◌≡◌, ◌∙◌, true, false, Option, None, Some, List, ℕ, [], rules, sym, subst, MatchOption}
use Rattle.std.specs.Option.{UnwrapsOrElse}
use Rattle.deck.specs.declared.Deck.{Deck}
use Rattle.deck.specs.Parts.{IsCut}
use Rattle.deck.specs.Sections.{whole_of, section_of}
use Rattle.deck.proofs.sections.Goals as goal

module _ (s : List ℕ) (IsEmpty : Deck → Type 0)
    (empty : (d : Deck) → IsEmpty d → (d.words.now ≡ []) × (d.rows.now ≡ []) × (d.state.now ≡ []) × (d.samples.now ≡ []))
  where
    parts : (o : Option Deck) (d : Deck) → MatchOption o (whole_of s ≡ false) (λ p. (whole_of s ≡ true) × IsCut p s) → UnwrapsOrElse o IsEmpty d → IsCut d s
    unfolding section_of
    parts None d h u = let e = empty d u in record { words = e.0 ∙ rw h; rows = e.1 ∙ rw h; state = e.2 ∙ rw h; samples = e.3 ∙ rw h }
    parts (Some p) d h u = subst (λ q. IsCut q s) (sym u) h.1

pub returns : goal.returns
returns c = parts _ _ (λ d e. search rules) _ _ c.cut.ensures c.unwrap_or_default.ensures
