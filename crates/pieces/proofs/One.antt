-- Any two results that a contract permits are equal, of parts of a text their bytes. Assumes nothing.
use Prim.Native.Nat.{ℕ, ◌+◌}
use mathlib.Core.Path.{◌≡◌, refl, sym, ap, ◌∙◌}
use mathlib.Core.List.{List, [], ◌∷◌}
use lib.ListN.{length, drop, get_or}
use Rattle.std.specs.Prelude.{Option, Some, None, SomeIff}
use Rattle.pieces.specs.Parts.{lines_of, pieces_of}
use Rattle.pieces.specs.Counted.{spaces_of}

-- for `name_of`, `digit_of` and `number_of`, and `top_named` of forms
module _ {T : Type 0} (P : Type 0) (v : T) where
  pub one-some : (x y : Option T) → SomeIff x P v → SomeIff y P v → x ≡ y
  one-some None None p q = refl
  one-some None (Some b) p q = absurd (p q.0)
  one-some (Some a) None p q = absurd (q p.0)
  one-some (Some a) (Some b) p q = ap Some (p.1 ∙ sym q.1)

-- the first of some parts
first_of : (a b : List ℕ) (u v ps : List (List ℕ)) → ps ≡ a ∷ u → ps ≡ b ∷ v → a ≡ b
first_of a b u v ps p q = sym (ap (λ (l : List (List ℕ)). get_or l 0 []) p) ∙ ap (λ (l : List (List ℕ)). get_or l 0 []) q

-- for `first_line`: the line, and the text after it
pub one-line : (t a b c d : List ℕ) → lines_of t ≡ a ∷ lines_of b → b ≡ drop (length a + 1) t → lines_of t ≡ c ∷ lines_of d → d ≡ drop (length c + 1) t
    → (a ≡ c) × (b ≡ d)
one-line t a b c d p u q v =
    let same = first_of a c (lines_of b) (lines_of d) (lines_of t) p q in
    (same, u ∙ ap (λ (l : List ℕ). drop (length l + 1) t) same ∙ sym v)

-- for `first_piece`: the piece, and the line after it
pub one-piece : (l a b c d : List ℕ) → pieces_of l ≡ a ∷ pieces_of b → b ≡ drop (spaces_of l + length a) l
    → pieces_of l ≡ c ∷ pieces_of d → d ≡ drop (spaces_of l + length c) l → (a ≡ c) × (b ≡ d)
one-piece l a b c d p u q v =
    let same = first_of a c (pieces_of b) (pieces_of d) (pieces_of l) p q in
    (same, u ∙ ap (λ (k : List ℕ). drop (spaces_of l + length k) l) same ∙ sym v)
