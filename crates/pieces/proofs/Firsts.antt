-- The first line of a text and the first piece of a line, and what stands after them. Assumes nothing.
use Prim.Native.Nat.{ℕ, ◌+◌, ◌-◌, ◌<◌, ◌≤◌}
use mathlib.Core.Path.{◌≡◌, refl, sym, ap, ◌∙◌}
use mathlib.Core.Bool.{Bool, false, not}
use mathlib.Core.List.{List, [], ◌∷◌}
use native.Mathlib.Numerals.{add-one}
use native.Mathlib.Omega.{arith}
use lib.Dec.{eqb, ltb}
use lib.ListN.{length, take, drop, length-drop, drop_of_length-le}
use lib.Seq.{take-length, drop-length, drop-drop}
use borrow.Author.Tests.{ltb-true, ltb-false}
use Rattle.std.specs.Prelude.{None, Some, ◌==◌}
use Rattle.std.specs.List.{position, position_or_len}
use Rattle.std.specs.Option.{unwrap_or}
use Rattle.std.proofs.lemmas.List.Recursion.{is_position_or_len}
use Rattle.std.proofs.lemmas.List.Sums.{prefix_len-le-length}
use Rattle.pieces.specs.Parts.{parts_of, lines_of, pieces_of}
use Rattle.pieces.specs.Counted.{length_to, spaces_of}
use Rattle.pieces.proofs.Laws.{cases, parts_first, spaces-skipped, no-spaces, space-skipped}

-- a place is the first, or there is none before the end
module _ (p : ℕ → Bool) (l : List ℕ) where
  pub at_place : (i : ℕ) → position p l ≡ Some i → (i ≡ position_or_len p l) × (i < length l)
  at_place i e =
      cases (ltb (position_or_len p l) (length l))
      (λ t. let f : position_or_len p l ≡ i = cc (e, t) in (sym f, omega (arith, ltb-true _ _ t)))
      (λ t. let f : Some i ≡ None = sym e ∙ rw t in cc)

  pub no_place : position p l ≡ None → position_or_len p l ≡ length l
  no_place e =
      cases (ltb (position_or_len p l) (length l))
      (λ t. let f : Some (position_or_len p l) ≡ None = sym (rw t) ∙ e in cc)
      (λ t. omega (arith, ltb-false _ _ t, prefix_len-le-length (λ x. not (p x)) l))

  pub or_end : unwrap_or (position p l) (length l) ≡ position_or_len p l
  or_end =
      cases (ltb (position_or_len p l) (length l)) (λ t. rw t)
      (λ t. rw t (omega (arith, ltb-false _ _ t, prefix_len-le-length (λ x. not (p x)) l)))

-- the words of these laws are std's
pub to-mark : (mark : ℕ) (l : List ℕ) → position_or_len (λ c. c == mark) l ≡ length_to mark l
unfolding length_to
to-mark mark l = sym (is_position_or_len (length_to mark) (λ c. c == mark) refl (λ c t. cases (eqb c mark) (λ e. rw e) (λ e. rw e (omega arith))) l)

pub to-piece : (l : List ℕ) → position_or_len (λ c. not (c == 32)) l ≡ spaces_of l
unfolding spaces_of
to-piece l =
    sym (is_position_or_len spaces_of (λ c. not (c == 32)) refl (λ c t. cases (eqb c 32) (λ e. rw e (omega arith)) (λ e. rw e)) l)

-- a line ends at the first newline, or at the text's end
line-split : (t : List ℕ) (e : ℕ) → 0 < length t → e ≡ position_or_len (λ c. c == 10) t → lines_of t ≡ take e t ∷ lines_of (drop (e + 1) t)
line-split [] e h q = absurd (omega arith)
line-split (c ∷ t) e h q = rw (q, to-mark 10 (c ∷ t), add-one) (parts_first 10 c t)

pub line_first : (t : List ℕ) (e : ℕ) → position (λ c. c == 10) t ≡ Some e → lines_of t ≡ take e t ∷ lines_of (drop (e + 1) t)
line_first t e h = let (same, inside) = at_place (λ c. c == 10) t e h in line-split t e (omega arith) same

pub line-last : (t : List ℕ) → 0 < length t → position (λ c. c == 10) t ≡ None → lines_of t ≡ t ∷ lines_of []
line-last t h n =
    let same : length t ≡ position_or_len (λ c. c == 10) t = sym (no_place _ t n) in
    let past : length t ≤ length t + 1 = omega arith in
    rw (take-length t, drop_of_length-le t past) at (line-split t (length t) h same)

pub no_lines : (t : List ℕ) → length t ≡ 0 → lines_of t ≡ []
unfolding parts_of
no_lines [] h = refl
no_lines (c ∷ t) h = absurd (omega arith)

-- the slice of what is left of a text
pub rest : (t : List ℕ) (i : ℕ) → take (length t - i) (drop i t) ≡ drop i t
rest t i = let e : length t - i ≡ length (drop i t) = omega (arith, length-drop i t) in rw e (take-length (drop i t))

-- a piece ends at the first space, or at the line's end
piece-there : (c : ℕ) (t : List ℕ) → eqb c 32 ≡ false
    → pieces_of (c ∷ t) ≡ take (length_to 32 (c ∷ t)) (c ∷ t) ∷ pieces_of (drop (length_to 32 (c ∷ t)) (c ∷ t))
unfolding pieces_of parts_of length_to
piece-there c t e = rw (parts_first 32 c t, e) (ap (λ (ps : List (List ℕ)). (c ∷ take (length_to 32 t) t) ∷ ps) (rw e at (space-skipped (c ∷ t))))

piece-here : (f : List ℕ) → 0 < length f → spaces_of f ≡ 0 → pieces_of f ≡ take (length_to 32 f) f ∷ pieces_of (drop (length_to 32 f) f)
unfolding spaces_of
piece-here [] h z = absurd (omega arith)
piece-here (c ∷ t) h z = cases (eqb c 32) (λ e. absurd (omega (arith, rw e at z))) (λ e. piece-there c t e)

module _ (l : List ℕ) where
  pub piece_first : (i : ℕ) → position (λ c. not (c == 32)) l ≡ Some i
      → pieces_of l ≡ take (position_or_len (λ c. c == 32) (drop i l)) (drop i l) ∷ pieces_of (drop (position_or_len (λ c. c == 32) (drop i l)) (drop i l))
  piece_first i h =
      let (same, inside) = at_place (λ c. not (c == 32)) l i h in
      let s : i ≡ spaces_of l = same ∙ to-piece l in
      let none : spaces_of (drop i l) ≡ 0 = rw s (no-spaces l) in
      let skipped : pieces_of (drop i l) ≡ pieces_of l = rw s (spaces-skipped l) in
      let some : 0 < length (drop i l) = omega (arith, length-drop i l) in
      rw (to-mark 32 (drop i l)) (sym skipped ∙ piece-here (drop i l) some none)

  -- and what comes after it stands behind the spaces and the piece
  pub after-piece : (i k n : ℕ) → position (λ c. not (c == 32)) l ≡ Some i → n ≡ k → drop k (drop i l) ≡ drop (spaces_of l + n) l
  after-piece i k n h e =
      let (same, inside) = at_place (λ c. not (c == 32)) l i h in
      let s : spaces_of l + n ≡ i + k = omega (arith, same ∙ to-piece l) in
      rw s (drop-drop k i l)

  pub no_pieces : position (λ c. not (c == 32)) l ≡ None → pieces_of l ≡ []
  unfolding pieces_of parts_of
  no_pieces h =
      let all : spaces_of l ≡ length l = sym (to-piece l) ∙ no_place _ l h in
      sym (spaces-skipped l) ∙ rw (all, drop-length l)
