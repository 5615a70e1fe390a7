-- What the lines of a text are assembled to: one line more; and of good lines, how many words they give. Assumes nothing.
use Prim.Native.Nat.{ℕ, ◌+◌, ◌*◌, ◌-◌, ◌≤◌, ◌<◌}
use mathlib.Core.Path.{◌≡◌, refl, ◌∙◌}
use mathlib.Core.List.{List, [], ◌∷◌, ◌++◌}
use native.Mathlib.Nat.{add-zero, zero-add}
use native.Mathlib.Omega.{arith}
use borrow.Author.Tests.{eq-eqb, ne_eqb, lt-ltb, le-ltb}
use lib.ListN.{length, replicate, length-append, length-replicate}
use lib.Seq.{sets, sets-eq}
use Rattle.line.specs.Line.{Line, line_of}
use Rattle.line.proofs.Laws.{bad-number, not-zero, taken}
use Rattle.pieces.specs.Parts.{lines_of, pieces_of}
use Rattle.listing.specs.Assembled.{report_of, judged, bytes_of, words_from, refusal_from, assembled_of, assembled_into, text_report}
use Rattle.refusals.proofs.Laws.{not-0}
use Rattle.listing.specs.declared.Report.{Report}
use Rattle.listing.specs.declared.TextRefused.{TextRefused}
use Rattle.listing.proofs.Laws.{bytes-length}

-- lines that are one and others after it
module _ (ls : List (List ℕ)) (l : List ℕ) (rest : List (List ℕ)) (split : ls ≡ l ∷ rest) (next : ℕ) where
  -- a bad one: none of its words or of those after it
  pub bad-words : (n : ℕ) → line_of next (pieces_of l) ≡ Line.Bad n → words_from next ls ≡ []
  unfolding words_from
  bad-words n e = rw (split, e)

  pub bad-refusal : (number n : ℕ) → line_of next (pieces_of l) ≡ Line.Bad n → refusal_from number next ls ≡ report_of n number 0
  unfolding refusal_from
  bad-refusal number n e = rw (split, e)

  -- a good one, and the lines after it
  pub good-words : (a w : ℕ) → line_of next (pieces_of l) ≡ Line.Word a w
      → words_from next ls ≡ replicate (a - next) 0xFF00 ++ w ∷ words_from (a + 1) rest
  unfolding words_from
  good-words a w e = rw (split, e)

  pub good-refusal : (number a w : ℕ) → line_of next (pieces_of l) ≡ Line.Word a w → refusal_from number next ls ≡ refusal_from (number + 1) (a + 1) rest
  unfolding refusal_from
  good-refusal number a w e = rw (split, e)

-- no line is left
module _ (ls : List (List ℕ)) (none : ls ≡ []) (next : ℕ) where
  pub no_words : words_from next ls ≡ []
  unfolding words_from
  no_words = rw none

  pub no-refusal : (number : ℕ) → refusal_from number next ls ≡ report_of 0 0 (4 * next)
  unfolding refusal_from
  no-refusal number = rw none

-- ---- good lines from the address `next` on: where their words end, and the length that is told
pub record Counted (line next : ℕ) (ls : List (List ℕ)) : Type 0 where
  pub within : next + length (words_from next ls) ≤ 0x800
  pub counted : 4 * (next + length (words_from next ls)) ≡ (refusal_from line next ls).length

pub lines-counted : (line next : ℕ) (ls : List (List ℕ)) → next ≤ 0x800 → (refusal_from line next ls).answer ≡ 0 → Counted line next ls
unfolding words_from refusal_from
lines-counted line next [] h e = record { within = omega arith; counted = rw (add-zero next) }
lines-counted line next (l ∷ ls) h e = go (λ n. lines-counted (line + 1) n ls) (line_of next (pieces_of l)) refl e
  where
    go : ((n : ℕ) → n ≤ 0x800 → (refusal_from (line + 1) n ls).answer ≡ 0 → Counted (line + 1) n ls) → (t : Line) → line_of next (pieces_of l) ≡ t
        → (judged line t (λ n. refusal_from (line + 1) n ls)).answer ≡ 0 → Counted line next (l ∷ ls)
    go rest (Line.Bad n) q e = absurd (not-zero (bad-number next (pieces_of l) n q) e)
    go rest (Line.Word a w) q e =
        let t = taken next (pieces_of l) a w q in
        let later = rest (a + 1) (omega (arith, t.below)) e in
        let long = length-append (replicate (a - next) 0xFF00) (w ∷ words_from (a + 1) ls) in
        let gap = length-replicate {A = ℕ} (a - next) 0xFF00 in
        record { within = rw q (omega (arith, t.rising, later.within)); counted = rw q (omega (arith, t.rising, later.counted)) }

-- an accepted text's bytes are as many as the length that is told
pub bytes-told : (ls : List (List ℕ)) → (refusal_from 1 0 ls).answer ≡ 0 → length (bytes_of (words_from 0 ls)) ≡ (refusal_from 1 0 ls).length
bytes-told ls e = omega (arith, bytes-length (words_from 0 ls), (lines-counted 1 0 ls (omega arith) e).counted)

-- a refusal has a number
pub text_not-0 : (r : TextRefused) → (text_report r).answer ≡ 0 → ⊥
text_not-0 (TextRefused.Line number why) e = not-0 why e
text_not-0 (TextRefused.Room needed) e = omega arith

-- ---- what a text's report comes to in an output: refused, short of room, or done
module _ (text out : List ℕ) (r : Report) (told : r ≡ refusal_from 1 0 (lines_of text)) where
  pub refused : (r.answer ≡ 0 → ⊥) → (r ≡ assembled_of text (length out)) × (out ≡ assembled_into text out)
  unfolding assembled_of assembled_into
  refused n = rw (← told, ne_eqb _ _ n, ne_eqb _ _ n) (refl, refl)

  pub short : r.answer ≡ 0 → length out < r.length
      → (report_of 27 0 r.length ≡ assembled_of text (length out)) × (out ≡ assembled_into text out)
  unfolding assembled_of assembled_into
  short e h = rw (← told, eq-eqb _ _ e, lt-ltb _ _ h) (refl, refl)

  pub done : r.answer ≡ 0 → r.length ≤ length out
      → (r ≡ assembled_of text (length out)) × (sets out 0 (bytes_of (words_from 0 (lines_of text))) ≡ assembled_into text out)
  unfolding assembled_of assembled_into
  done e h =
      let bs : List ℕ = bytes_of (words_from 0 (lines_of text)) in
      let long : length bs ≡ r.length = rw (← told) at (bytes-told (lines_of text) (rw told at e)) in
      rw (← told, eq-eqb _ _ e, le-ltb _ _ h, eq-eqb _ _ e) (refl, sets-eq bs out 0 (omega arith) ∙ rw (zero-add (length bs)))
