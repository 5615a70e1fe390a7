-- By a deck's own layout the sections and the refusals are what Sections and Ranges say. Assumes nothing.
use mathlib.Core.Path.{◌≡◌, refl}
use mathlib.Core.Bool.{Bool, true, false}
use mathlib.Core.List.{List, []}
use Prim.Native.Nat.{ℕ, ◌+◌, ◌-◌, ◌*◌, ◌≤◌}
use native.Mathlib.Omega.{arith}
use borrow.Author.Tests.{le-leb, leb-true}
use lib.Dec.{leb}
use lib.ListN.{length}
use Rattle.state_bytes.specs.Bytes.{state_bytes}
use Rattle.deck.specs.Sections.{count_at, section_end, layout_of, whole_of, section_of, words_part, rows_part, state_part, samples_part}
use Rattle.deck.specs.Ranges.{deck_refusal_of}
use Rattle.deck.specs.Layouts.{whole_by, between, refusal_by}
use Rattle.deck.proofs.Laws.{fits, section-end-ge}

-- a section that does not lie within the deck, or ends within its count
pub between_none : (s : List ℕ) (a e : ℕ) → (e ≤ length s → a + 2 ≤ e → ⊥) → between s a e ≡ []
unfolding between
between_none s a e f = go (leb e (length s)) refl (leb (a + 2) e) refl
  where
    go : (t : Bool) → leb e (length s) ≡ t → (u : Bool) → leb (a + 2) e ≡ u → between s a e ≡ []
    go true p true q = absurd (f (leb-true _ _ p) (leb-true _ _ q))
    go true p false q = rw (p, q)
    go false p u q = rw p

by_layout : (s : List ℕ) (a size : ℕ) → whole_of s ≡ true → section_end s a size ≤ length s → between s a (section_end s a size) ≡ section_of s a size
unfolding between section_of section_end
by_layout s a size h l =
    let n : a + 2 + size * count_at s a - (a + 2) ≡ size * count_at s a = omega arith in
    rw (h, le-leb _ _ l, le-leb _ _ (section-end-ge s a size), n)

pub sections-by-layout : (s : List ℕ) → whole_of s ≡ true
    → let l = layout_of s in
    (between s 0 l.rows ≡ words_part s)
    × (between s l.rows l.state ≡ rows_part s)
    × (between s l.state l.samples ≡ state_part s)
    × (between s l.samples l.end ≡ samples_part s)
unfolding layout_of
sections-by-layout s h =
    let l = layout_of s in
    let f = fits s h in
    (by_layout s 0 4 h f.0, by_layout s l.rows 16 h f.1, by_layout s l.state state_bytes h f.2, by_layout s l.samples 4 h f.3)

pub refusal-by-layout : (s : List ℕ) (requests buffer marking : ℕ)
    → refusal_by s (layout_of s) requests buffer marking ≡ deck_refusal_of s requests buffer marking
unfolding refusal_by deck_refusal_of whole_by whole_of
refusal-by-layout s requests buffer marking = go (whole_of s) refl
  where
    go : (t : Bool) → whole_of s ≡ t → refusal_by s (layout_of s) requests buffer marking ≡ deck_refusal_of s requests buffer marking
    go true h = let p = sections-by-layout s h in rw (p.0, p.1, p.2, p.3)
    go false h = rw h
