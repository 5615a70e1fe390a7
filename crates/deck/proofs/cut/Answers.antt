-- The sections one after the other, by their places in the deck.
use mathlib.Core.Bool.{false≢true, ◌&&◌}
use lib.Seq.{drop-drop}
use borrow.Author.Tests.{eq-eqb, ne_eqb, eqb-true}
use Rattle.std.proofs.Common.{◌≡◌, ◌∙◌, ◌+◌, ◌-◌, ◌*◌, ◌<◌, ◌≤◌, Bool, true, false, List, ℕ, length, take}
use Rattle.std.proofs.Common.{drop, refl, sym, ap, arith, eqb, leb, add-zero, length-take, length-drop, get_or-drop, MatchOption}
use Rattle.std.specs.Bool.{then_some}
use Rattle.state_bytes.specs.Bytes.{state_bytes}
use Rattle.deck.specs.declared.Deck.{Deck}
use Rattle.deck.specs.Parts.{IsCut}
use Rattle.deck.specs.Sections.{count_at, section_end, layout_of, part_of, whole_of, section_of}
use Rattle.deck.proofs.Laws.{fits}
use Rattle.deck.proofs.cut.Goals as goal

-- a section of the deck s that starts at byte a, and what comes after it
record Section (s : List ℕ) (a size : ℕ) (part rest : List ℕ) : Type 0 where
  within : section_end s a size ≤ length s
  part-is : part ≡ part_of s a size
  rest-is : rest ≡ drop (section_end s a size) s

module _ (s rest : List ℕ) (a size : ℕ) (l : a ≤ length s) (e : rest ≡ drop a s) where
  count : count_at rest 0 ≡ count_at s a
  count = rw (e, get_or-drop a s 0 0, get_or-drop a s 1 0, add-zero a)

  left : length rest + a ≡ length s
  left = rw e (omega (arith, length-drop a s))

  later : (part next : List ℕ) → (section_end rest 0 size ≤ length rest) × (part ≡ part_of rest 0 size) × (next ≡ drop (section_end rest 0 size) rest)
      → Section s a size part next
  unfolding section_end
  later part next h =
      let n = size * count_at s a in
      let within = rw count at h.0 in
      let after : a + (2 + n) ≡ a + 2 + n = omega arith in
      record {
        within = omega (arith, within, left);
        part-is = h.1 ∙ rw (count, e) (ap (take n) (drop-drop 2 a s));
        rest-is = h.2 ∙ rw (count, e) (drop-drop (2 + n) a s ∙ ap (λ (i : ℕ). drop i s) after);
      }

  past : length rest < section_end rest 0 size → length s < section_end s a size
  unfolding section_end
  past h = let more = rw count at h in omega (arith, more, left)

not_whole : (s : List ℕ) → (whole_of s ≡ true → ⊥) → whole_of s ≡ false
not_whole s f = go (whole_of s) refl
  where
    go : (t : Bool) → whole_of s ≡ t → t ≡ false
    go true h = absurd (f h)
    go false h = refl

same_test : (a b i j : ℕ) → (a ≡ b → i ≡ j) → (i ≡ j → a ≡ b) → eqb a b ≡ eqb i j
same_test a b i j f g = go (eqb a b) refl
  where
    go : (t : Bool) → eqb a b ≡ t → t ≡ eqb i j
    go true e = sym (eq-eqb i j (f (eqb-true a b e)))
    go false e = sym (ne_eqb i j (λ h. false≢true (sym e ∙ eq-eqb a b (g h))))

module _ (s words rows state samples r1 r2 r3 r4 : List ℕ)
    (one : Section s 0 4 words r1)
    (two : Section s (layout_of s).rows 16 rows r2)
    (three : Section s (layout_of s).state state_bytes state r3)
    (four : Section s (layout_of s).samples 4 samples r4)
  where
    tests : leb (length s) 65536 && eqb (length state) state_bytes && eqb (length r4) 0 ≡ whole_of s
    unfolding layout_of whole_of section_end
    tests =
        let within = three.within in
        let end = four.within in
        let size : length state ≡ state_bytes * count_at s (layout_of s).state = ap length three.part-is ∙ simp (length-take, length-drop) (omega arith) in
        let left : length r4 ≡ length s - (layout_of s).end = ap length four.rest-is ∙ length-drop (layout_of s).end s in
        rw (
          same_test (length state) state_bytes (count_at s (layout_of s).state) 1 (λ e. omega arith) (λ e. omega arith),
          same_test (length r4) 0 (layout_of s).end (length s) (λ e. omega arith) (λ e. omega arith),
        )

    parts_are : (d : Deck) → d.words.now ≡ words → d.rows.now ≡ rows → d.state.now ≡ state → d.samples.now ≡ samples → whole_of s ≡ true → IsCut d s
    unfolding section_of
    parts_are d w r t m h = record {
      words = w ∙ one.part-is ∙ rw h;
      rows = r ∙ two.part-is ∙ rw h;
      state = t ∙ three.part-is ∙ rw h;
      samples = m ∙ four.part-is ∙ rw h;
    }

answered : (s : List ℕ) (d : Deck) (t : Bool) → t ≡ whole_of s → (whole_of s ≡ true → IsCut d s)
    → MatchOption (then_some t d) (whole_of s ≡ false) (λ p. (whole_of s ≡ true) × IsCut p s)
answered s d true e f = (sym e, f (sym e))
answered s d false e f = sym e

pub returns-in_err-words : goal.returns-in_err-words
returns-in_err-words c =
    let s = c.args.deck.now in
    rw c.from_residual.ensures (not_whole s (λ h. omega (arith, (fits s h).0, c.in_err-words.ensures)))

pub returns-in_err-rows : goal.returns-in_err-rows
unfolding layout_of
returns-in_err-rows c =
    let s = c.args.deck.now in
    let words = c.in_ok-words.ensures in
    let beyond = past s c.in_ok-words.rest.now (layout_of s).rows 16 words.0 words.2 c.in_err-rows.ensures in
    rw c.from_residual-in_err-rows.ensures (not_whole s (λ h. omega (arith, (fits s h).1, beyond)))

pub returns-in_err-state : goal.returns-in_err-state
unfolding layout_of
returns-in_err-state c =
    let s = c.args.deck.now in
    let words = c.in_ok-words.ensures in
    let rows = later s c.in_ok-words.rest.now (layout_of s).rows 16 words.0 words.2 _ _ c.in_ok-rows.ensures in
    let beyond = past s c.in_ok-rows.rest.now (layout_of s).state state_bytes rows.within rows.rest-is c.in_err-state.ensures in
    rw c.from_residual-in_err-state.ensures (not_whole s (λ h. omega (arith, (fits s h).2, beyond)))

pub returns-in_err-samples : goal.returns-in_err-samples
unfolding layout_of
returns-in_err-samples c =
    let s = c.args.deck.now in
    let words = c.in_ok-words.ensures in
    let rows = later s c.in_ok-words.rest.now (layout_of s).rows 16 words.0 words.2 _ _ c.in_ok-rows.ensures in
    let state = later s c.in_ok-rows.rest.now (layout_of s).state state_bytes rows.within rows.rest-is _ _ c.in_ok-state.ensures in
    let beyond = past s c.in_ok-state.rest.now (layout_of s).samples 4 state.within state.rest-is c.in_err-samples.ensures in
    rw c.from_residual-in_err-samples.ensures (not_whole s (λ h. omega (arith, (fits s h).3, beyond)))

pub returns : goal.returns
unfolding layout_of
returns c =
    let s = c.args.deck.now in
    let words = c.in_ok-words.ensures in
    let first : Section s 0 4 c.in_ok-words.words.now c.in_ok-words.rest.now = record { within = words.0; part-is = words.1; rest-is = words.2 } in
    let rows = later s c.in_ok-words.rest.now (layout_of s).rows 16 words.0 words.2 _ _ c.in_ok-rows.ensures in
    let state = later s c.in_ok-rows.rest.now (layout_of s).state state_bytes rows.within rows.rest-is _ _ c.in_ok-state.ensures in
    let samples = later s c.in_ok-state.rest.now (layout_of s).samples 4 state.within state.rest-is _ _ c.in_ok-samples.ensures in
    rw (c.then_some.ensures, c.is_empty.ensures)
    (answered s _ _ (tests s _ _ _ _ _ _ _ _ first rows state samples) (parts_are s _ _ _ _ _ _ _ _ first rows state samples _ refl refl refl refl))
