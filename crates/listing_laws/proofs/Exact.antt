-- Exactly: a case of Told holds of nothing but what is told and written, so no two cases hold at once. Assumes nothing.
use Prim.Native.Nat.{ℕ, zero, suc, ◌+◌, ◌<◌}
use mathlib.Core.Path.{◌≡◌, refl, sym, ◌∙◌, ap}
use mathlib.Core.Bool.{false}
use mathlib.Core.List.{List, [], ◌∷◌}
use mathlib.Core.Logic.{◌↔◌}
use native.Mathlib.Nat.{add-zero}
use native.Mathlib.Omega.{arith}
use borrow.Author.Tests.{eq-eqb, ne_eqb, le-leb, lt-ltb, le-ltb}
use lib.ListN.{length}
use Rattle.forms.specs.Named.{place_from}
use Rattle.line.proofs.Laws.{Number, mnemonic, operand, address, not-zero}
use Rattle.listing.specs.Assembled.{report_of, refusal_from, bytes_of, words_from, assembled_of, assembled_into}
use Rattle.listing.specs.Listed.{word_count, is_whole, text_of, listed_of, listed_into}
use Rattle.listing.specs.declared.Report.{Report}
use Rattle.listing.proofs.Lines.{bytes-told}
use Rattle.pieces.specs.Parts.{lines_of}
use Rattle.pieces.proofs.Laws.{cases}
use Rattle.listing_laws.specs.Refused.{AllGood}
use Rattle.listing_laws.specs.Told.{assembled_bytes, Assembles, None, FirstAt, answers_in, Whole, Lists}
use Rattle.listing_laws.proofs.Refused.{Told, good, bad, told-from, first-bad, all-good, bad-numbers}
use Rattle.listing_laws.proofs.Told.{assembles, lists, answers-length, wholly, all}

-- ---- the assembler

-- what is told of good lines
good-report : (ls : List (List ℕ)) → AllGood 0 ls → refusal_from 1 0 ls ≡ report_of 0 0 (length (bytes_of (words_from 0 ls)))
good-report ls g =
    let zero-told = all-good 1 0 ls g in
    go (told-from 1 0 ls) zero-told ∙ rw (bytes-told ls zero-told)
  where
    go : {r : Report} → Told 1 0 ls r → r.answer ≡ 0 → r ≡ report_of 0 0 r.length
    go (good g n) e = refl
    go (bad k n f) e = absurd (not-zero (bad-numbers 0 ls k n f) e)

pub assembles-only : {text out o : List ℕ} {r : Report} → Assembles text out r o
    → (r ≡ assembled_of text (length out)) × (o ≡ assembled_into text out)
unfolding assembled_of assembled_into
assembles-only {text} (Assembles.bad k n f) =
    let other = ne_eqb n 0 (not-zero (bad-numbers 0 (lines_of text) k n f)) in
    rw (first-bad 1 0 (lines_of text) k n f, other, other) (refl, refl)
assembles-only {text} {out} (Assembles.short g h) =
    rw (good-report (lines_of text) g, lt-ltb (length out) (length (assembled_bytes text)) h) (refl, refl)
assembles-only {text} {out} (Assembles.done g h) =
    rw (good-report (lines_of text) g, le-ltb (length out) (length (assembled_bytes text)) h) (refl, refl)

-- 27 exactly where a good text has too little room
not-27 : {n : ℕ} → Number n → n ≡ 27 → ⊥
not-27 mnemonic e = omega arith
not-27 operand e = omega arith
not-27 address e = omega arith

pub assembles-27 : (text out : List ℕ)
    → ((assembled_of text (length out)).answer ≡ 27) ↔ AllGood 0 (lines_of text) × (length out < length (assembled_bytes text))
assembles-27 text out = (
  go (assembles text out),
  (λ (g, h). sym (ap (λ (r : Report). r.answer) (assembles-only {text = text} {out = out} (Assembles.short g h)).0)),
)
  where
    go : {r : Report} {o : List ℕ} → Assembles text out r o → r.answer ≡ 27 → AllGood 0 (lines_of text) × (length out < length (assembled_bytes text))
    go (Assembles.bad k n f) e = absurd (not-27 (bad-numbers 0 (lines_of text) k n f) e)
    go (Assembles.short g h) e = (g, h)
    go (Assembles.done g h) e = absurd (omega arith)

-- ---- the lister

place_none : (k i : ℕ) (xs : List ℕ) → None k xs → place_from k i xs ≡ i + length xs
place_none k i [] none = sym (add-zero i)
place_none k i (x ∷ xs) none = rw (ne_eqb x k none.0) (omega (arith, place_none k (suc i) xs none.1))

place-first : (k i : ℕ) (xs : List ℕ) (j : ℕ) → FirstAt k xs j → (place_from k i xs ≡ i + j) × (j < length xs)
place-first k i [] j f = absurd f
place-first k i (x ∷ xs) zero f = rw (eq-eqb x k f) (sym (add-zero i), omega arith)
place-first k i (x ∷ xs) (suc j) f =
    let (there, within) = place-first k (suc i) xs j f.1 in
    rw (ne_eqb x k f.0) (omega arith, omega arith)

module _ (s out : List ℕ) where
  -- no word has the number
  past : (k : ℕ) → None k (answers_in s) → place_from k 0 (answers_in s) ≡ word_count s
  past k none = omega (arith, place_none k 0 (answers_in s) none, answers-length s out)

  -- word j is the first that has it
  here : (k j : ℕ) → FirstAt k (answers_in s) j → (place_from k 0 (answers_in s) ≡ j) × (j < word_count s)
  here k j f =
      let (there, within) = place-first k 0 (answers_in s) j f in
      (omega arith, omega (arith, answers-length s out))

-- the test of the length
other_test : (s out : List ℕ) → (Whole s → ⊥) → is_whole s ≡ false
other_test s out other = cases (is_whole s) (λ e. absurd (other (wholly s out e))) (λ e. e)

pub lists-only : {s out o : List ℕ} {r : Report} → Lists s out r o → (r ≡ listed_of s (length out)) × (o ≡ listed_into s out)
unfolding listed_of listed_into
lists-only {s} {out} (Lists.over j two) =
    let (there, within) = here s out 2 j two in
    rw (there, lt-ltb j (word_count s) within) (refl, refl)
lists-only {s} {out} (Lists.other_length none other) = rw (past s out 2 none, all s out, other_test s out other) (refl, refl)
lists-only {s} {out} (Lists.unlisted none whole j six) =
    let (there, within) = here s out 6 j six in
    rw (past s out 2 none, all s out, eq-eqb _ _ whole.0, le-leb _ _ whole.1, there, lt-ltb j (word_count s) within) (refl, refl)
lists-only {s} {out} (Lists.short none whole six h) =
    rw (past s out 2 none, all s out, eq-eqb _ _ whole.0, le-leb _ _ whole.1, past s out 6 six, all s out, lt-ltb _ _ h) (refl, refl)
lists-only {s} {out} (Lists.done none whole six h) =
    rw (past s out 2 none, all s out, eq-eqb _ _ whole.0, le-leb _ _ whole.1, past s out 6 six, all s out, le-ltb _ _ h) (refl, refl)

-- 27 exactly where whole and listed words have too little room
abbrev pub Short : List ℕ → List ℕ → Type 0
Short s out = None 2 (answers_in s) × Whole s × None 6 (answers_in s) × (length out < length (text_of s))

pub lists-27 : (s out : List ℕ) → ((listed_of s (length out)).answer ≡ 27) ↔ Short s out
lists-27 s out = (
  go (lists s out),
  (λ (two, whole, six, h). sym (ap (λ (r : Report). r.answer) (lists-only {s = s} {out = out} (Lists.short two whole six h)).0)),
)
  where
    go : {r : Report} {o : List ℕ} → Lists s out r o → r.answer ≡ 27 → Short s out
    go (Lists.over j f) e = absurd (omega arith)
    go (Lists.other_length two other) e = absurd (omega arith)
    go (Lists.unlisted two whole j f) e = absurd (omega arith)
    go (Lists.short two whole six h) e = (two, whole, six, h)
    go (Lists.done two whole six h) e = absurd (omega arith)
