-- What is told and written is one of the cases of Told, for every text, all words and every output.
use Prim.Native.Nat.{ℕ, zero, suc, ◌+◌, ◌<◌}
use mathlib.Core.Path.{◌≡◌, refl, ap, ◌∙◌}
use mathlib.Core.Bool.{Bool, true, false}
use mathlib.Core.List.{List, [], ◌∷◌}
use native.Mathlib.Nat.{add-zero, zero-add}
use native.Mathlib.Omega.{arith}
use borrow.Author.Tests.{ltb-true, ltb-false, leb-true, eqb-true, eqb-false, eq-eqb, le-leb, lt-ltb, le-ltb}
use lib.Dec.{eqb, ltb}
use lib.ListN.{length, length-map}
use Rattle.choose.specs.Ranged.{pick}
use Rattle.choose.proofs.Tests.{both_true}
use Rattle.line.proofs.Laws.{Number, mnemonic, operand, address}
use Rattle.numbers.specs.Numbers.{word_at}
use Rattle.code.specs.Word.{apart_of, number_of}
use Rattle.forms.specs.Named.{place_from}
use Rattle.listing.proofs.Laws.{length-firsts}
use Rattle.listing.specs.Assembled.{report_of, roomed, written_if, refusal_from, assembled_of, assembled_into}
use Rattle.listing.specs.Listed.{word_count, words_in, is_whole, text_of, listed_of, listed_into}
use Rattle.listing.specs.declared.Report.{Report}
use Rattle.listing.proofs.Lines.{bytes-told}
use Rattle.pieces.specs.Parts.{lines_of}
use Rattle.listing_laws.specs.Refused.{AllGood, FirstBad}
use Rattle.listing_laws.specs.Told.{assembled_bytes, Assembles, None, FirstAt, answers_in, Whole, Lists}
use Rattle.listing_laws.proofs.Refused.{Told, good, bad, told-from, bad-numbers}

-- where a number first stands in a list
pub data Place (k i : ℕ) (xs : List ℕ) : ℕ → Type 0 where
  nowhere : None k xs → Place k i xs (i + length xs)
  at : (j : ℕ) → j < length xs → FirstAt k xs j → Place k i xs (i + j)

pub place : (k i : ℕ) (xs : List ℕ) → Place k i xs (place_from k i xs)
place k i [] = let p : Place k i [] (i + 0) = nowhere tt in rw add-zero at p
place k i (x ∷ xs) = go (eqb x k) refl (place k (suc i) xs)
  where
    after : (x ≡ k → ⊥) → {p : ℕ} → Place k (suc i) xs p → Place k i (x ∷ xs) p
    after h (nowhere none) =
        let e : i + suc (length xs) ≡ suc i + length xs = omega arith in
        let p : Place k i (x ∷ xs) (i + suc (length xs)) = nowhere (h, none) in
        rw e at p
    after h (at j l f) =
        let e : i + suc j ≡ suc i + j = omega arith in
        let p : Place k i (x ∷ xs) (i + suc j) = at (suc j) (omega arith) (h, f) in
        rw e at p

    go : (t : Bool) → eqb x k ≡ t → Place k (suc i) xs (place_from k (suc i) xs) → Place k i (x ∷ xs) (pick t i (place_from k (suc i) xs))
    go true e p = let q : Place k i (x ∷ xs) (i + 0) = at zero (omega arith) (eqb-true x k e) in rw add-zero at q
    go false e p = after (eqb-false x k e) p

module _ (s out : List ℕ) where
  pub answers-length : length (answers_in s) ≡ word_count s
  answers-length = length-map (words_in s) (λ w. number_of (apart_of w)) ∙ length-firsts (word_at s) 0 (word_count s)

  -- what is told, by the places of a 2 and of a 6 and the test of the length
  by_places : ℕ → Bool → ℕ → Report
  by_places p t q =
      pick (ltb p (word_count s))
      (report_of 2 p 0)
      (pick t
      (pick (ltb q (word_count s)) (report_of 6 q 0) (roomed (length out) (report_of 0 0 (length (text_of s)))))
      (report_of 2 2048 0))

  pub wholly : is_whole s ≡ true → Whole s
  wholly e = let (a, b) = both_true _ _ e in (eqb-true _ _ a, leb-true _ _ b)

  not-wholly : is_whole s ≡ false → Whole s → ⊥
  not-wholly e (a, b) =
      let t : true ≡ false = rw (eq-eqb _ _ a, le-leb _ _ b) at e in
      let z : ◌≡◌ {A = ℕ} 0 1 = cc in
      omega arith

  room : None 2 (answers_in s) → Whole s → None 6 (answers_in s) → (t : Bool) → ltb (length out) (length (text_of s)) ≡ t
      → (let r : Report = pick t (report_of 27 0 (length (text_of s))) (report_of 0 0 (length (text_of s))) in Lists s out r (written_if r (text_of s) out))
  room a b c true e = Lists.short a b c (ltb-true _ _ e)
  room a b c false e = Lists.done a b c (ltb-false _ _ e)

  pub all : ltb (word_count s) (word_count s) ≡ false
  all = le-ltb (word_count s) (word_count s) (omega arith)

  by_whole : None 2 (answers_in s) → (t : Bool) → is_whole s ≡ t → {q : ℕ} → Place 6 0 (answers_in s) q
      → Lists s out (by_places (word_count s) t q) (written_if (by_places (word_count s) t q) (text_of s) out)
  unfolding by_places
  by_whole none false e q = rw (all) (Lists.other_length none (not-wholly e))
  by_whole none true e (nowhere six) =
      rw (zero-add, answers-length, all) (room none (wholly e) six (ltb (length out) (length (text_of s))) refl)
  by_whole none true e (at j l six) =
      let there : ltb j (word_count s) ≡ true = lt-ltb j (word_count s) (omega (arith, answers-length)) in
      rw (all, zero-add, there) (Lists.unlisted none (wholly e) j six)

  over-at : (j q : ℕ) → FirstAt 2 (answers_in s) j → j < word_count s
      → Lists s out (by_places j (is_whole s) q) (written_if (by_places j (is_whole s) q) (text_of s) out)
  unfolding by_places
  over-at j q two h = rw (lt-ltb j (word_count s) h) (Lists.over j two)

  by_over : {p q : ℕ} → Place 2 0 (answers_in s) p → Place 6 0 (answers_in s) q
      → Lists s out (by_places p (is_whole s) q) (written_if (by_places p (is_whole s) q) (text_of s) out)
  by_over (nowhere none) q = rw (zero-add, answers-length) (by_whole none (is_whole s) refl q)
  by_over {p} {q} (at j l two) six = rw (zero-add) (over-at j q two (omega (arith, answers-length)))

  pub lists : Lists s out (listed_of s (length out)) (listed_into s out)
  unfolding listed_of listed_into by_places
  lists = by_over (place 2 0 (answers_in s)) (place 6 0 (answers_in s))

module _ (text out : List ℕ) where
  -- a refused text, whatever the room
  refused : (k n : ℕ) → Number n → FirstBad 0 (lines_of text) k n
      → (let r : Report = roomed (length out) (report_of n (1 + k) 0) in Assembles text out r (written_if r (assembled_bytes text) out))
  refused k _ mnemonic f = Assembles.bad k 10 f
  refused k _ operand f = Assembles.bad k 11 f
  refused k _ address f = Assembles.bad k 12 f

  -- a good one, by the room
  accepted : AllGood 0 (lines_of text) → (t : Bool) → ltb (length out) (length (assembled_bytes text)) ≡ t
      → (let r : Report = pick t (report_of 27 0 (length (assembled_bytes text))) (report_of 0 0 (length (assembled_bytes text))) in
      Assembles text out r (written_if r (assembled_bytes text) out))
  accepted g true e = Assembles.short g (ltb-true _ _ e)
  accepted g false e = Assembles.done g (ltb-false _ _ e)

  by-told : (r : Report) → refusal_from 1 0 (lines_of text) ≡ r → Told 1 0 (lines_of text) r
      → Assembles text out (roomed (length out) r) (written_if (roomed (length out) r) (assembled_bytes text) out)
  by-told _ e (bad k n f) = refused k n (bad-numbers 0 (lines_of text) k n f) f
  by-told _ e (good g n) =
      let m : n ≡ length (assembled_bytes text) = omega (arith, bytes-told (lines_of text) (ap (λ r. r.answer) e), ap (λ r. r.length) e) in
      rw m (accepted g (ltb (length out) (length (assembled_bytes text))) refl)

  pub assembles : Assembles text out (assembled_of text (length out)) (assembled_into text out)
  unfolding assembled_of assembled_into
  assembles = by-told (refusal_from 1 0 (lines_of text)) refl (told-from 1 0 (lines_of text))
