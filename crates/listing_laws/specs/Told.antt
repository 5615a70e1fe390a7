-- What the assembler and the lister tell, and what their output holds: one case for each answer, in the order of the paper. One holds (`assembles`, `lists`),
-- and it holds of nothing else (`assembles-only`, `lists-only`).
use Rattle.std.specs.Prelude.{ℕ, zero, suc, ◌+◌, ◌%◌, ◌<◌, ◌≤◌, ◌≡◌, List, [], ◌∷◌, ◌++◌, map, length, drop}
use Rattle.code.specs.Word.{apart_of, number_of}
use Rattle.listing.specs.Assembled.{report_of, bytes_of, words_from}
use Rattle.listing.specs.Listed.{words_in, text_of}
use Rattle.listing.specs.declared.Report.{Report}
use Rattle.pieces.specs.Parts.{lines_of}
use Rattle.listing_laws.specs.Refused.{AllGood, FirstBad}

-- the bytes of a text's words
abbrev pub assembled_bytes : List ℕ → List ℕ
assembled_bytes text = bytes_of (words_from 0 (lines_of text))

-- "10 .. 11 .. 12 .. in that order, with the first bad line"; "27 output too short, nothing written"
pub data Assembles (text out : List ℕ) : Report → List ℕ → Type 0 where
  bad : (k n : ℕ) → FirstBad 0 (lines_of text) k n → Assembles text out (report_of n (1 + k) 0) out
  short : AllGood 0 (lines_of text) → length out < length (assembled_bytes text)
      → Assembles text out (report_of 27 0 (length (assembled_bytes text))) out
  done : AllGood 0 (lines_of text) → length (assembled_bytes text) ≤ length out
      → Assembles text out (report_of 0 0 (length (assembled_bytes text))) (assembled_bytes text ++ drop (length (assembled_bytes text)) out)

-- no number of a list is k
abbrev pub None : ℕ → List ℕ → Type 0
None k [] = Unit {0}
None k (x ∷ xs) = (x ≡ k → ⊥) × None k xs

-- number j, counted from 0, is k, and none before it is
abbrev pub FirstAt : ℕ → List ℕ → ℕ → Type 0
FirstAt k [] j = ⊥
FirstAt k (x ∷ xs) zero = x ≡ k
FirstAt k (x ∷ xs) (suc j) = (x ≡ k → ⊥) × FirstAt k xs j

-- of each whole word among the first 2,048: 2 where it is 2^22 or more, 6 where it is unlisted, else 0
abbrev pub answers_in : List ℕ → List ℕ
answers_in s = map (λ w. number_of (apart_of w)) (words_in s)

abbrev pub Whole : List ℕ → Type 0
Whole s = (length s % 4 ≡ 0) × (length s ≤ 8192)

-- "the lister gives 2, then 6 for the first unlisted word; 27 output too short, nothing written"
pub data Lists (s out : List ℕ) : Report → List ℕ → Type 0 where
  over : (j : ℕ) → FirstAt 2 (answers_in s) j → Lists s out (report_of 2 j 0) out
  other_length : None 2 (answers_in s) → (Whole s → ⊥) → Lists s out (report_of 2 2048 0) out
  unlisted : None 2 (answers_in s) → Whole s → (j : ℕ) → FirstAt 6 (answers_in s) j → Lists s out (report_of 6 j 0) out
  short : None 2 (answers_in s) → Whole s → None 6 (answers_in s) → length out < length (text_of s)
      → Lists s out (report_of 27 0 (length (text_of s))) out
  done : None 2 (answers_in s) → Whole s → None 6 (answers_in s) → length (text_of s) ≤ length out
      → Lists s out (report_of 0 0 (length (text_of s))) (text_of s ++ drop (length (text_of s)) out)
