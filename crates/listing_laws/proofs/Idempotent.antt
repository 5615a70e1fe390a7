-- The fixed spelling of an accepted text is accepted, has the same words, a line for each, and is its own fixed spelling. Assumes nothing.
use Prim.Native.Nat.{ℕ, suc, ◌+◌, ◌%◌, ◌<◌}
use mathlib.Core.Path.{◌≡◌, sym, ◌∙◌}
use mathlib.Core.Bool.{Bool}
use mathlib.Core.List.{List, [], ◌∷◌}
use native.Mathlib.Omega.{arith}
use lib.Dec.{eqb, ltb}
use lib.ListN.{length}
use Rattle.std.specs.Prelude.{Ok, Err}
use Rattle.choose.specs.Ranged.{pick}
use Rattle.choose.proofs.Choice.{pick_all}
use Rattle.code.specs.Word.{Apart, apart_of}
use Rattle.code.specs.declared.Unread.{Unread}
use Rattle.code.specs.declared.Fields.{Fields}
use Rattle.forms.specs.declared.Form.{Form}
use Rattle.listing.specs.Listed.{apart_line, word_line, listing_from}
use Rattle.numbers.specs.Numbers.{Bytes}
use Rattle.numbers.proofs.Laws.{append-bytes}
use Rattle.pieces.specs.Parts.{lines_of}
use Rattle.spelling.specs.Spelling.{hex_digit, digit_if, digits_of, letter_if, letters_of, operand_of, operands_of, mark_of, marks_of, spelled_of}
use Rattle.listing_laws.specs.Accepted.{Accepted, words_of}
use Rattle.listing_laws.specs.Fixed.{fixed_of}
use Rattle.listing_laws.proofs.Fixed.{listing-fixed, words-listed, words-most}
use Rattle.listing_laws.proofs.There.{words_back, listing-accepted, one-line-each}

-- ---- a listing is bytes
if-bytes : (t : Bool) (bs : List ℕ) → Bytes bs → Bytes (pick t bs [])
if-bytes t bs b = pick_all Bytes t bs [] b tt

digit-bytes : (t : Bool) (n : ℕ) → Bytes (digit_if t n)
unfolding hex_digit
digit-bytes t n =
    if-bytes t (hex_digit n ∷ []) (pick_all (λ x. x < 256) (ltb (n % 0x10) 10) (0x30 + n % 0x10) (0x37 + n % 0x10) (omega arith) (omega arith), tt)

digits-bytes : (k n : ℕ) → Bytes (digits_of k n)
unfolding digits_of
digits-bytes k n = search (append-bytes, digit-bytes)

letter-bytes : (c : ℕ) → Bytes (letter_if c)
letter-bytes c = pick_all Bytes (eqb (c % 0x100) 0x20) [] (c % 0x100 ∷ []) tt (omega arith)

letters-bytes : (name : ℕ) → Bytes (letters_of name)
unfolding letters_of
letters-bytes name = search (append-bytes, letter-bytes)

operand-bytes : (t : Bool) (k n : ℕ) → Bytes (operand_of t k n)
operand-bytes t k n = if-bytes t (0x20 ∷ digits_of k n) (omega arith, digits-bytes k n)

operands-bytes : (form : Form) (low : ℕ) → Bytes (operands_of form low)
unfolding operands_of
operands-bytes form low = search (append-bytes, operand-bytes)

mark-bytes : (t : Bool) (name : ℕ) → Bytes (mark_of t name)
mark-bytes t name = if-bytes t (0x20 ∷ letters_of name) (omega arith, letters-bytes name)

marks-bytes : (f : Fields) → Bytes (marks_of f)
unfolding marks_of
marks-bytes f = search (append-bytes, mark-bytes)

line-bytes : (address : ℕ) (f : Fields) → Bytes (spelled_of address f)
unfolding spelled_of
line-bytes address f =
    let space : Bytes (0x20 ∷ []) = omega arith in
    let newline : Bytes (0x0A ∷ []) = omega arith in
    search (append-bytes, digits-bytes, letters-bytes, operands-bytes, marks-bytes, space, newline) depth 8

word_bytes : (address w : ℕ) → Bytes (word_line address w)
unfolding word_line
word_bytes address w = go (apart_of w)
  where
    go : (r : Apart) → Bytes (apart_line address r)
    go (Ok f) = line-bytes address f
    go (Err Unread.OutOfRange) = tt
    go (Err Unread.Unlisted) = tt

pub listing-bytes : (address : ℕ) (ws : List ℕ) → Bytes (listing_from address ws)
unfolding listing_from
listing-bytes address [] = tt
listing-bytes address (w ∷ ws) = append-bytes (word_line address w) _ (word_bytes address w) (listing-bytes (suc address) ws)

-- ---- the fixed spelling of an accepted text
module _ (text : List ℕ) (bytes : Bytes text) (accepted : Accepted text) where
  is-listing : listing_from 0 (words_of text) ≡ fixed_of text
  is-listing = listing-fixed text accepted bytes

  -- it is accepted
  pub fixed-accepted : Accepted (fixed_of text)
  fixed-accepted = rw (← is-listing, listing-accepted (words_of text) (words-listed text accepted) (words-most text accepted))

  -- assembles to the same words
  pub fixed-words : words_of (fixed_of text) ≡ words_of text
  fixed-words = rw (← is-listing) (words_back (words_of text) (words-listed text accepted) (words-most text accepted))

  -- has a line for each
  pub fixed-lines : length (lines_of (fixed_of text)) ≡ length (words_of text)
  fixed-lines = rw (← is-listing) (one-line-each (words_of text) (words-listed text accepted) (words-most text accepted))

  pub fixed-bytes : Bytes (fixed_of text)
  fixed-bytes = rw is-listing at (listing-bytes 0 (words_of text))

  -- and is its own fixed spelling
  pub fixed-fixed : fixed_of (fixed_of text) ≡ fixed_of text
  fixed-fixed = sym (listing-fixed (fixed_of text) fixed-accepted fixed-bytes) ∙ rw fixed-words is-listing
