-- The claims in the words of the contracts: what the assembler and the lister tell and write, each handed what the other wrote. Assumes nothing.
use Prim.Native.Nat.{ℕ, ◌<◌, ◌≤◌}
use mathlib.Core.Path.{◌≡◌, refl, sym, ◌∙◌}
use mathlib.Core.List.{List, [], ◌∷◌, ◌++◌, map}
use mathlib.Core.Logic.{◌↔◌}
use native.Mathlib.Omega.{arith}
use lib.ListN.{length, take, drop}
use lib.Seq.{take-append_seam}
use Rattle.std.specs.Prelude.{Ok, Err}
use Rattle.code.specs.Word.{Apart, apart_of, number_of}
use Rattle.code.specs.declared.Unread.{Unread}
use Rattle.line.proofs.Laws.{not-zero}
use Rattle.numbers.specs.Numbers.{Bytes}
use Rattle.listing.proofs.Laws.{bytes-length}
use Rattle.listing.specs.Assembled.{report_of, assembled_of, assembled_into}
use Rattle.listing.specs.Listed.{words_in, text_of, listed_of, listed_into}
use Rattle.listing.specs.declared.Report.{Report}
use Rattle.pieces.specs.Parts.{lines_of}
use Rattle.listing_laws.specs.Accepted.{Accepted, words_of, Listed}
use Rattle.listing_laws.specs.Fixed.{fixed_of}
use Rattle.listing_laws.specs.Told.{assembled_bytes, Assembles, None, answers_in, Whole, Lists}
use Rattle.listing_laws.proofs.Exact.{lists-only}
use Rattle.listing_laws.proofs.Fixed.{listing-fixed, words-listed, words-most}
use Rattle.listing_laws.proofs.Handed.{words-bytes-words, listed-fitting, listing-assembles, bytes_back}
use Rattle.listing_laws.proofs.Refused.{all-good, bad-numbers}
use Rattle.listing_laws.proofs.Told.{assembles, lists}

-- ---- words are listed where no number is 2 or 6

neither : (a : Apart) → (number_of a ≡ 2 → ⊥) → (number_of a ≡ 6 → ⊥) → number_of a ≡ 0
neither (Ok f) two six = refl
neither (Err Unread.OutOfRange) two six = absurd (two refl)
neither (Err Unread.Unlisted) two six = absurd (six refl)

none-listed : (ws : List ℕ) → None 2 (map (λ w. number_of (apart_of w)) ws) → None 6 (map (λ w. number_of (apart_of w)) ws) → Listed ws
none-listed [] twos sixes = tt
none-listed (w ∷ ws) (two, twos) (six, sixes) = (neither (apart_of w) two six, none-listed ws twos sixes)

listed-none : (k : ℕ) (ws : List ℕ) → (0 ≡ k → ⊥) → Listed ws → None k (map (λ w. number_of (apart_of w)) ws)
listed-none k [] other l = tt
listed-none k (w ∷ ws) other (e, l) = (λ q. other (sym e ∙ q), listed-none k ws other l)

pub listed-exactly : (s : List ℕ) → (None 2 (answers_in s) × None 6 (answers_in s)) ↔ Listed (words_in s)
listed-exactly s = (
  (λ (twos, sixes). none-listed (words_in s) twos sixes),
  (λ l. (listed-none 2 (words_in s) (λ e. omega arith) l, listed-none 6 (words_in s) (λ e. omega arith) l)),
)

-- ---- what was listed is assembled

-- the lister's 0: the words are whole and listed, and their text is what was written
record Listing (s : List ℕ) (r : Report) (o : List ℕ) : Type 0 where
  whole : Whole s
  listed : Listed (words_in s)
  written : take r.length o ≡ text_of s

listing : {s room o : List ℕ} {r : Report} → Lists s room r o → r.answer ≡ 0 → Listing s r o
listing (Lists.over j f) e = absurd (omega arith)
listing (Lists.other_length two other) e = absurd (omega arith)
listing (Lists.unlisted two whole j f) e = absurd (omega arith)
listing (Lists.short two whole six h) e = absurd (omega arith)
listing {s} {room} (Lists.done two whole six h) e =
    record { whole = whole; listed = (listed-exactly s).0 (two, six); written = take-append_seam (text_of s) (drop (length (text_of s)) room) }

-- bytes for which the lister answers 0 when it has the output `room`
module _ (s room : List ℕ) (e : (listed_of s (length room)).answer ≡ 0) where
  done : Listing s (listed_of s (length room)) (listed_into s room)
  done = listing (lists s room) e

  -- what it wrote is their text
  pub text-written : take (listed_of s (length room)).length (listed_into s room) ≡ text_of s
  text-written = done.written

  -- that text assembles to those bytes
  pub listed_back : (out : List ℕ) → Bytes s → length s ≤ length out
      → (assembled_of (text_of s) (length out) ≡ report_of 0 0 (length s)) × (assembled_into (text_of s) out ≡ s ++ drop (length s) out)
  listed_back out b h =
      let (multiple, most) = done.whole in
      (listing-assembles s out b multiple most done.listed h, bytes_back s out b multiple most done.listed h)

-- ---- what was assembled is listed

-- the assembler's 0: the text is accepted, and its words' bytes are what was written
record Assembly (text : List ℕ) (r : Report) (o : List ℕ) : Type 0 where
  accepted : Accepted text
  written : take r.length o ≡ assembled_bytes text

assembly : {text room o : List ℕ} {r : Report} → Assembles text room r o → r.answer ≡ 0 → Assembly text r o
assembly {text} (Assembles.bad k n f) e = absurd (not-zero (bad-numbers 0 (lines_of text) k n f) e)
assembly (Assembles.short g h) e = absurd (omega arith)
assembly {text} {room} (Assembles.done g h) e =
    record { accepted = all-good 1 0 (lines_of text) g; written = take-append_seam (assembled_bytes text) (drop (length (assembled_bytes text)) room) }

module _ (text : List ℕ) (b : Bytes text) (accepted : Accepted text) where
  same-words : words_in (assembled_bytes text) ≡ words_of text
  same-words = words-bytes-words (words_of text) (listed-fitting (words_of text) (words-listed text accepted)) (words-most text accepted)

  -- the text of the words is the fixed spelling
  same_text : text_of (assembled_bytes text) ≡ fixed_of text
  same_text = rw same-words (listing-fixed text accepted b)

  whole : Whole (assembled_bytes text)
  whole =
      let size = bytes-length (words_of text) in
      (omega arith, omega (arith, words-most text accepted))

  none : None 2 (answers_in (assembled_bytes text)) × None 6 (answers_in (assembled_bytes text))
  none = (listed-exactly (assembled_bytes text)).1 (rw same-words (words-listed text accepted))

  -- "listing what an accepted text assembles to gives its fixed spelling"
  pub fixed-listed : (out : List ℕ) → length (fixed_of text) ≤ length out
      → (listed_of (assembled_bytes text) (length out) ≡ report_of 0 0 (length (fixed_of text)))
      × (listed_into (assembled_bytes text) out ≡ fixed_of text ++ drop (length (fixed_of text)) out)
  fixed-listed out h =
      let (told, written) = lists-only {s = assembled_bytes text} {out = out} (Lists.done none.0 whole none.1 (rw same_text h)) in
      rw (← told, ← written, same_text) (refl, refl)

  -- or what it needs, where there is room for less
  pub fixed-short : (out : List ℕ) → length out < length (fixed_of text)
      → (listed_of (assembled_bytes text) (length out) ≡ report_of 27 0 (length (fixed_of text))) × (listed_into (assembled_bytes text) out ≡ out)
  fixed-short out h =
      let (told, written) = lists-only {s = assembled_bytes text} {out = out} (Lists.short none.0 whole none.1 (rw same_text h)) in
      rw (← told, ← written, same_text) (refl, refl)

-- a text for which the assembler answers 0 when it has the output `room`
module _ (text room : List ℕ) (e : (assembled_of text (length room)).answer ≡ 0) where
  pub text-accepted : Accepted text
  text-accepted = (assembly (assembles text room) e).accepted

  pub bytes-written : take (assembled_of text (length room)).length (assembled_into text room) ≡ assembled_bytes text
  bytes-written = (assembly (assembles text room) e).written
