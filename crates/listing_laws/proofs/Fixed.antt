-- Listing the words of an accepted text gives its fixed spelling, with gaps filled; those words are listed, and fit the memory.
-- Assumes nothing.
use Prim.Native.Nat.{ℕ, zero, suc, ◌+◌, ◌-◌, ◌≤◌, ◌<◌}
use mathlib.Core.Path.{◌≡◌, refl, sym, ◌∙◌, ap}
use mathlib.Core.Bool.{Bool, true, false}
use mathlib.Core.List.{List, [], ◌∷◌, ◌++◌, append_assoc}
use native.Mathlib.Nat.{add-zero, add-suc, suc-add}
use native.Mathlib.Numerals.{add-one}
use native.Mathlib.Omega.{arith}
use lib.Dec.{eqb}
use lib.ListN.{length, replicate}
use Rattle.std.specs.Prelude.{Ok}
use Rattle.choose.specs.Ranged.{pick, ranged}
use Rattle.code.specs.CodeRows.{class_of}
use Rattle.code.specs.Word.{apart_of, number_of, fields_in, operands_in}
use Rattle.code.specs.declared.Class.{Class}
use Rattle.code.specs.declared.Fields.{Fields}
use Rattle.code.specs.declared.Operands.{Operands}
use Rattle.forms.specs.Forms.{form_of, spare_of, first_of, second_of}
use Rattle.forms.specs.Named.{twinned, odd_of}
use Rattle.listing.specs.Assembled.{refusal_from, words_from}
use Rattle.listing.specs.Listed.{word_line, listing_from}
use Rattle.listing.specs.declared.Report.{Report}
use Rattle.listing.proofs.Lines.{lines-counted}
use Rattle.names.specs.Mnemonics.{mnemonic_of, letters_from}
use Rattle.numbers.specs.Numbers.{Bytes}
use Rattle.pieces.specs.Parts.{ahead, parts_of, lines_of, filled, pieces_of}
use Rattle.pieces.proofs.Laws.{Pieces, all-pieces}
use Rattle.spelling.specs.Spelling.{digits_of, letters_of, operands_of, marks_of, spelled_of}
use Rattle.listing_laws.specs.Accepted.{Accepted, words_of, Listed}
use Rattle.listing_laws.specs.Refused.{AllGood}
use Rattle.listing_laws.specs.Fixed.{line_fixed, gap_fixed, fixed_from, fixed_of}
use Rattle.listing_laws.proofs.MarksFixed.{Plain}
use Rattle.listing_laws.proofs.LineFixed.{comes-apart, line-respelled}
use Rattle.listing_laws.proofs.Refused.{Told, good, bad, told-from, bad-numbers}
use Rattle.line.proofs.Laws.{not-zero, taken}

-- ---- the bytes of a text's lines, and of a line's pieces
abbrev AllBytes : List (List ℕ) → Type 0
AllBytes [] = Unit {0}
AllBytes (p ∷ ps) = Bytes p × AllBytes ps

ahead-bytes : (c : ℕ) (ps : List (List ℕ)) → c < 256 → AllBytes ps → AllBytes (ahead c ps)
ahead-bytes c [] h b = ((h, tt), tt)
ahead-bytes c (p ∷ ps) h b = ((h, b.0), b.1)

parts-bytes : (mark : ℕ) (t : List ℕ) → Bytes t → AllBytes (parts_of mark t)
unfolding parts_of
parts-bytes mark [] b = tt
parts-bytes mark (c ∷ t) b = go (eqb c mark) (parts-bytes mark t b.1)
  where
    go : (e : Bool) → AllBytes (parts_of mark t) → AllBytes (pick e ([] ∷ parts_of mark t) (ahead c (parts_of mark t)))
    go true others = (tt, others)
    go false others = ahead-bytes c (parts_of mark t) b.0 others

filled-bytes : (ps : List (List ℕ)) → AllBytes ps → AllBytes (filled ps)
filled-bytes [] b = tt
filled-bytes ([] ∷ ps) b = filled-bytes ps b.1
filled-bytes ((c ∷ p) ∷ ps) b = (b.0, filled-bytes ps b.1)

-- the pieces of a line
plain : (ps : List (List ℕ)) → AllBytes ps → Pieces ps → Plain ps
plain [] b h = tt
plain (p ∷ ps) b h = (b.0, h.1, plain ps b.1 h.2)

plain-line : (l : List ℕ) → Bytes l → Plain (pieces_of l)
unfolding pieces_of
plain-line l b = plain (pieces_of l) (filled-bytes (parts_of 32 l) (parts-bytes 32 l b)) (all-pieces l)

-- ---- gaps

-- FF00 is a NOP without operands and marks
abbrev nop : Fields
nop = record { code = 0xFF; class = Class.Register; operands = Operands.Two 0 0; load_rr = false; rni = false; user = 0 }

gap-apart : apart_of 0xFF00 ≡ Ok nop
unfolding apart_of fields_in operands_in class_of ranged
gap-apart = refl

gap-listed : number_of (apart_of 0xFF00) ≡ 0
gap-listed = ap number_of gap-apart

gap-line : (i : ℕ) → word_line i 0xFF00 ≡ digits_of 3 i ++ (0x20 ∷ []) ++ letters_of (letters_from 0 4 "NOP") ++ (0x0A ∷ [])
unfolding word_line spelled_of digits_of letters_of mnemonic_of operands_of form_of spare_of first_of second_of marks_of odd_of twinned class_of ranged
gap-line i = rw gap-apart

gap-listing : (n i : ℕ) (ws : List ℕ) → listing_from i (replicate n 0xFF00 ++ ws) ≡ gap_fixed i n ++ listing_from (i + n) ws
unfolding listing_from gap_fixed
gap-listing zero i ws = rw (add-zero i)
gap-listing (suc n) i ws =
    let next : suc i + n ≡ i + suc n = suc-add i n ∙ sym (add-suc i n) in
    rw (gap-listing n (suc i) ws, next, ← gap-line i) (sym (append_assoc (word_line i 0xFF00) (gap_fixed (suc i) n) (listing_from (i + suc n) ws)))

gaps-listed : (n : ℕ) (ws : List ℕ) → Listed ws → Listed (replicate n 0xFF00 ++ ws)
gaps-listed zero ws h = h
gaps-listed (suc n) ws h = (gap-listed, gaps-listed n ws h)

-- ---- lines

-- an accepted text has good lines only
accepted-good : (line next : ℕ) (ls : List (List ℕ)) → (refusal_from line next ls).answer ≡ 0 → AllGood next ls
accepted-good line next ls e = go (told-from line next ls) e
  where
    go : {r : Report} → Told line next ls r → r.answer ≡ 0 → AllGood next ls
    go (good g n) e = g
    go (bad k n f) e = absurd (not-zero (bad-numbers next ls k n f) e)

lines-fixed : (next : ℕ) (ls : List (List ℕ)) → AllGood next ls → AllBytes ls → listing_from next (words_from next ls) ≡ fixed_from next ls
unfolding listing_from words_from fixed_from
lines-fixed next [] g b = refl
lines-fixed next (l ∷ ls) (a, w, e, g) b =
    let t = taken next (pieces_of l) a w e in
    let back : next + (a - next) ≡ a = omega (arith, t.rising) in
    let line = line-respelled next (pieces_of l) a w t (plain-line l b.0) in
    rw (e, gap-listing (a - next) next (w ∷ words_from (a + 1) ls), back, t.address, line, ← add-one a, lines-fixed (a + 1) ls g b.1)
    (sym (append_assoc (gap_fixed next (a - next)) (line_fixed (pieces_of l)) (fixed_from (a + 1) ls)))

lines-listed : (next : ℕ) (ls : List (List ℕ)) → AllGood next ls → Listed (words_from next ls)
unfolding words_from
lines-listed next [] g = tt
lines-listed next (l ∷ ls) (a, w, e, g) =
    let apart = comes-apart next (pieces_of l) a w (taken next (pieces_of l) a w e) in
    rw e (gaps-listed (a - next) (w ∷ words_from (a + 1) ls) (ap number_of apart, lines-listed (a + 1) ls g))

-- ---- an accepted text
module _ (text : List ℕ) (accepted : Accepted text) where
  lines-good : AllGood 0 (lines_of text)
  lines-good = accepted-good 1 0 (lines_of text) accepted

  -- "listing the words of an accepted text gives its fixed spelling": a text is bytes
  pub listing-fixed : Bytes text → listing_from 0 (words_of text) ≡ fixed_of text
  unfolding fixed_of
  listing-fixed b = lines-fixed 0 (lines_of text) lines-good (parts-bytes 10 text b)

  -- its words can be listed
  pub words-listed : Listed (words_of text)
  words-listed = lines-listed 0 (lines_of text) lines-good

  -- they fit the memory
  pub words-most : length (words_of text) ≤ 2048
  words-most = omega (arith, (lines-counted 1 0 (lines_of text) (omega arith) accepted).within)
