-- There and back: the listing of any list of listed words assembles to those words. Assumes nothing.
use Prim.Native.Nat.{ℕ, suc, ◌+◌, ◌*◌, ◌-◌, ◌%◌, ◌<◌, ◌≤◌}
use mathlib.Core.Path.{◌≡◌, refl, ◌∙◌, sym, ap}
use mathlib.Core.Bool.{Bool, true, false, not, ◌||◌}
use mathlib.Core.List.{List, [], ◌∷◌, ◌++◌}
use native.Mathlib.Nat.{add-zero, zero-add, sub-zero, sub_self, mod-eq_of_lt}
use native.Mathlib.Numerals.{add-one}
use native.Mathlib.Omega.{arith}
use lib.Dec.{eqb}
use lib.ListN.{length}
use borrow.Author.Tests.{lt-ltb, le-leb, eqb-true}
use Rattle.std.specs.Prelude.{Ok, Err, Some}
use Rattle.choose.specs.Ranged.{bit, pick, ranged}
use Rattle.choose.proofs.Tests.{both_true}
use Rattle.code.specs.CodeRows.{class_of, listed}
use Rattle.code.specs.Word.{Apart, top_of, code_of, apart_of, number_of, low_of, WellFormed}
use Rattle.code.specs.declared.Unread.{Unread}
use Rattle.code.specs.declared.Fields.{Fields}
use Rattle.code.proofs.Laws.{apart-together, apart-well-formed, apart-number, cad-listed}
use Rattle.code.proofs.Shape.{fit-listed, fit-room, read_back}
use Rattle.code.proofs.Tops.{listed_below}
use Rattle.forms.specs.Forms.{form_of, limit_of, first_of, second_of}
use Rattle.forms.specs.Named.{top_named, twinned, odd_of, even_of}
use Rattle.forms.proofs.Laws.{twin}
use Rattle.forms.proofs.Names.{named-first}
use Rattle.forms.proofs.Operands.{Parted, parted, joined-again, form-spans}
use Rattle.listing.specs.Assembled.{report_of, words_from, refusal_from}
use Rattle.listing.specs.Listed.{word_line, listing_from}
use Rattle.line.specs.Line.{Tail, Line, tail_of, fits_form, fields_for, word_for, placed_of, line_of}
use Rattle.names.specs.Mnemonics.{mnemonic_of}
use Rattle.pieces.specs.Parts.{parts_of, lines_of, pieces_of}
use Rattle.pieces.specs.Read.{name_of}
use Rattle.spelling.specs.Spelling.{digits_of, letters_of}
use Rattle.listing_laws.specs.Accepted.{Listed}
use Rattle.listing_laws.proofs.Spelled.{Typed, typed-append, spaced, pieces-spaced, lines-spaced, operand_pieces, mark_pieces, pieces_after, line-spaced}
use Rattle.listing_laws.proofs.Reread.{typed-digits, number-back, good-mnemonic, marked, marks-back, typed-marks, mark-first}
use Rattle.listing_laws.proofs.Tail.{form-fair, spelled_count, operands-typed, operands-back, operands-fit}

-- the even code e of a pair, or the code itself where it is the odd one of none: nothing that is typed differs but the mark ODD
record Even (code e : ℕ) (odd : Bool) : Type 0 where
  pub class : class_of e ≡ class_of code
  pub form : form_of e ≡ form_of code
  pub again : e + bit odd ≡ code
  pub good : (not odd || twinned e) ≡ true

odd-twin : (code : ℕ) → odd_of code ≡ true → (code % 2 ≡ 1) × (twinned (code - 1) ≡ true)
unfolding odd_of
odd-twin code e = let (odd, two) = both_true (eqb (code % 2) 1) (twinned (code - 1)) e in (eqb-true (code % 2) 1 odd, two)

even : (code : ℕ) → Even code (even_of code) (odd_of code)
even code = go (odd_of code) refl
  where
    go : (t : Bool) → odd_of code ≡ t → Even code (code - bit t) t
    go true e =
        let (odd, two) = odd-twin code e in
        let same = twin (code - 1) two in
        let next : code - 1 + 1 ≡ code = omega arith in
        record { class = sym (rw next at same.class); form = sym (rw next at same.form); again = next; good = two }
    go false e = rw (sub-zero code) (record { class = refl; form = refl; again = add-zero code; good = refl })

-- 0x10 stands for no U, which is U0
user-back : (user : ℕ) → user < 0x10 → pick (not (eqb user 0)) user 0x10 % 0x10 ≡ user
user-back user h = go (eqb user 0) refl
  where
    go : (t : Bool) → eqb user 0 ≡ t → pick (not t) user 0x10 % 0x10 ≡ user
    go true e = sym (eqb-true user 0 e)
    go false e = omega arith

-- a listed word, and its fields
module _ (w : ℕ) (f : Fields) (e : apart_of w ≡ Ok f) where
  well : WellFormed f
  well = apart-well-formed w f e

  code-listed : listed (class_of f.code) ≡ true
  code-listed = rw well.own at (fit-listed well.fitting)

  code_below : f.code < 0x100
  code_below = listed_below f.code code-listed

  name_back : top_named (name_of (letters_of (mnemonic_of f.code))) ≡ even_of f.code
  unfolding code_of
  name_back =
      let own : code_of f.code ≡ f.code = rw well.own at well.first in
      rw (good-mnemonic f.code code_below code-listed).1 (named-first f.code code_below code-listed ∙ ap even_of own)

  range : Parted (form_of f.code) (low_of f.operands)
  range = parted (form-spans f.code code-listed) (low_of f.operands) (rw well.own at (fit-room well.fitting))

  -- the operands and marks as they are read from the line
  tail : Tail
  tail =
      record {
        count = spelled_count (form_of f.code) (low_of f.operands);
        first = first_of (form_of f.code) (low_of f.operands);
        second = second_of (form_of f.code) (low_of f.operands);
        marks = marked (odd_of f.code) f.load_rr f.rni (pick (not (eqb f.user 0)) f.user 0x10);
      }

  fields_back : fields_for (even_of f.code) tail ≡ f
  unfolding tail
  fields_back =
      let same = even f.code in
      let low = low_of f.operands in
      let whole = joined-again (form_of f.code) low in
      let read = read_back low well.fitting (mod-eq_of_lt (fit-room well.fitting)) in
      rw (same.again, same.class, same.form, ← well.own, whole, read, user-back f.user well.in-range)

  marks : List (List ℕ)
  marks = mark_pieces (odd_of f.code) f.load_rr f.rni f.user

  tail-read : tail_of (operand_pieces (form_of f.code) (low_of f.operands) ++ marks) ≡ tail
  unfolding tail marks
  tail-read =
      let first = mark-first (odd_of f.code) f.load_rr f.rni f.user well.in-range in
      rw (
        operands-back (form_of f.code) (low_of f.operands) (form-fair f.code code-listed) range marks first,
        marks-back (odd_of f.code) f.load_rr f.rni f.user well.in-range,
      )

  tail-fits : fits_form (form_of (even_of f.code)) tail ≡ true
  unfolding tail marks
  tail-fits =
      let fits = operands-fit (form_of f.code) (low_of f.operands) (form-fair f.code code-listed) range marks in
      rw (even f.code).form (rw (marks-back (odd_of f.code) f.load_rr f.rni f.user well.in-range) at fits)

  word_back : word_for (even_of f.code) tail ≡ Some w
  unfolding word_for tail
  word_back = rw (tail-fits, (even f.code).good, fields_back, apart-together w f e)

  -- the line of a word is read as that word at its address
  pub line-back : (next address : ℕ) → address < 0x800 → next ≤ address → line_of next (digits_of 3 address ∷ pieces_after f) ≡ Line.Word address w
  unfolding line_of placed_of marks limit_of ranged
  line-back next address h l =
      let small : even_of f.code < 0x100 = omega (arith, code_below) in
      rw (
        name_back,
        lt-ltb (even_of f.code) 0x100 small,
        tail-read,
        word_back,
        number-back 3 address (omega arith) h,
        lt-ltb address 0x800 h,
        le-leb next address l,
      )

  line-typed : (address : ℕ) → Typed (digits_of 3 address ∷ pieces_after f)
  line-typed address =
      let first = typed-digits 3 address (omega arith) in
      let name = (good-mnemonic f.code code_below code-listed).0 in
      let operands = operands-typed (form_of f.code) (low_of f.operands) (form-fair f.code code-listed) range in
      let after = typed-marks (odd_of f.code) f.load_rr f.rni f.user well.in-range in
      (first, (name, typed-append (operand_pieces (form_of f.code) (low_of f.operands)) _ operands after))

  -- and it is one line of a listing
  pub line_first : (address : ℕ) (t : List ℕ)
      → lines_of (word_line address w ++ t) ≡ (digits_of 3 address ++ spaced (pieces_after f)) ∷ lines_of t
  unfolding word_line
  line_first address t =
      rw (e, line-spaced address f t) (lines-spaced (digits_of 3 address) (pieces_after f) t (line-typed address))

  pub pieces-first : (address : ℕ) → pieces_of (digits_of 3 address ++ spaced (pieces_after f)) ≡ digits_of 3 address ∷ pieces_after f
  pieces-first address = pieces-spaced (digits_of 3 address) (pieces_after f) (line-typed address)

-- ---- every word of a list, from an address on

-- a listed word comes apart
pub listed-fields : (w : ℕ) → number_of (apart_of w) ≡ 0 → (f : Fields) × (apart_of w ≡ Ok f)
listed-fields w n = go (apart_of w) refl n
  where
    go : (a : Apart) → apart_of w ≡ a → number_of a ≡ 0 → (f : Fields) × (apart_of w ≡ Ok f)
    go (Ok f) e n = (f, e)
    go (Err Unread.OutOfRange) e n = absurd (omega arith)
    go (Err Unread.Unlisted) e n = absurd (omega arith)

-- CAD is listed
pub cad-words : (w : ℕ) → w < 0x40_0000 → top_of w ≡ 0xAC → number_of (apart_of w) ≡ 0
cad-words w h e = rw (apart-number w, lt-ltb w 0x40_0000 h, e, cad-listed)

-- what is read from the lines of a listing of words that begin at an address
record ReadBack (address line : ℕ) (ws : List ℕ) (lines : List (List ℕ)) : Type 0 where
  pub words : words_from address lines ≡ ws
  pub report : refusal_from line address lines ≡ report_of 0 0 (4 * (address + length ws))
  pub count : length lines ≡ length ws

-- one line more in front
read_more : {address line w : ℕ} {ws l : List ℕ} {lines : List (List ℕ)} → line_of address (pieces_of l) ≡ Line.Word address w
    → ReadBack (suc address) (line + 1) ws lines → ReadBack address line (w ∷ ws) (l ∷ lines)
unfolding words_from refusal_from
read_more {address} {line} {w} {ws} {l} {lines} e later =
    let whole : 4 * (suc address + length ws) ≡ 4 * (address + suc (length ws)) = omega arith in
    record {
      words = rw (e, sub_self address, add-one address, later.words);
      report = rw (e, add-one address, later.report, whole);
      count = ap suc later.count;
    }

read-listing : (ws : List ℕ) (address line : ℕ) → Listed ws → address + length ws ≤ 0x800
    → ReadBack address line ws (lines_of (listing_from address ws))
unfolding listing_from words_from refusal_from parts_of
read-listing [] address line l h = record { words = refl; report = rw (add-zero address); count = refl }
read-listing (w ∷ ws) address line l h =
    let (f, e) = listed-fields w l.0 in
    let later = read-listing ws (suc address) (line + 1) l.1 (omega arith) in
    let back = line-back w f e address address (omega arith) (omega arith) in
    rw (line_first w f e address (listing_from (suc address) ws)) (read_more (rw (pieces-first w f e address) back) later)

-- ---- the theorem

module _ (ws : List ℕ) (l : Listed ws) (h : length ws ≤ 2048) where
  whole : ReadBack 0 1 ws (lines_of (listing_from 0 ws))
  whole = read-listing ws 0 1 l (omega arith)

  -- assembling the listing of listed words gives those words
  pub words_back : words_from 0 (lines_of (listing_from 0 ws)) ≡ ws
  words_back = whole.words

  -- no line of it is refused
  pub listing-accepted : refusal_from 1 0 (lines_of (listing_from 0 ws)) ≡ report_of 0 0 (4 * length ws)
  listing-accepted = whole.report ∙ rw (zero-add (length ws))

  -- and it has a line for each word
  pub one-line-each : length (lines_of (listing_from 0 ws)) ≡ length ws
  one-line-each = whole.count
