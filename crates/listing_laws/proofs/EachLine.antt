-- "The lister gives one line for each word": line i of a listing, and of a fixed spelling, gives word i. Assumes nothing.
use Prim.Native.Nat.{ℕ, zero, suc, ◌+◌, ◌<◌, ◌≤◌}
use mathlib.Core.Path.{◌≡◌}
use mathlib.Core.List.{List, [], ◌∷◌}
use native.Mathlib.Nat.{add-zero, zero-add}
use native.Mathlib.Omega.{arith}
use lib.ListN.{length, get_or}
use Rattle.line.specs.Line.{Line, line_of}
use Rattle.listing.specs.Listed.{listing_from}
use Rattle.numbers.specs.Numbers.{Bytes}
use Rattle.pieces.specs.Parts.{lines_of, pieces_of}
use Rattle.listing_laws.specs.Accepted.{Accepted, words_of, Listed}
use Rattle.listing_laws.specs.Fixed.{fixed_of}
use Rattle.listing_laws.proofs.Fixed.{listing-fixed, words-listed, words-most}
use Rattle.listing_laws.proofs.There.{listed-fields, line-back, line_first, pieces-first}

line-from : (ws : List ℕ) (address i : ℕ) → Listed ws → address + length ws ≤ 0x800 → i < length ws
    → line_of (address + i) (pieces_of (get_or (lines_of (listing_from address ws)) i [])) ≡ Line.Word (address + i) (get_or ws i 0)
unfolding listing_from
line-from [] address i l h n = absurd (omega arith)
line-from (w ∷ ws) address zero (here, l) h n =
    let (f, e) = listed-fields w here in
    rw (line_first w f e address (listing_from (suc address) ws), pieces-first w f e address, add-zero address)
    (line-back w f e address address (omega arith) (omega arith))
line-from (w ∷ ws) address (suc i) (here, l) h n =
    let (f, e) = listed-fields w here in
    let next : suc address + i ≡ address + suc i = omega arith in
    rw (line_first w f e address (listing_from (suc address) ws), ← next) (line-from ws (suc address) i l (omega arith) (omega arith))

pub line-of-each : (ws : List ℕ) (i : ℕ) → Listed ws → length ws ≤ 2048 → i < length ws
    → line_of i (pieces_of (get_or (lines_of (listing_from 0 ws)) i [])) ≡ Line.Word i (get_or ws i 0)
line-of-each ws i l h n = rw zero-add at (line-from ws 0 i l (omega arith) n)

-- and so does each line of an accepted text's fixed spelling
pub fixed-line-of-each : (text : List ℕ) (i : ℕ) → Bytes text → Accepted text → i < length (words_of text)
    → line_of i (pieces_of (get_or (lines_of (fixed_of text)) i [])) ≡ Line.Word i (get_or (words_of text) i 0)
fixed-line-of-each text i b accepted n =
    rw (listing-fixed text accepted b) at (line-of-each (words_of text) i (words-listed text accepted) (words-most text accepted) n)
