-- The first bad line is the one that is told, with its number; 27 is told exactly where the room is short; and every answer but 0 leaves the output as found.
use Prim.Native.Nat.{ℕ, zero, suc, ◌+◌, ◌*◌}
use mathlib.Core.Path.{◌≡◌, refl}
use mathlib.Core.List.{List, [], ◌∷◌}
use native.Mathlib.Nat.{add-zero}
use native.Mathlib.Omega.{arith}
use Rattle.line.specs.Line.{Line, line_of}
use Rattle.line.proofs.Laws.{Number, bad-number}
use Rattle.listing.specs.Assembled.{report_of, judged, refusal_from}
use Rattle.listing.specs.declared.Report.{Report}
use Rattle.pieces.specs.Parts.{pieces_of}
use Rattle.listing_laws.specs.Refused.{AllGood, FirstBad}

-- either all lines are good, or one is the first bad one, and it is told
pub data Told (line next : ℕ) (ls : List (List ℕ)) : Report → Type 0 where
  good : AllGood next ls → (n : ℕ) → Told line next ls (report_of 0 0 n)
  bad : (k n : ℕ) → FirstBad next ls k n → Told line next ls (report_of n (line + k) 0)

pub told-from : (line next : ℕ) (ls : List (List ℕ)) → Told line next ls (refusal_from line next ls)
unfolding refusal_from
told-from line next [] = good tt (4 * next)
told-from line next (l ∷ ls) = go (λ n. told-from (line + 1) n ls) (line_of next (pieces_of l)) refl
  where
    after : (a w : ℕ) → line_of next (pieces_of l) ≡ Line.Word a w → {r : Report} → Told (line + 1) (a + 1) ls r → Told line next (l ∷ ls) r
    after a w e (good g n) = good (a, w, e, g) n
    after a w e (bad k n f) = let p : line + 1 + k ≡ line + suc k = omega arith in rw p (bad (suc k) n (a, w, e, f))

    go : ((n : ℕ) → Told (line + 1) n ls (refusal_from (line + 1) n ls)) → (t : Line) → line_of next (pieces_of l) ≡ t
        → Told line next (l ∷ ls) (judged line t (λ n. refusal_from (line + 1) n ls))
    go rest (Line.Bad n) e = let b : Told line next (l ∷ ls) (report_of n (line + 0) 0) = bad zero n e in rw add-zero at b
    go rest (Line.Word a w) e = after a w e (rest (a + 1))

-- the line that is told is the first bad one
pub first-bad : (line next : ℕ) (ls : List (List ℕ)) (k n : ℕ) → FirstBad next ls k n → refusal_from line next ls ≡ report_of n (line + k) 0
unfolding refusal_from
first-bad line next [] k n e = absurd e
first-bad line next (l ∷ ls) zero n e = rw (e, add-zero)
first-bad line next (l ∷ ls) (suc k) n (a, w, e, f) =
    let p : line + 1 + k ≡ line + suc k = omega arith in
    rw (e, first-bad (line + 1) (a + 1) ls k n f, p)

-- good lines are accepted
pub all-good : (line next : ℕ) (ls : List (List ℕ)) → AllGood next ls → (refusal_from line next ls).answer ≡ 0
unfolding refusal_from
all-good line next [] g = refl
all-good line next (l ∷ ls) (a, w, e, g) = rw (e, all-good (line + 1) (a + 1) ls g)

-- its number is 10, 11 or 12
pub bad-numbers : (next : ℕ) (ls : List (List ℕ)) (k n : ℕ) → FirstBad next ls k n → Number n
bad-numbers next [] k n e = absurd e
bad-numbers next (l ∷ ls) zero n e = bad-number next (pieces_of l) n e
bad-numbers next (l ∷ ls) (suc k) n (a, w, e, f) = bad-numbers (a + 1) ls k n f
