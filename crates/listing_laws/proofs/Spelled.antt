-- A line in the fixed spelling is its pieces with a space before each but the first, so that they are the pieces that are read from it. Assumes nothing.
use Prim.Native.Nat.{ℕ, ◌≤◌}
use Prim.Native.String.{String}
use mathlib.Core.Path.{◌≡◌, refl, ◌∙◌, ap}
use mathlib.Core.Bool.{Bool, true, false, ◌&&◌, not, ◌||◌}
use mathlib.Core.List.{List, [], ◌∷◌, ◌++◌, append-nil, append_assoc}
use native.Mathlib.Omega.{arith}
use lib.Dec.{T, eqb, ltb, ltb→lt}
use lib.ListN.{length}
use borrow.Author.Tests.{ne_eqb}
use Rattle.choose.specs.Ranged.{pick}
use Rattle.choose.proofs.Tests.{both_left, both_right}
use Rattle.code.specs.Word.{low_of}
use Rattle.code.specs.declared.Fields.{Fields}
use Rattle.forms.specs.Forms.{form_of, first_of, second_of}
use Rattle.forms.specs.Named.{odd_of}
use Rattle.forms.specs.declared.Form.{Form}
use Rattle.names.specs.Mnemonics.{mnemonic_of, letters_from}
use Rattle.pieces.specs.Parts.{parts_of, lines_of, filled, pieces_of}
use Rattle.pieces.proofs.Laws.{Lacks, parts-joined, parts_last}
use Rattle.spelling.specs.Spelling.{digits_of, letters_of, operands_of, user_name, marks_of, spelled_of}

-- ---- pieces that are typed

-- bytes past the space, and so past the newline
abbrev pub inked : List ℕ → Bool
inked [] = true
inked (c ∷ p) = ltb 0x20 c && inked p

-- a piece has a byte, and neither a space nor a newline
abbrev pub typed : List ℕ → Bool
typed p = ltb 0 (length p) && inked p

abbrev pub Typed : List (List ℕ) → Type 0
Typed [] = Unit {0}
Typed (p ∷ ps) = T (typed p) × Typed ps

pub typed-append : (ps qs : List (List ℕ)) → Typed ps → Typed qs → Typed (ps ++ qs)
typed-append [] qs h g = g
typed-append (p ∷ ps) qs h g = (h.0, typed-append ps qs h.1 g)

inked-lacks : (mark : ℕ) → mark ≤ 0x20 → (p : List ℕ) → T (inked p) → Lacks mark p
inked-lacks mark m [] t = tt
inked-lacks mark m (c ∷ p) t =
    let past = ltb→lt 0x20 c (both_left (ltb 0x20 c) (inked p) t) in
    (ne_eqb c mark (λ e. omega arith), inked-lacks mark m p (both_right (ltb 0x20 c) (inked p) t))

lacks-append : (mark : ℕ) (p q : List ℕ) → Lacks mark p → Lacks mark q → Lacks mark (p ++ q)
lacks-append mark [] q h g = g
lacks-append mark (c ∷ p) q h g = (h.0, lacks-append mark p q h.1 g)

-- ---- pieces with a space before each
abbrev pub spaced : List (List ℕ) → List ℕ
spaced [] = []
spaced (p ∷ ps) = 0x20 ∷ p ++ spaced ps

spaced-append : (ps qs : List (List ℕ)) → spaced (ps ++ qs) ≡ spaced ps ++ spaced qs
spaced-append [] qs = refl
spaced-append (p ∷ ps) qs = rw (spaced-append ps qs, append_assoc p)

typed-lacks : (mark : ℕ) → mark ≤ 0x20 → (p : List ℕ) → T (typed p) → Lacks mark p
typed-lacks mark m p t = inked-lacks mark m p (both_right (ltb 0 (length p)) (inked p) t)

last-part : (p : List ℕ) → T (typed p) → parts_of 32 p ≡ p ∷ []
last-part [] t = absurd t
last-part (c ∷ p) t = parts_last 32 c p (typed-lacks 32 (omega arith) (c ∷ p) t)

filled-first : (p : List ℕ) (ps : List (List ℕ)) → T (typed p) → filled (p ∷ ps) ≡ p ∷ filled ps
filled-first [] ps t = absurd t
filled-first (c ∷ p) ps t = refl

-- the pieces that are read from such a line are those
pub pieces-spaced : (p : List ℕ) (ps : List (List ℕ)) → Typed (p ∷ ps) → pieces_of (p ++ spaced ps) ≡ p ∷ ps
unfolding pieces_of
pieces-spaced p [] h = rw (append-nil p, last-part p h.0) (filled-first p [] h.0)
pieces-spaced p (q ∷ qs) h =
    rw (parts-joined 32 p (q ++ spaced qs) (typed-lacks 32 (omega arith) p h.0))
    (filled-first p (parts_of 32 (q ++ spaced qs)) h.0 ∙ ap (λ (ps : List (List ℕ)). p ∷ ps) (pieces-spaced q qs h.1))

spaced-lacks : (ps : List (List ℕ)) → Typed ps → Lacks 10 (spaced ps)
spaced-lacks [] h = tt
spaced-lacks (p ∷ ps) h =
    (refl, lacks-append 10 p (spaced ps) (typed-lacks 10 (omega arith) p h.0) (spaced-lacks ps h.1))

-- and with its newline it is one line
pub lines-spaced : (p : List ℕ) (ps : List (List ℕ)) (t : List ℕ) → Typed (p ∷ ps)
    → lines_of (p ++ spaced ps ++ 0x0A ∷ t) ≡ (p ++ spaced ps) ∷ lines_of t
lines-spaced p ps t h =
    parts-joined 10 (p ++ spaced ps) t
    (lacks-append 10 p (spaced ps) (typed-lacks 10 (omega arith) p h.0) (spaced-lacks ps h.1))

-- ---- the pieces of a spelled line

-- a piece that is given, or none
abbrev pub given : Bool → List ℕ → List (List ℕ)
given t p = pick t (p ∷ []) []

pub typed-given : (t : Bool) (p : List ℕ) → (t ≡ true → T (typed p)) → Typed (given t p)
typed-given true p h = (h refl, tt)
typed-given false p h = tt

spaced-given : (t : Bool) (p : List ℕ) → pick t (0x20 ∷ p) [] ≡ spaced (given t p)
spaced-given true p = rw (append-nil p)
spaced-given false p = refl

-- whether an operand is spelled: it has to be there, or isn't zero
abbrev pub first_given : Form → ℕ → Bool
first_given form low = ltb 0 form.needed || not (eqb (first_of form low) 0)

abbrev pub second_given : Form → ℕ → Bool
second_given form low = ltb 1 form.needed || not (eqb (second_of form low) 0)

abbrev pub operand_pieces : Form → ℕ → List (List ℕ)
operand_pieces form low =
    given (first_given form low) (digits_of form.first (first_of form low)) ++ given (second_given form low) (digits_of form.second (second_of form low))

-- a mark as a piece
abbrev pub mark_named : String → List ℕ
mark_named s = letters_of (letters_from 0 4 s)

abbrev pub mark_pieces : Bool → Bool → Bool → ℕ → List (List ℕ)
mark_pieces odd rr rni user =
    given odd (mark_named "ODD") ++ given rr (mark_named "RR") ++ given rni (mark_named "RNI") ++
    given (not (eqb user 0)) (letters_of (user_name user))

-- what stands after the address
abbrev pub pieces_after : Fields → List (List ℕ)
pieces_after f =
    letters_of (mnemonic_of f.code) ∷
    (operand_pieces (form_of f.code) (low_of f.operands) ++ mark_pieces (odd_of f.code) f.load_rr f.rni f.user)

operands-spaced : (form : Form) (low : ℕ) → operands_of form low ≡ spaced (operand_pieces form low)
unfolding operands_of
operands-spaced form low = simp (spaced-append, spaced-given)

marks-spaced : (f : Fields) → marks_of f ≡ spaced (mark_pieces (odd_of f.code) f.load_rr f.rni f.user)
unfolding marks_of
marks-spaced f = simp (spaced-append, spaced-given)

regrouped : (a m o k t : List ℕ) → a ++ (0x20 ∷ []) ++ m ++ o ++ k ++ (0x0A ∷ []) ++ t ≡ a ++ (0x20 ∷ m ++ (o ++ k)) ++ 0x0A ∷ t
regrouped a m o k t = simp append_assoc

pub line-spaced : (address : ℕ) (f : Fields) (t : List ℕ)
    → spelled_of address f ++ t ≡ digits_of 3 address ++ spaced (pieces_after f) ++ 0x0A ∷ t
unfolding spelled_of
line-spaced address f t =
    rw (operands-spaced, marks-spaced, spaced-append (operand_pieces (form_of f.code) (low_of f.operands)))
    (regrouped (digits_of 3 address) (letters_of (mnemonic_of f.code)) _ _ t)
