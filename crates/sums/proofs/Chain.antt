-- The byte cycles of a cut, one after the other on the register file: the target's registers and the last cycle's flags are those of a sum over two lists of
-- bytes, where no cycle writes what a later one reads. Assumes nothing.
use Prim.Native.Nat.{ℕ, suc, ◌+◌, ◌≤◌}
use mathlib.Core.Path.{◌≡◌, refl, ap, ap₂, sym, ◌∙◌}
use mathlib.Core.Bool.{Bool, true, false, ◌&&◌, not-not}
use mathlib.Core.List.{List, [], ◌∷◌, ◌++◌}
use native.Mathlib.Omega.{arith}
use native.Mathlib.Nat.{add-zero}
use lib.Dec.{eqb}
use lib.ListN.{length, get_or, set, length-set}
use lib.Seq.{get_or-set_same, get_or-set_other}
use borrow.Author.Tests.{eq-eqb, ne_eqb, eqb-true, eqb-false}
use Rattle.alu.proofs.Laws.{result-byte}
use Rattle.alu.specs.Numbers.{value, sum_bytes, ones}
use Rattle.alu.specs.declared.Cycle.{Cycle}
use Rattle.alu.specs.declared.Flags.{Flags}
use Rattle.state.specs.File.{Leaves, leaves}
use Rattle.engine.specs.Run.{World}
use Rattle.numbers.specs.Numbers.{Bytes}
use Rattle.numbers.proofs.Laws.{set-bytes}
use Rattle.sums.specs.Sums.{Step, Cut, Sign, targets, sources, Absent, Different, place_of, registers_at, last_targets, PlaceOfNone}
use Rattle.sums.specs.Sums.Sign.{plus, minus}
use Rattle.sums.specs.Sums.Step.{byte, pair}
use Rattle.sums.proofs.Codes.{step_carry}
use Rattle.sums.proofs.Cycles.{addend, cycle_with, cycle_at, file_at, odd_code_flags, step_made}
use Rattle.sums.proofs.Run.{step_on, after}

-- ---- the registers and the flags of a run, without the rest

abbrev pub cut_made : Sign → List ℕ → Bool → Cut → Flags → Leaves Flags
cut_made sign xs c [] f = leaves xs f
cut_made sign xs c (t ∷ ts) f = let m = step_made sign xs c t in cut_made sign m.file m.back.c8 ts m.back

-- C8 is the next step's carry in: C, or what C is the complement of
next-carry : (sign : Sign) (xs : List ℕ) (c : Bool) (t : Step)
    → step_carry sign true (step_made sign xs c t).back ≡ (step_made sign xs c t).back.c8
next-carry plus xs c (byte a b) = refl
next-carry plus xs c (pair a b) = refl
next-carry minus xs c (byte a b) = not-not _
next-carry minus xs c (pair a b) = not-not _

pub made-is : (sign : Sign) (later : Bool) (cut : Cut) (ws : List ℕ) (w : World)
    → leaves (after sign later cut ws w).file (after sign later cut ws w).core.flags
    ≡ cut_made sign w.file (step_carry sign later w.core.flags) cut w.core.flags
made-is sign later [] ws w = refl
made-is sign later (t ∷ ts) ws w =
    let m = step_made sign w.file (step_carry sign later w.core.flags) t in
    made-is sign true ts ws (step_on sign later t ws w)
    ∙ ap (λ (c : Bool). cut_made sign m.file c ts m.back) (next-carry sign w.file (step_carry sign later w.core.flags) t)

-- ---- byte cycles on two lists of registers

abbrev pub chain_file : Sign → List ℕ → Bool → List ℕ → List ℕ → List ℕ
chain_file sign xs c [] bs = xs
chain_file sign xs c (a ∷ ds) [] = xs
chain_file sign xs c (a ∷ ds) (b ∷ bs) = chain_file sign (file_at sign xs c a b) (cycle_at sign xs c a b).c8 ds bs

-- the last of them, or y where there is none
abbrev pub chain_last : Sign → Cycle → List ℕ → Bool → List ℕ → List ℕ → Cycle
chain_last sign y xs c [] bs = y
chain_last sign y xs c (a ∷ ds) [] = y
chain_last sign y xs c (a ∷ ds) (b ∷ bs) =
    chain_last sign (cycle_at sign xs c a b) (file_at sign xs c a b) (cycle_at sign xs c a b).c8 ds bs

pub file-is : (sign : Sign) (xs : List ℕ) (c : Bool) (cut : Cut) (f : Flags)
    → (cut_made sign xs c cut f).file ≡ chain_file sign xs c (targets cut) (sources cut)
file-is sign xs c [] f = refl
file-is sign xs c (byte a b ∷ ts) f = let m = step_made sign xs c (byte a b) in file-is sign m.file m.back.c8 ts m.back
file-is sign xs c (pair a b ∷ ts) f = let m = step_made sign xs c (pair a b) in file-is sign m.file m.back.c8 ts m.back

-- the flags are the last cycle's, and what the last step makes Z
pub flags-are : (sign : Sign) (xs : List ℕ) (c : Bool) (cut : Cut) (f : Flags) (y : Cycle) → f ≡ odd_code_flags y f.z
    → (cut_made sign xs c cut f).back ≡ odd_code_flags (chain_last sign y xs c (targets cut) (sources cut)) (cut_made sign xs c cut f).back.z
flags-are sign xs c [] f y e = e
flags-are sign xs c (byte a b ∷ ts) f y e =
    let m = step_made sign xs c (byte a b) in
    flags-are sign m.file m.back.c8 ts m.back (cycle_at sign xs c a b) refl
flags-are sign xs c (pair a b ∷ ts) f y e =
    let m = step_made sign xs c (pair a b) in
    flags-are sign m.file m.back.c8 ts m.back
    (cycle_at sign (file_at sign xs c a b) (cycle_at sign xs c a b).c8 (suc a) (suc b)) refl

-- ---- registers that no cycle writes

pub chain_length : (sign : Sign) (xs : List ℕ) (c : Bool) (ds bs : List ℕ) → length (chain_file sign xs c ds bs) ≡ length xs
chain_length sign xs c [] bs = refl
chain_length sign xs c (a ∷ ds) [] = refl
chain_length sign xs c (a ∷ ds) (b ∷ bs) =
    let y = cycle_at sign xs c a b in
    chain_length sign (file_at sign xs c a b) y.c8 ds bs ∙ length-set xs (place_of a) y.result

pub chain-bytes : (sign : Sign) (xs : List ℕ) (c : Bool) (ds bs : List ℕ) → Bytes xs → Bytes (chain_file sign xs c ds bs)
chain-bytes sign xs c [] bs h = h
chain-bytes sign xs c (a ∷ ds) [] h = h
chain-bytes sign xs c (a ∷ ds) (b ∷ bs) h =
    let y = cycle_at sign xs c a b in
    chain-bytes sign (file_at sign xs c a b) y.c8 ds bs
    (set-bytes xs (place_of a) y.result h (result-byte (get_or xs (place_of a) 0) (addend sign (get_or xs (place_of b) 0)) c))

pub chain-other : (sign : Sign) (xs : List ℕ) (c : Bool) (ds bs : List ℕ) (i : ℕ) → PlaceOfNone i ds
    → get_or (chain_file sign xs c ds bs) i 0 ≡ get_or xs i 0
chain-other sign xs c [] bs i n = refl
chain-other sign xs c (a ∷ ds) [] i n = refl
chain-other sign xs c (a ∷ ds) (b ∷ bs) i n =
    let y = cycle_at sign xs c a b in
    chain-other sign (file_at sign xs c a b) y.c8 ds bs i n.1 ∙ get_or-set_other xs (place_of a) i y.result 0 n.0

-- a write to a leaves the registers elsewhere
registers-kept : (xs : List ℕ) (a v : ℕ) (ds : List ℕ) → PlaceOfNone (place_of a) ds → registers_at (set xs (place_of a) v) ds ≡ registers_at xs ds
registers-kept xs a v [] n = refl
registers-kept xs a v (d ∷ ds) n =
    ap₂ ◌∷◌ (get_or-set_other xs (place_of a) (place_of d) v 0 (λ e. n.0 (sym e))) (registers-kept xs a v ds n.1)

-- a write to a is read there
register-there : (xs : List ℕ) (a v : ℕ) → length xs ≡ 26 → a ≤ 0xF → get_or (set xs (place_of a) v) (place_of a) 0 ≡ v
register-there xs a v l h = get_or-set_same xs (place_of a) v 0 (omega arith)

-- ---- registers that differ

-- each target has a place of its own in the file, and none of a source's
abbrev pub Separate : List ℕ → List ℕ → Type 0
Separate [] bs = Unit {0}
Separate (a ∷ ds) bs = (a ≤ 0xF) × PlaceOfNone (place_of a) ds × PlaceOfNone (place_of a) bs × Separate ds bs

pub separate-tail : (ds : List ℕ) (b : ℕ) (bs : List ℕ) → Separate ds (b ∷ bs) → Separate ds bs
separate-tail [] b bs h = tt
separate-tail (a ∷ ds) b bs h = (h.0, h.1, h.2.1, separate-tail ds b bs h.3)

place-of-none : (a : ℕ) (ds : List ℕ) → Absent a ds → PlaceOfNone (place_of a) ds
place-of-none a [] n = tt
place-of-none a (d ∷ ds) n = ((λ e. n.0 (omega arith)), place-of-none a ds n.1)

place-of-none-left : (i : ℕ) (ds bs : List ℕ) → PlaceOfNone i (ds ++ bs) → PlaceOfNone i ds
place-of-none-left i [] bs h = tt
place-of-none-left i (d ∷ ds) bs h = (h.0, place-of-none-left i ds bs h.1)

place-of-none-right : (i : ℕ) (ds bs : List ℕ) → PlaceOfNone i (ds ++ bs) → PlaceOfNone i bs
place-of-none-right i [] bs h = h
place-of-none-right i (d ∷ ds) bs h = place-of-none-right i ds bs h.1

pub separate : (ds bs : List ℕ) → Different (ds ++ bs) → Separate ds bs
separate [] bs h = tt
separate (a ∷ ds) bs h =
    let n = place-of-none a (ds ++ bs) h.2 in
    (h.1, place-of-none-left (place_of a) ds bs n, place-of-none-right (place_of a) ds bs n, separate ds bs h.3)

-- ---- the cycles over two lists of bytes

-- a difference adds 255 - q for each byte q, and 1 at the low end
abbrev pub added : Sign → List ℕ → List ℕ
added plus qs = qs
added minus qs = ones qs

pub added-cons : (sign : Sign) (q : ℕ) (qs : List ℕ) → added sign (q ∷ qs) ≡ addend sign q ∷ added sign qs
added-cons plus q qs = refl
added-cons minus q qs = refl

-- the bytes of the target are those of the sum
pub chain-target : (sign : Sign) (xs : List ℕ) (c : Bool) (ds bs : List ℕ) → length xs ≡ 26 → length ds ≡ length bs → Separate ds bs
    → registers_at (chain_file sign xs c ds bs) ds ≡ sum_bytes (registers_at xs ds) (added sign (registers_at xs bs)) c
chain-target sign xs c [] bs l e h = refl
chain-target sign xs c (a ∷ ds) [] l e h = absurd (omega arith)
chain-target sign xs c (a ∷ ds) (b ∷ bs) l e h =
    let y = cycle_at sign xs c a b in
    let ys = file_at sign xs c a b in
    rw (added-cons sign)
    (ap₂ ◌∷◌
    (chain-other sign ys y.c8 ds bs (place_of a) h.1 ∙ register-there xs a y.result l h.0)
    (chain-target sign ys y.c8 ds bs (length-set xs (place_of a) y.result ∙ l) (omega arith) (separate-tail ds b bs h.3)
    ∙ rw (registers-kept xs a y.result ds h.1, registers-kept xs a y.result bs h.2.1)))

-- the last cycle over two lists of bytes, or y
abbrev pub last_cycle : Sign → Cycle → List ℕ → List ℕ → Bool → Cycle
last_cycle sign y [] qs c = y
last_cycle sign y (p ∷ ps) [] c = y
last_cycle sign y (p ∷ ps) (q ∷ qs) c = last_cycle sign (cycle_with sign p q c) ps qs (cycle_with sign p q c).c8

pub chain-last : (sign : Sign) (y : Cycle) (xs : List ℕ) (c : Bool) (ds bs : List ℕ) → Separate ds bs
    → chain_last sign y xs c ds bs ≡ last_cycle sign y (registers_at xs ds) (registers_at xs bs) c
chain-last sign y xs c [] bs h = refl
chain-last sign y xs c (a ∷ ds) [] h = refl
chain-last sign y xs c (a ∷ ds) (b ∷ bs) h =
    let z = cycle_at sign xs c a b in
    chain-last sign z (file_at sign xs c a b) z.c8 ds bs (separate-tail ds b bs h.3)
    ∙ rw (registers-kept xs a z.result ds h.1, registers-kept xs a z.result bs h.2.1)

-- ---- Z: the bytes of the last step are 0

one-zero : (r : ℕ) → eqb r 0 ≡ eqb (value (r ∷ [])) 0
one-zero r = ap (λ (n : ℕ). eqb n 0) (sym (add-zero r))

two-zero : (p r : ℕ) → eqb p 0 && eqb r 0 ≡ eqb (value (p ∷ r ∷ [])) 0
two-zero p r = go (eqb p 0) refl (eqb r 0) refl
  where
    go : (s : Bool) → eqb p 0 ≡ s → (t : Bool) → eqb r 0 ≡ t → s && t ≡ eqb (value (p ∷ r ∷ [])) 0
    go true d true e = sym (eq-eqb (value (p ∷ r ∷ [])) 0 (omega (arith, eqb-true p 0 d, eqb-true r 0 e)))
    go true d false e = sym (ne_eqb (value (p ∷ r ∷ [])) 0 (λ h. eqb-false r 0 e (omega arith)))
    go false d t e = sym (ne_eqb (value (p ∷ r ∷ [])) 0 (λ h. eqb-false p 0 d (omega arith)))

pub zero_is : (sign : Sign) (xs : List ℕ) (c : Bool) (cut : Cut) (f : Flags) (ds : List ℕ) → length xs ≡ 26
    → Separate (targets cut) (sources cut) → f.z ≡ eqb (value (registers_at xs ds)) 0
    → (cut_made sign xs c cut f).back.z ≡ eqb (value (registers_at (cut_made sign xs c cut f).file (last_targets ds cut))) 0
zero_is sign xs c [] f ds l h e = e
zero_is sign xs c (byte a b ∷ ts) f ds l h e =
    let m = step_made sign xs c (byte a b) in
    let y = cycle_at sign xs c a b in
    zero_is sign m.file y.c8 ts m.back (a ∷ []) (length-set xs (place_of a) y.result ∙ l) (separate-tail (targets ts) b (sources ts) h.3)
    (rw (register-there xs a y.result l h.0) (one-zero y.result))
zero_is sign xs c (pair a b ∷ ts) f ds l h e =
    let m = step_made sign xs c (pair a b) in
    let y = cycle_at sign xs c a b in
    let ys = file_at sign xs c a b in
    let z = cycle_at sign ys y.c8 (suc a) (suc b) in
    let high = h.3 in
    let k : length ys ≡ 26 = length-set xs (place_of a) y.result ∙ l in
    let low : registers_at m.file (a ∷ []) ≡ y.result ∷ []
    = registers-kept ys (suc a) z.result (a ∷ []) ((λ q. h.1.0 (sym q)), tt)
    ∙ ap (λ (n : ℕ). n ∷ []) (register-there xs a y.result l h.0) in
    zero_is sign m.file z.c8 ts m.back (a ∷ suc a ∷ []) (length-set ys (place_of (suc a)) z.result ∙ k)
    (separate-tail (targets ts) (suc b) (sources ts) (separate-tail (targets ts) b (suc b ∷ sources ts) high.3))
    (two-zero y.result z.result
    ∙ ap (λ (n : List ℕ). eqb (value n) 0)
    (ap₂ ◌++◌ (sym low) (ap (λ (n : ℕ). n ∷ []) (sym (register-there ys (suc a) z.result k high.0)))))
