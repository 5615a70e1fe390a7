-- What the hypotheses of demand 3 say of each step and of the bytes in its registers. Assumes nothing.
use Prim.Native.Nat.{ℕ, suc, ◌+◌, ◌≤◌}
use mathlib.Core.Path.{◌≡◌, refl, ap, ◌∙◌}
use mathlib.Core.Bool.{Bool, true, false, ◌&&◌, and-eq-true_iff}
use mathlib.Core.List.{List, [], ◌∷◌, ◌++◌}
use native.Mathlib.Omega.{arith}
use lib.Dec.{eqb, ltb}
use lib.ListN.{length, get_or, drop}
use borrow.Author.Tests.{eqb-true, eqb-false, ltb-true}
use Rattle.numbers.specs.Numbers.{Bytes}
use Rattle.numbers.proofs.Laws.{byte-below}
use Rattle.sums.specs.Sums.{Cut, Sign, targets, sources, byte_count, Different, Even, instructions_of, place_of, registers_at, PlaceOfNone}
use Rattle.sums.specs.Sums.Step.{byte, pair}
use Rattle.sums.proofs.Run.{AllFit}

-- ---- the words

-- directly addressed
abbrev pub Direct : List ℕ → Type 0
Direct [] = Unit {0}
Direct (d ∷ ds) = (2 ≤ d) × (d ≤ 0xF) × Direct ds

pub direct-left : (ds bs : List ℕ) → Different (ds ++ bs) → Direct ds
direct-left [] bs h = tt
direct-left (d ∷ ds) bs h = (h.0, h.1, direct-left ds bs h.3)

pub direct-right : (ds bs : List ℕ) → Different (ds ++ bs) → Direct bs
direct-right [] [] h = tt
direct-right [] (b ∷ bs) h = (h.0, h.1, direct-right [] bs h.3)
direct-right (d ∷ ds) bs h = direct-right ds bs h.3

pub all_fit : (cut : Cut) → Direct (targets cut) → Direct (sources cut) → Even cut → AllFit cut
all_fit [] a b e = tt
all_fit (byte x y ∷ ts) a b e = ((a.0, a.1, b.0, b.1), all_fit ts a.2 b.2 e)
all_fit (pair x y ∷ ts) a b e = ((a.0, a.2.1, b.0, b.2.1, e.0, e.1), all_fit ts a.2.2 b.2.2 e.2)

pub words-length : (sign : Sign) (later : Bool) (cut : Cut) (is : List ℕ) → length (instructions_of sign later cut ++ is) ≡ length cut + length is
words-length sign later [] is = omega arith
words-length sign later (t ∷ ts) is = ap suc (words-length sign true ts is) ∙ omega arith

-- ---- how many

pub same_length : (cut : Cut) → length (targets cut) ≡ length (sources cut)
same_length [] = refl
same_length (byte a b ∷ ts) = ap suc (same_length ts)
same_length (pair a b ∷ ts) = ap suc (ap suc (same_length ts))

-- a byte is of a step
pub some-steps : (cut : Cut) → 1 ≤ byte_count cut → 1 ≤ length cut
some-steps [] h = h
some-steps (t ∷ ts) h = omega arith

pub registers-length : (xs : List ℕ) (ds : List ℕ) → length (registers_at xs ds) ≡ length ds
registers-length xs [] = refl
registers-length xs (d ∷ ds) = ap suc (registers-length xs ds)

-- ---- the bytes

pub registers-bytes : (xs : List ℕ) (ds : List ℕ) → Bytes xs → Bytes (registers_at xs ds)
registers-bytes xs [] b = tt
registers-bytes xs (d ∷ ds) b = (byte-below xs b (place_of d), registers-bytes xs ds b)

-- by a test that is computed
abbrev bytes_test : List ℕ → Bool
bytes_test [] = true
bytes_test (x ∷ xs) = ltb x 256 && bytes_test xs

pub bytes-tested : (xs : List ℕ) → bytes_test xs ≡ true → Bytes xs
bytes-tested [] t = tt
bytes-tested (x ∷ xs) t =
    let both = (and-eq-true_iff (ltb x 256) (bytes_test xs)).0 t in
    (ltb-true x 256 both.0, bytes-tested xs both.1)

-- files that agree in registers and place-of-none agree everywhere
pub all-agree : (xs ys : List ℕ) (i : ℕ) (ds : List ℕ) → registers_at ys ds ≡ registers_at xs ds → (PlaceOfNone i ds → get_or ys i 0 ≡ get_or xs i 0)
    → get_or ys i 0 ≡ get_or xs i 0
all-agree xs ys i [] e f = f tt
all-agree xs ys i (d ∷ ds) e f =
    go (eqb i (place_of d)) refl (λ n. all-agree xs ys i ds (ap (drop 1) e) (λ o. f (n, o)))
  where
    go : (b : Bool) → eqb i (place_of d) ≡ b → ((i ≡ place_of d → ⊥) → get_or ys i 0 ≡ get_or xs i 0) → get_or ys i 0 ≡ get_or xs i 0
    go true t r = rw (eqb-true i (place_of d) t) (ap (λ (l : List ℕ). get_or l 0 0) e)
    go false t r = r (eqb-false i (place_of d) t)
