-- "k from 1 to 7": fourteen registers are directly addressed, so 2k different ones are no more. Assumes nothing.
use Prim.Native.Nat.{ℕ, zero, suc, ◌+◌, ◌<◌, ◌≤◌}
use mathlib.Core.Path.{◌≡◌, refl}
use mathlib.Core.Bool.{Bool, true, false}
use mathlib.Core.List.{List, [], ◌∷◌, ◌++◌}
use native.Mathlib.Omega.{arith}
use lib.Dec.{eqb, ltb}
use lib.ListN.{length, length-append}
use borrow.Author.Tests.{eqb-true, eqb-false, ltb-true, ltb-false}
use Rattle.sums.specs.Sums.{Cut, targets, sources, byte_count, Absent, Different, Fair}
use Rattle.sums.specs.Sums.Step.{byte}
use Rattle.sums.proofs.Given.{same_length}

-- n numbers from 2 on, and different ones of them
abbrev Within : ℕ → List ℕ → Type 0
Within n [] = Unit {0}
Within n (d ∷ ds) = (2 ≤ d) × (d < n + 2) × Absent d ds × Within n ds

-- ds without the number t
abbrev skipped : Bool → ℕ → List ℕ → List ℕ → List ℕ
skipped true d ds es = ds
skipped false d ds es = d ∷ es

abbrev without : ℕ → List ℕ → List ℕ
without t [] = []
without t (d ∷ ds) = skipped (eqb d t) d ds (without t ds)

without-length : (t : ℕ) (ds : List ℕ) → length ds ≤ suc (length (without t ds))
without-length t [] = omega arith
without-length t (d ∷ ds) = go (eqb d t) (without-length t ds)
  where
    go : (b : Bool) → length ds ≤ suc (length (without t ds)) → length (d ∷ ds) ≤ suc (length (skipped b d ds (without t ds)))
    go true h = omega arith
    go false h = omega arith

without-absent : (e t : ℕ) (ds : List ℕ) → Absent e ds → Absent e (without t ds)
without-absent e t [] h = tt
without-absent e t (d ∷ ds) h = go (eqb d t) (without-absent e t ds h.1)
  where
    go : (b : Bool) → Absent e (without t ds) → Absent e (skipped b d ds (without t ds))
    go true a = h.1
    go false a = (h.0, a)

not_last : (n d : ℕ) → d < suc n + 2 → (d ≡ n + 2 → ⊥) → d < n + 2
not_last n d h other = go (ltb d (n + 2)) refl
  where
    go : (b : Bool) → ltb d (n + 2) ≡ b → d < n + 2
    go true t = ltb-true d (n + 2) t
    go false t = absurd (other (omega (arith, ltb-false d (n + 2) t)))

-- without the last of the n + 1 they are of the first n
fewer : (n : ℕ) (ds : List ℕ) → Within (suc n) ds → Absent (n + 2) ds → Within n ds
fewer n [] h a = tt
fewer n (d ∷ ds) h a = (h.0, not_last n d h.1 (λ e. a.0 (omega arith)), h.2, fewer n ds h.3 a.1)

without-last : (n : ℕ) (ds : List ℕ) → Within (suc n) ds → Within n (without (n + 2) ds)
without-last n [] h = tt
without-last n (d ∷ ds) h = go (eqb d (n + 2)) refl (without-last n ds h.3)
  where
    go : (b : Bool) → eqb d (n + 2) ≡ b → Within n (without (n + 2) ds) → Within n (skipped b d ds (without (n + 2) ds))
    go true t w = fewer n ds h.3 (rw (eqb-true d (n + 2) t) at h.2)
    go false t w = (h.0, not_last n d h.1 (eqb-false d (n + 2) t), without-absent d (n + 2) ds h.2, w)

few : (n : ℕ) (ds : List ℕ) → Within n ds → length ds ≤ n
few zero [] h = omega arith
few zero (d ∷ ds) h = absurd (omega (arith, h.0, h.1))
few (suc n) ds h = omega (arith, without-length (n + 2) ds, few n (without (n + 2) ds) (without-last n ds h))

fourteen : (ds : List ℕ) → Different ds → Within 14 ds
fourteen [] h = tt
fourteen (d ∷ ds) h = (h.0, omega (arith, h.1), h.2, fourteen ds h.3)

pub at-most-seven : (cut : Cut) → Fair cut → byte_count cut ≤ 7
at-most-seven cut f =
    let registers = few 14 (targets cut ++ sources cut) (fourteen (targets cut ++ sources cut) f.different) in
    omega (arith, simp length-append at registers, same_length cut)

-- ---- and seven there can be: n registers from d on

abbrev up_from : ℕ → ℕ → List ℕ
up_from d zero = []
up_from d (suc n) = d ∷ up_from (suc d) n

up-absent : (e d n : ℕ) → e < d → Absent e (up_from d n)
up-absent e d zero h = tt
up-absent e d (suc n) h = ((λ q. omega arith), up-absent e (suc d) n (omega arith))

up-different : (d n : ℕ) → 2 ≤ d → d + n ≤ 16 → Different (up_from d n)
up-different d zero lo hi = tt
up-different d (suc n) lo hi = (lo, omega arith, up-absent d (suc d) n (omega arith), up-different (suc d) n (omega arith) (omega arith))

pub seven : Fair (byte 2 9 ∷ byte 3 10 ∷ byte 4 11 ∷ byte 5 12 ∷ byte 6 13 ∷ byte 7 14 ∷ byte 8 15 ∷ [])
seven = record { some = omega arith; different = up-different 2 14 (omega arith) (omega arith); even = tt }
