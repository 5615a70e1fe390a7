-- Masks and OR bit by bit. Assumes nothing.
use mathlib.Core.Path.{◌≡◌, refl, sym, ap, ◌∙◌}
use mathlib.Core.Bool.{Bool, true, false, ◌&&◌, false≢true}
use mathlib.Core.List.{List, [], ◌∷◌}
use mathlib.Core.Logic.{◌↔◌, ◌⊎◌, inl, inr, ⊎_elim}
use Prim.Native.Nat.{ℕ, zero, suc, ◌/◌, ◌<◌, min, max}
use native.Mathlib.Omega.{arith}
use lib.Arith.{bin_ind}
use lib.Bits.{bit_and, bit_or, and_step, or_step}
use lib.Dec.{eqb, leb}
use borrow.Author.Tests.{eqb-true, eqb-false, eq-eqb, leb-true, le-leb}
use Rattle.choose.specs.Bits.{bit_at}
use Rattle.choose.specs.Ranged.{pick}
use Rattle.choose.proofs.Tests.{both_true, three}
use Rattle.rows.specs.Matching.{EqualUnder, Matches, InMask, RowInRange, SomeRow}
use Rattle.rows.specs.Range.{in_mask, masks_fit, outputs_fit, values_in_masks, row_in_range}
use Rattle.rows.specs.Scan.{agrees, matched_of, ored, merged_of, none, scan_from, scan_of}
use Rattle.rows.specs.declared.Row.{Row}
use Rattle.rows.specs.declared.Inputs.{Inputs}
use Rattle.rows.specs.declared.Outputs.{Outputs}

-- ---- bits
bit_below : (x j : ℕ) → bit_at x j < 2
bit_below x zero = omega arith
bit_below x (suc j) = bit_below (x / 2) j

-- the bits of an AND and of an OR are those of the operands
and-bit : (j x y : ℕ) → bit_at (bit_and x y) j ≡ min (bit_at x j) (bit_at y j)
and-bit zero x y = omega (arith, and_step x y)
and-bit (suc j) x y =
    let half : bit_and x y / 2 ≡ bit_and (x / 2) (y / 2) = omega (arith, and_step x y) in
    rw half (and-bit j (x / 2) (y / 2))

or-bit : (j x y : ℕ) → bit_at (bit_or x y) j ≡ max (bit_at x j) (bit_at y j)
or-bit zero x y = omega (arith, or_step x y)
or-bit (suc j) x y =
    let half : bit_or x y / 2 ≡ bit_or (x / 2) (y / 2) = omega (arith, or_step x y) in
    rw half (or-bit j (x / 2) (y / 2))

-- numbers with the same bits are equal
zero_bit : (j : ℕ) → bit_at 0 j ≡ 0
zero_bit zero = refl
zero_bit (suc j) = zero_bit j

no_bits : (x : ℕ) → ((j : ℕ) → bit_at x j ≡ 0) → x ≡ 0
no_bits = bin_ind (λ (n : ℕ). ((j : ℕ) → bit_at n j ≡ 0) → n ≡ 0) (λ e. refl) (λ n h e. omega (arith, h (λ j. e (suc j)), e 0))

same_bits : (x y : ℕ) → ((j : ℕ) → bit_at x j ≡ bit_at y j) → x ≡ y
same_bits =
    bin_ind (λ (n : ℕ). (y : ℕ) → ((j : ℕ) → bit_at n j ≡ bit_at y j) → n ≡ y)
    (λ y e. sym (no_bits y (λ j. sym (e j) ∙ zero_bit j)))
    (λ n h y e. omega (arith, h (y / 2) (λ j. e (suc j)), e 0))

-- ---- one mask and its value
module _ (mask value : ℕ) where
  -- "a row value with a bit outside its mask" is one that its mask changes
  pub in-mask-bits : (in_mask value mask ≡ true) ↔ InMask value mask
  in-mask-bits = (
    (λ t j h. omega (arith, and-bit j value mask, ap (λ (n : ℕ). bit_at n j) (eqb-true (bit_and value mask) value t), bit_below mask j)),
    (λ f. eq-eqb _ _ (same_bits _ value (λ j. kept j f (eqb (bit_at value j) 1) refl))),
  )
    where
      kept : (j : ℕ) → InMask value mask → (t : Bool) → eqb (bit_at value j) 1 ≡ t → bit_at (bit_and value mask) j ≡ bit_at value j
      kept j f true q = omega (arith, and-bit j value mask, eqb-true (bit_at value j) 1 q, f j (eqb-true _ _ q))
      kept j f false q = omega (arith, and-bit j value mask, eqb-false (bit_at value j) 1 q, bit_below value j)

  -- "under its masks, .. equal its values"
  agrees-bits : InMask value mask → (x : ℕ) → (agrees x mask value ≡ true) ↔ EqualUnder x mask value
  agrees-bits inside x = (
    (λ t j h. omega (arith, and-bit j x mask, ap (λ (n : ℕ). bit_at n j) (eqb-true (bit_and x mask) value t), bit_below x j)),
    (λ f. eq-eqb _ _ (same_bits _ value (λ j. same j f (eqb (bit_at mask j) 1) refl))),
  )
    where
      same : (j : ℕ) → EqualUnder x mask value → (t : Bool) → eqb (bit_at mask j) 1 ≡ t → bit_at (bit_and x mask) j ≡ bit_at value j
      same j f true q = omega (arith, and-bit j x mask, eqb-true (bit_at mask j) 1 q, f j (eqb-true _ _ q), bit_below x j)
      same j f false q = go (eqb (bit_at value j) 1) refl
        where
          go : (t : Bool) → eqb (bit_at value j) 1 ≡ t → bit_at (bit_and x mask) j ≡ bit_at value j
          go true u = absurd (eqb-false _ 1 q (inside j (eqb-true _ _ u)))
          go false u = omega (arith, and-bit j x mask, eqb-false (bit_at mask j) 1 q, bit_below mask j, eqb-false (bit_at value j) 1 u, bit_below value j)

-- ---- a row
five : (a b c d e : Bool) → a && b && c && d && e ≡ true → (a ≡ true) × (b ≡ true) × (c ≡ true) × (d ≡ true) × (e ≡ true)
five a b c d e h =
    let (four, last) = both_true (a && b && c && d) e h in
    let (first, fourth) = both_true (a && b && c) d four in
    let (one, two, third) = three a b c first in
    (one, two, third, fourth, last)

module _ (r : Row) where
  -- "a row out of range", told by its bits
  pub row-in-range : (row_in_range r ≡ true) ↔ RowInRange r
  unfolding row_in_range masks_fit outputs_fit values_in_masks
  row-in-range = (to, from)
    where
      to : row_in_range r ≡ true → RowInRange r
      to h =
          let (masks, outputs, values) = three (masks_fit r.mask) (outputs_fit r.outputs) (values_in_masks r) h in
          let inputs = leb r.mask.lc 2047 && leb r.mask.rni 1 && leb r.mask.tsr 3 in
          let (three-masks, interrupts) = both_true inputs (leb r.mask.interrupts 127) masks in
          let (lc, rni, tsr) = three (leb r.mask.lc 2047) (leb r.mask.rni 1) (leb r.mask.tsr 3) three-masks in
          let (address, lines, new) = three (leb r.outputs.address 2047) (leb r.outputs.lines 7) (leb r.outputs.new_tsr 7) outputs in
          let (a, b, c, d, e) =
          five (in_mask r.value.lc r.mask.lc) (in_mask r.value.rni r.mask.rni) (in_mask r.value.tr r.mask.tr)
          (in_mask r.value.tsr r.mask.tsr) (in_mask r.value.interrupts r.mask.interrupts) values in
          record {
            lc-mask = omega (arith, leb-true r.mask.lc 2047 lc);
            rni-mask = omega (arith, leb-true r.mask.rni 1 rni);
            tsr-mask = omega (arith, leb-true r.mask.tsr 3 tsr);
            interrupt-mask = omega (arith, leb-true r.mask.interrupts 127 interrupts);
            lc-value = (in-mask-bits r.mask.lc r.value.lc).0 a;
            rni-value = (in-mask-bits r.mask.rni r.value.rni).0 b;
            tr-value = (in-mask-bits r.mask.tr r.value.tr).0 c;
            tsr-value = (in-mask-bits r.mask.tsr r.value.tsr).0 d;
            interrupt-value = (in-mask-bits r.mask.interrupts r.value.interrupts).0 e;
            address = omega (arith, leb-true r.outputs.address 2047 address);
            lines = omega (arith, leb-true r.outputs.lines 7 lines);
            new-tsr = omega (arith, leb-true r.outputs.new_tsr 7 new);
          }

      from : RowInRange r → row_in_range r ≡ true
      from h =
          rw (
            le-leb r.mask.lc 2047 (omega arith),
            le-leb r.mask.rni 1 (omega arith),
            le-leb r.mask.tsr 3 (omega arith),
            le-leb r.mask.interrupts 127 (omega arith),
            le-leb r.outputs.address 2047 (omega arith),
            le-leb r.outputs.lines 7 (omega arith),
            le-leb r.outputs.new_tsr 7 (omega arith),
            (in-mask-bits r.mask.lc r.value.lc).1 h.lc-value,
            (in-mask-bits r.mask.rni r.value.rni).1 h.rni-value,
            (in-mask-bits r.mask.tr r.value.tr).1 h.tr-value,
            (in-mask-bits r.mask.tsr r.value.tsr).1 h.tsr-value,
            (in-mask-bits r.mask.interrupts r.value.interrupts).1 h.interrupt-value,
          )

  -- "A row matches when, under its masks, .. equal its values"
  pub matches-exactly : row_in_range r ≡ true → (i : Inputs) → (matched_of r i ≡ true) ↔ Matches r i
  unfolding matched_of
  matches-exactly h i = (
    (λ t.
        let (a, b, c, d, e) = five _ _ _ _ _ t in
        record { lc = lc.0 a; rni = rni.0 b; tr = tr.0 c; tsr = tsr.0 d; interrupts = interrupts.0 e }),
    (λ m. rw (lc.1 m.lc, rni.1 m.rni, tr.1 m.tr, tsr.1 m.tsr, interrupts.1 m.interrupts)),
  )
    where
      lc : (agrees i.lc r.mask.lc r.value.lc ≡ true) ↔ EqualUnder i.lc r.mask.lc r.value.lc
      lc = agrees-bits r.mask.lc r.value.lc (row-in-range.0 h).lc-value i.lc

      rni : (agrees i.rni r.mask.rni r.value.rni ≡ true) ↔ EqualUnder i.rni r.mask.rni r.value.rni
      rni = agrees-bits r.mask.rni r.value.rni (row-in-range.0 h).rni-value i.rni

      tr : (agrees i.tr r.mask.tr r.value.tr ≡ true) ↔ EqualUnder i.tr r.mask.tr r.value.tr
      tr = agrees-bits r.mask.tr r.value.tr (row-in-range.0 h).tr-value i.tr

      tsr : (agrees i.tsr r.mask.tsr r.value.tsr ≡ true) ↔ EqualUnder i.tsr r.mask.tsr r.value.tsr
      tsr = agrees-bits r.mask.tsr r.value.tsr (row-in-range.0 h).tsr-value i.tsr

      interrupts : (agrees i.interrupts r.mask.interrupts r.value.interrupts ≡ true)
          ↔ EqualUnder i.interrupts r.mask.interrupts r.value.interrupts
      interrupts = agrees-bits r.mask.interrupts r.value.interrupts (row-in-range.0 h).interrupt-value i.interrupts

-- ---- the outputs of all rows
module _ (out : Outputs → ℕ) (joins : (o p : Outputs) → out (ored o p) ≡ bit_or (out o) (out p)) (i : Inputs) (j : ℕ) where
  -- bit j is 1 already, or becomes so by a row that matches
  abbrev Set : Outputs → List Row → Type 0
  Set o rs = (bit_at (out o) j ≡ 1) ⊎ SomeRow out j i rs

  -- one more row that matches
  joined : (o p : Outputs) → (bit_at (out (ored o p)) j ≡ 1) ↔ ((bit_at (out o) j ≡ 1) ⊎ (bit_at (out p) j ≡ 1))
  joined o p = (
    (λ h. go h (eqb (bit_at (out o) j) 1) refl),
    (λ h. ⊎_elim (λ a. omega (arith, both, bit_below (out p) j)) (λ a. omega (arith, both, bit_below (out o) j)) h),
  )
    where
      both : bit_at (out (ored o p)) j ≡ max (bit_at (out o) j) (bit_at (out p) j)
      both = ap (λ (n : ℕ). bit_at n j) (joins o p) ∙ or-bit j (out o) (out p)

      go : bit_at (out (ored o p)) j ≡ 1 → (t : Bool) → eqb (bit_at (out o) j) 1 ≡ t → (bit_at (out o) j ≡ 1) ⊎ (bit_at (out p) j ≡ 1)
      go h true q = inl (eqb-true _ _ q)
      go h false q = inr (omega (arith, both, eqb-false (bit_at (out o) j) 1 q, bit_below (out o) j))

  scan-set : (rs : List Row) (o : Outputs) → (bit_at (out (scan_from o rs i)) j ≡ 1) ↔ Set o rs
  unfolding scan_from merged_of
  scan-set [] o = (inl, λ h. ⊎_elim (λ a. a) (λ a. absurd a) h)
  scan-set (r ∷ rs) o = step (matched_of r i) refl (scan-set rs (ored o r.outputs)) (scan-set rs o)
    where
      step : (t : Bool) → matched_of r i ≡ t
          → (bit_at (out (scan_from (ored o r.outputs) rs i)) j ≡ 1) ↔ Set (ored o r.outputs) rs → (bit_at (out (scan_from o rs i)) j ≡ 1) ↔ Set o rs
          → (bit_at (out (scan_from (pick t (ored o r.outputs) o) rs i)) j ≡ 1) ↔ Set o (r ∷ rs)
      step true q f g = (
        (λ h. ⊎_elim (λ a. ⊎_elim inl (λ b. inr (inl (q, b))) ((joined o r.outputs).0 a)) (λ a. inr (inr a)) (f.0 h)),
        (λ h. f.1 (⊎_elim (λ a. inl ((joined o r.outputs).1 (inl a))) (λ a. ⊎_elim (λ b. inl ((joined o r.outputs).1 (inr b.1))) inr a) h)),
      )
      step false q f g = (
        (λ h. ⊎_elim inl (λ a. inr (inr a)) (g.0 h)),
        (λ h. g.1 (⊎_elim inl (λ a. ⊎_elim (λ b. absurd (false≢true (sym q ∙ b.0))) inr a) h)),
      )

  -- nothing is put out before the first row
  from-none : out none ≡ 0 → (rs : List Row) → (bit_at (out (scan_of rs i)) j ≡ 1) ↔ SomeRow out j i rs
  from-none z rs = (
    (λ h. ⊎_elim (λ a. absurd (omega (arith, ap (λ (n : ℕ). bit_at n j) z, zero_bit j))) (λ a. a) ((scan-set rs none).0 h)),
    (λ h. (scan-set rs none).1 (inr h)),
  )

-- "Outputs of all matching rows are ORed": a bit of an output is 1 exactly if it is 1 in some row that matches
module _ (rs : List Row) (i : Inputs) (j : ℕ) where
  pub address-ored : (bit_at (scan_of rs i).address j ≡ 1) ↔ SomeRow (λ o. o.address) j i rs
  address-ored = from-none (λ o. o.address) (λ o p. refl) i j refl rs

  pub lines-ored : (bit_at (scan_of rs i).lines j ≡ 1) ↔ SomeRow (λ o. o.lines) j i rs
  lines-ored = from-none (λ o. o.lines) (λ o p. refl) i j refl rs

  pub new-tsr-ored : (bit_at (scan_of rs i).new_tsr j ≡ 1) ↔ SomeRow (λ o. o.new_tsr) j i rs
  new-tsr-ored = from-none (λ o. o.new_tsr) (λ o p. refl) i j refl rs
