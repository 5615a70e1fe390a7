-- Packed rows give what rows give, where they are in range: no field runs into the next, so that one AND and one comparison say what five say, and one OR
-- what three do. Assumes nothing.
use mathlib.Core.Path.{◌≡◌, refl, sym, ap, ◌∙◌}
use mathlib.Core.Bool.{Bool, true, false, ◌&&◌, and-eq-true_iff}
use mathlib.Core.List.{List, [], ◌∷◌}
use Prim.Native.Nat.{ℕ, ◌+◌, ◌*◌, ◌/◌, ◌%◌, ◌^◌, ◌<◌}
use native.Mathlib.Nat.{lt_of_le_of_lt, mod-lt, mod-eq_of_lt, mul-add-div_right, mul-add-mod_self_right, div-eq_of_lt, add-zero}
use native.Mathlib.Omega.{arith}
use lib.Bits.{bit_and, bit_or, and_block, or_block, and_mod, and_le_r}
use lib.Dec.{eqb}
use lib.Pow.{pow_pos}
use borrow.Author.Tests.{eqb-true, eqb-false, eq-eqb, ne_eqb}
use Rattle.choose.specs.Ranged.{pick}
use Rattle.rows.specs.declared.Row.{Row}
use Rattle.rows.specs.declared.Inputs.{Inputs}
use Rattle.rows.specs.declared.Outputs.{Outputs}
use Rattle.rows.specs.Matching.{InMask}
use Rattle.rows.specs.Packing.{side_by_side, packed_of, packed_rows, key_of, matched_in, merged_in, scanned_in, outputs_in, scan_in}
use Rattle.rows.specs.Range.{row_in_range, rows_in_range, OutputsInRange}
use Rattle.rows.specs.Scan.{agrees, matched_of, ored, merged_of, none, scan_from, scan_of}
use Rattle.rows.proofs.Laws.{merged-in-range, scan-in-range}
use Rattle.rows.proofs.Matching.{in-mask-bits, row-in-range}

-- ---- one field of k bits, and those above it
module _ (k : ℕ) where
  low : (a p : ℕ) → p < 2 ^ k → (a * 2 ^ k + p) % 2 ^ k ≡ p
  low a p l = mul-add-mod_self_right a (2 ^ k) p ∙ mod-eq_of_lt l

  high : (a p : ℕ) → p < 2 ^ k → (a * 2 ^ k + p) / 2 ^ k ≡ a
  high a p l = mul-add-div_right (pow_pos k) a p ∙ ap (λ (n : ℕ). a + n) (div-eq_of_lt l) ∙ add-zero a

  equal-fields : (a b p q : ℕ) → p < 2 ^ k → q < 2 ^ k → eqb (a * 2 ^ k + p) (b * 2 ^ k + q) ≡ eqb p q && eqb a b
  equal-fields a b p q lp lq = go (eqb p q) (eqb a b) refl refl
    where
      go : (s t : Bool) → eqb p q ≡ s → eqb a b ≡ t → eqb (a * 2 ^ k + p) (b * 2 ^ k + q) ≡ s && t
      go true true e f = eq-eqb (a * 2 ^ k + p) (b * 2 ^ k + q) (rw (eqb-true p q e, eqb-true a b f))
      go true false e f = ne_eqb _ _ (λ h. eqb-false a b f (sym (high a p lp) ∙ ap (λ (n : ℕ). n / 2 ^ k) h ∙ high b q lq))
      go false t e f = ne_eqb _ _ (λ h. eqb-false p q e (sym (low a p lp) ∙ ap (λ (n : ℕ). n % 2 ^ k) h ∙ low b q lq))

  -- an input agrees with the row in this field and in those above it. The mask has no bit above the field, so the input's bits there are not seen
  agrees-below : (x mask value xs masks values : ℕ) → mask < 2 ^ k → value < 2 ^ k
      → agrees (xs * 2 ^ k + x % 2 ^ k) (masks * 2 ^ k + mask % 2 ^ k) (values * 2 ^ k + value % 2 ^ k) ≡ agrees x mask value && agrees xs masks values
  agrees-below x mask value xs masks values lm lv =
      rw (
        and_block k xs masks (x % 2 ^ k) (mask % 2 ^ k) (mod-lt x (pow_pos k)) (mod-lt mask (pow_pos k)),
        sym (and_mod x mask k) ∙ mod-eq_of_lt under,
        mod-eq_of_lt lv,
      )
      (equal-fields (bit_and xs masks) values (bit_and x mask) value under lv)
    where
      under : bit_and x mask < 2 ^ k
      under = lt_of_le_of_lt (and_le_r x mask) lm

-- ---- a row
side-fields : (i : Inputs)
    → side_by_side i ≡ (((i.tr * 2 ^ 7 + i.interrupts % 2 ^ 7) * 2 ^ 2 + i.tsr % 2 ^ 2) * 2 ^ 1 + i.rni % 2 ^ 1) * 2 ^ 11 + i.lc % 2 ^ 11
unfolding side_by_side
side-fields i = omega arith

-- a value that has no bit outside its mask is below what its mask is below
below : (n value mask : ℕ) → InMask value mask → mask < n → value < n
below n value mask f l = lt_of_le_of_lt (rw (eqb-true (bit_and value mask) value ((in-mask-bits mask value).1 f)) at (and_le_r value mask)) l

-- the tests in the order of the fields, and in the paper's
tests : (lc rni tr tsr interrupts : Bool) → lc && (rni && (tsr && (interrupts && tr))) ≡ lc && rni && tr && tsr && interrupts
tests false rni tr tsr interrupts = refl
tests true false tr tsr interrupts = refl
tests true true false false interrupts = refl
tests true true false true false = refl
tests true true false true true = refl
tests true true true false interrupts = refl
tests true true true true false = refl
tests true true true true true = refl

matched-packed : (r : Row) (i : Inputs) → row_in_range r ≡ true → matched_in (packed_of r) (key_of i) ≡ matched_of r i
unfolding matched_in packed_of matched_of
matched-packed r i h =
    let g = (row-in-range r).0 h in
    let lc = agrees i.lc r.mask.lc r.value.lc in
    let rni = agrees i.rni r.mask.rni r.value.rni in
    let tr = agrees i.tr r.mask.tr r.value.tr in
    let tsr = agrees i.tsr r.mask.tsr r.value.tsr in
    let interrupts = agrees i.interrupts r.mask.interrupts r.value.interrupts in
    rw (
      side-fields i,
      side-fields r.mask,
      side-fields r.value,
      agrees-below 11 _ _ _ _ _ _ g.lc-mask (below _ _ _ g.lc-value g.lc-mask),
      agrees-below 1 _ _ _ _ _ _ g.rni-mask (below _ _ _ g.rni-value g.rni-mask),
      agrees-below 2 _ _ _ _ _ _ g.tsr-mask (below _ _ _ g.tsr-value g.tsr-mask),
      agrees-below 7 _ _ _ _ _ _ g.interrupt-mask (below _ _ _ g.interrupt-value g.interrupt-mask),
    )
    (tests lc rni tr tsr interrupts)

-- ---- the outputs
abbrev packed_out : Outputs → ℕ
packed_out o = o.address + 0x1_0000 * o.lines + 0x100_0000 * o.new_tsr

out-fields : (address lines tsr : ℕ) → address + 0x1_0000 * lines + 0x100_0000 * tsr ≡ (tsr * 2 ^ 8 + lines) * 2 ^ 16 + address
out-fields address lines tsr = omega arith

ored-packed : (o : Outputs) (r : Row) → OutputsInRange o → row_in_range r ≡ true → bit_or (packed_out o) (packed_of r).outputs ≡ packed_out (ored o r.outputs)
unfolding packed_of
ored-packed o r g h =
    let w = (row-in-range r).0 h in
    rw (
      out-fields o.address o.lines o.new_tsr,
      out-fields r.outputs.address r.outputs.lines r.outputs.new_tsr,
      or_block 16 _ _ o.address r.outputs.address (omega arith) (omega arith),
      or_block 8 _ _ o.lines r.outputs.lines (omega arith) (omega arith),
    )
    (sym (out-fields _ _ _))

merged-packed : (o : Outputs) (r : Row) (i : Inputs) → OutputsInRange o → row_in_range r ≡ true
    → merged_in (packed_out o) (packed_of r) (key_of i) ≡ packed_out (merged_of o r i)
unfolding merged_in merged_of
merged-packed o r i g h = rw (matched-packed r i h, ored-packed o r g h) (go (matched_of r i))
  where
    go : (t : Bool) → pick t (packed_out (ored o r.outputs)) (packed_out o) ≡ packed_out (pick t (ored o r.outputs) o)
    go true = refl
    go false = refl

from-packed : (rs : List Row) (o : Outputs) (i : Inputs) → OutputsInRange o → rows_in_range rs ≡ true
    → scanned_in (packed_out o) (packed_rows rs) (key_of i) ≡ packed_out (scan_from o rs i)
unfolding scanned_in scan_from packed_rows rows_in_range
from-packed [] o i g h = refl
from-packed (r ∷ rs) o i g h =
    let (first, rest) = (and-eq-true_iff (row_in_range r) (rows_in_range rs)).0 h in
    ap (λ (n : ℕ). scanned_in n (packed_rows rs) (key_of i)) (merged-packed o r i g first)
    ∙ from-packed rs (merged_of o r i) i (merged-in-range o r i g first) rest

out-again : (o : Outputs) → OutputsInRange o → outputs_in (packed_out o) ≡ o
out-again o g =
    let address : packed_out o % 0x1_0000 ≡ o.address = omega arith in
    let above : packed_out o / 0x1_0000 ≡ o.lines + 0x100 * o.new_tsr = omega arith in
    let lines : packed_out o / 0x1_0000 % 0x100 ≡ o.lines = rw above (omega arith) in
    let tsr : packed_out o / 0x100_0000 ≡ o.new_tsr = omega arith in
    rw (address, lines, tsr)

-- rows in range give packed what they give
pub scan-packed : (rs : List Row) (i : Inputs) → rows_in_range rs ≡ true → scan_in (packed_rows rs) i ≡ scan_of rs i
scan-packed rs i h =
    ap outputs_in (from-packed rs none i (record { address = omega arith; lines = omega arith; tsr = omega arith }) h)
    ∙ out-again (scan_of rs i) (scan-in-range rs i h)
