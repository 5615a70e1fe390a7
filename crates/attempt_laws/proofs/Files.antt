-- The register file stays in range: 26 registers, each a byte, whatever byte is written and whatever cycles are run on it.
-- Assumes nothing.
use Prim.Native.Nat.{ℕ, ◌-◌, ◌<◌}
use mathlib.Core.Path.{◌≡◌, refl, ◌∙◌}
use mathlib.Core.Bool.{Bool, true, false, ◌&&◌}
use mathlib.Core.List.{List}
use native.Mathlib.Omega.{arith}
use lib.Bits.{and_lt, or_lt, xor_lt}
use lib.Dec.{T, eqb, ltb, ltb→lt}
use lib.ListN.{length, get_or}
use borrow.Author.Tests.{eqb-true, eqb-false}
use Rattle.alu.specs.Cycle.{subtract_of, kept_of, ones_of, left_of, right_of, cycle_of, high_first_of}
use Rattle.alu.specs.declared.Flags.{Flags}
use Rattle.alu.specs.declared.Kind.{Kind}
use Rattle.alu.proofs.Laws.{result-byte}
use Rattle.choose.proofs.Choice.{pick_all}
use Rattle.choose.proofs.Tests.{both_left, both_right, bit_le}
use Rattle.state.specs.File.{Leaves, slot_of, register_of, written_of}
use Rattle.state.proofs.Laws.{written-length, written_same, written-other}
use Rattle.cycles.specs.Cycles.{operand_of, step_of, one_cycle_of, one_then_other, two_cycles_of}
use Rattle.cycles.specs.declared.Designators.{Designators}
use Rattle.cycles.specs.declared.Operand.{Operand}
use Rattle.cycles.specs.declared.Plan.{Plan}

-- ---- one cycle's result is a byte

subtract-byte : (p q : ℕ) (c : Bool) → (subtract_of p q c).result < 256
unfolding subtract_of
subtract-byte p q c = result-byte p (255 - q) c

left-byte : (q : ℕ) (c : Bool) → (left_of q c).result < 256
unfolding left_of
left-byte q c = omega (arith, bit_le c)

right-byte : (q : ℕ) (c : Bool) → q < 256 → (right_of q c).result < 256
unfolding right_of
right-byte q c h = omega (arith, bit_le c)

pub cycle-byte : (k : Kind) (p q : ℕ) (c : Bool) (f : Flags) → p < 256 → q < 256 → (cycle_of k p q c f).result < 256
unfolding cycle_of kept_of ones_of
cycle-byte Kind.Add p q c f hp hq = result-byte p q c
cycle-byte Kind.Subtract p q c f hp hq = subtract-byte p q c
cycle-byte Kind.And p q c f hp hq = and_lt 8 p q hp hq
cycle-byte Kind.AndNot p q c f hp hq = and_lt 8 p (255 - q) hp (omega arith)
cycle-byte Kind.Or p q c f hp hq = or_lt 8 p q hp hq
cycle-byte Kind.Exclusive p q c f hp hq = xor_lt 8 p q hp hq
cycle-byte Kind.Move p q c f hp hq = hq
cycle-byte Kind.Ones p q c f hp hq = omega arith
cycle-byte Kind.Left p q c f hp hq = left-byte q c
cycle-byte Kind.Right p q c f hp hq = right-byte q c hq

-- ---- the file

-- InRange's part of the file
pub record FileInRange (xs : List ℕ) : Type 0 where
  pub size : length xs ≡ 26
  pub bytes : (i : ℕ) → get_or xs i 0 < 256

pub register-byte : (xs : List ℕ) (g d : ℕ) → FileInRange xs → register_of xs g d < 256
unfolding register_of
register-byte xs g d h = h.bytes (slot_of g d)

-- what stands in the file after a write is what was written, or stood there
written-bytes : (xs : List ℕ) (g d v i : ℕ) → FileInRange xs → v < 256 → get_or (written_of xs g d v) i 0 < 256
unfolding register_of
written-bytes xs g d v i h l = go (eqb i (slot_of g d)) refl
  where
    go : (t : Bool) → eqb i (slot_of g d) ≡ t → get_or (written_of xs g d v) i 0 < 256
    go true e = rw (eqb-true i (slot_of g d) e, written_same xs g d v h.size) l
    go false e = rw (written-other xs g d v i (eqb-false i (slot_of g d) e)) (h.bytes i)

pub written-in-range : (xs : List ℕ) (g d v : ℕ) → FileInRange xs → v < 256 → FileInRange (written_of xs g d v)
written-in-range xs g d v h l =
    record { size = written-length xs g d v ∙ h.size; bytes = λ i. written-bytes xs g d v i h l }

-- ---- cycles on the file

-- a number among the operands has 16 bits: each cycle takes a byte of it
abbrev pub fits : Operand → Bool
fits Operand.A = true
fits Operand.B = true
fits (Operand.Number n) = ltb n 65536

abbrev pub plan_fits : Plan → Bool
plan_fits plan = fits plan.p && fits plan.q

operand-byte : (o : Operand) (ra rb : ℕ) (high : Bool) → T (fits o) → ra < 256 → rb < 256 → operand_of o ra rb high < 256
unfolding operand_of
operand-byte Operand.A ra rb high t ha hb = ha
operand-byte Operand.B ra rb high t ha hb = hb
operand-byte (Operand.Number n) ra rb true t ha hb = omega (arith, ltb→lt n 65536 t)
operand-byte (Operand.Number n) ra rb false t ha hb = omega (arith, ltb→lt n 65536 t)

module _ (g : ℕ) (f : Flags) (plan : Plan) (t : T (plan_fits plan)) where
  step-in-range : (xs : List ℕ) (at : Designators) (carry high : Bool) → FileInRange xs → FileInRange (step_of xs g f plan at carry high).file
  unfolding step_of
  step-in-range xs at carry high h =
      let ra = register-byte xs g at.a h in
      let rb = register-byte xs g at.b h in
      let p = operand-byte plan.p _ _ high (both_left (fits plan.p) (fits plan.q) t) ra rb in
      let q = operand-byte plan.q _ _ high (both_right (fits plan.p) (fits plan.q) t) ra rb in
      pick_all FileInRange plan.stores _ xs (written-in-range xs g at.a _ h (cycle-byte plan.kind _ _ carry f p q)) h

  pub one-cycle-in-range : (xs : List ℕ) (at : Designators) (odd : Bool) → FileInRange xs → FileInRange (one_cycle_of xs g f plan at odd).file
  unfolding one_cycle_of
  one-cycle-in-range xs at odd h = step-in-range xs at plan.carry false h

  joined-in-range : (xs : List ℕ) (one other : Designators) (high odd : Bool) → FileInRange xs
      → FileInRange (one_then_other xs g f plan one other high odd).file
  joined-in-range xs one other high odd h =
      step-in-range _ other _ _ (step-in-range xs one plan.carry high h)

  pub two-cycles-in-range : (xs : List ℕ) (low high : Designators) (odd : Bool) → FileInRange xs → FileInRange (two_cycles_of xs g f plan low high odd).file
  unfolding two_cycles_of
  two-cycles-in-range xs low high odd h =
      pick_all (λ (m : Leaves Flags). FileInRange m.file) (high_first_of plan.kind) _ _ (joined-in-range xs high low true odd h)
      (joined-in-range xs low high false odd h)
