-- What a step leaves in the registers and the flags: one byte cycle, with 255 - q for a difference, and a pair step is two of them. Assumes nothing.
use Prim.Native.Nat.{ℕ, suc, ◌-◌, ◌%◌, ◌≤◌}
use mathlib.Core.Path.{◌≡◌, refl, ◌∙◌}
use mathlib.Core.Bool.{Bool, true, false, ◌&&◌}
use mathlib.Core.List.{List}
use native.Mathlib.Omega.{arith}
use lib.Dec.{eqb, leb}
use lib.ListN.{get_or, set}
use Rattle.alu.specs.Cycle.{add_of, subtract_of, cycle_of}
use Rattle.alu.specs.Marks.{after_of, after_byte_of, after_word_of}
use Rattle.alu.specs.declared.Cycle.{Cycle}
use Rattle.alu.specs.declared.Flags.{Flags}
use Rattle.cycles.specs.Cycles.{operand_of, step_of, one_cycle_of, two_cycles_of}
use Rattle.execute.specs.Execute.{designators, registers_of}
use Rattle.state.proofs.Laws.{slot_is}
use Rattle.state.proofs.Pairs.{high-of-even}
use Rattle.state.specs.File.{Leaves, leaves, slot_of, register_of, written_of}
use Rattle.state.specs.declared.Core.{Core}
use Rattle.sums.specs.Sums.{Step, Sign, step_code, c8_of, is_pair, source_of, target_of, place_of}
use Rattle.sums.specs.Sums.Sign.{plus, minus}
use Rattle.sums.specs.Sums.Step.{byte, pair}
use Rattle.sums.proofs.Codes.{step_carry, kind_of, plan_for, cycles-are}

-- what a cycle adds to p
abbrev pub addend : Sign → ℕ → ℕ
addend plus q = q
addend minus q = 255 - q

abbrev pub cycle_with : Sign → ℕ → ℕ → Bool → Cycle
cycle_with sign p q c =
    let y = add_of p (addend sign q) c in
    record { result = y.result; c4 = y.c4; c8 = y.c8; v = y.v; c = c8_of sign y.c8 }

cycle-is : (sign : Sign) (p q : ℕ) (c : Bool) (f : Flags) → cycle_of (kind_of sign) p q c f ≡ cycle_with sign p q c
unfolding cycle_of add_of subtract_of
cycle-is plus p q c f = refl
cycle-is minus p q c f = refl

-- the flags of an odd code
abbrev pub odd_code_flags : Cycle → Bool → Flags
odd_code_flags y zero =
    let negative = leb 128 y.result in
    record { n = negative; z = zero; v = y.v; c = y.c; nb = negative; zb = zero; c4 = y.c4; c8 = y.c8 }

-- the cycle on the registers a and b, and the file with its result in a
abbrev pub cycle_at : Sign → List ℕ → Bool → ℕ → ℕ → Cycle
cycle_at sign xs c a b = cycle_with sign (get_or xs (place_of a) 0) (get_or xs (place_of b) 0) c

abbrev pub file_at : Sign → List ℕ → Bool → ℕ → ℕ → List ℕ
file_at sign xs c a b = set xs (place_of a) (cycle_at sign xs c a b).result

abbrev pub step_made : Sign → List ℕ → Bool → Step → Leaves Flags
step_made sign xs c (byte a b) = let y = cycle_at sign xs c a b in leaves (file_at sign xs c a b) (odd_code_flags y (eqb y.result 0))
step_made sign xs c (pair a b) =
    let y = cycle_at sign xs c a b in
    let ys = file_at sign xs c a b in
    let z = cycle_at sign ys y.c8 (suc a) (suc b) in
    leaves (file_at sign ys y.c8 (suc a) (suc b)) (odd_code_flags z (eqb y.result 0 && eqb z.result 0))

-- the designator designators its register whatever G is
abbrev Named : ℕ → ℕ → Type 0
Named g d = slot_of g d ≡ place_of d

one-is : (sign : Sign) (xs : List ℕ) (g : ℕ) (f : Flags) (c : Bool) (a b : ℕ) → Named g a → Named g b
    → one_cycle_of xs g f (plan_for sign c) (designators a b) true ≡ step_made sign xs c (byte a b)
unfolding one_cycle_of step_of operand_of after_byte_of after_of register_of written_of
one-is sign xs g f c a b na nb = rw (cycle-is, na, nb)

-- neither kind begins at the high byte
two_is : (sign : Sign) (xs : List ℕ) (g : ℕ) (f : Flags) (c : Bool) (a b : ℕ) → Named g a → Named g b → Named g (suc a) → Named g (suc b)
    → two_cycles_of xs g f (plan_for sign c) (designators a b) (designators (suc a) (suc b)) true ≡ step_made sign xs c (pair a b)
unfolding two_cycles_of step_of operand_of after_word_of after_of register_of written_of
two_is plus xs g f c a b na nb ma mb = simp (cycle-is, na, nb, ma, mb)
two_is minus xs g f c a b na nb ma mb = simp (cycle-is, na, nb, ma, mb)

-- the designators of a step's word are direct, and even where they have to be
abbrev pub Fits : Step → Type 0
Fits (byte a b) = (2 ≤ a) × (a ≤ 0xF) × (2 ≤ b) × (b ≤ 0xF)
Fits (pair a b) = (2 ≤ a) × (suc a ≤ 0xF) × (2 ≤ b) × (suc b ≤ 0xF) × (a % 2 ≡ 0) × (b % 2 ≡ 0)

pub step_is : (sign : Sign) (later : Bool) (t : Step) (xs : List ℕ) (k : Core) (dal : ℕ) → Fits t
    → registers_of xs k dal (step_code sign later (is_pair t)) (source_of t) (target_of t) ≡ step_made sign xs (step_carry sign later k.flags) t
step_is sign later (byte a b) xs k dal h =
    let g = k.latches.g in
    cycles-are sign later false xs k dal b a
    ∙ one-is sign xs g k.flags (step_carry sign later k.flags) a b (slot_is g a (omega arith) (omega arith)) (slot_is g b (omega arith) (omega arith))
step_is sign later (pair a b) xs k dal h =
    let g = k.latches.g in
    cycles-are sign later true xs k dal b a
    ∙ rw (high-of-even a h.4 (omega arith), high-of-even b h.5 (omega arith))
    (two_is sign xs g k.flags (step_carry sign later k.flags) a b
    (slot_is g a (omega arith) (omega arith)) (slot_is g b (omega arith) (omega arith))
    (slot_is g (suc a) (omega arith) (omega arith)) (slot_is g (suc b) (omega arith) (omega arith)))
