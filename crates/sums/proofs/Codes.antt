-- What the register codes 80-DF share, and what the eight codes are. Assumes nothing.
use Prim.Native.Nat.{ℕ, ◌+◌, ◌<◌, ◌≤◌}
use mathlib.Core.Path.{◌≡◌, refl}
use mathlib.Core.Bool.{Bool, true, false, not}
use mathlib.Core.List.{List}
use native.Mathlib.Omega.{arith}
use lib.Dec.{eqb}
use borrow.Author.Tests.{ne_eqb}
use Rattle.alu.specs.declared.Flags.{Flags}
use Rattle.alu.specs.declared.Kind.{Kind}
use Rattle.checks.specs.Checks.{waiting_of}
use Rattle.choose.proofs.Ranged.{in-arm}
use Rattle.choose.specs.Ranged.{bit, ranged}
use Rattle.code.specs.declared.Waits.{Waits}
use Rattle.code.specs.CodeRows.{class_of, cycles_of, waits_of, options_of, word_bit}
use Rattle.code.specs.declared.Class.{Class}
use Rattle.control.specs.Bus.{bus_after, request_of}
use Rattle.control.specs.Latches.{used, latches_after}
use Rattle.cycles.specs.Cycles.{one_cycle_of, two_cycles_of}
use Rattle.cycles.specs.declared.Operand.{Operand}
use Rattle.cycles.specs.declared.Plan.{Plan}
use Rattle.execute.specs.Execute.{designators, registers_of, conditioned_of, operation_of}
use Rattle.plan.specs.Plan.{plan_with, plan_of, condition_met}
use Rattle.state.specs.File.{Leaves, high_of}
use Rattle.state.specs.declared.Bus.{Bus}
use Rattle.state.specs.declared.Core.{Core}
use Rattle.state.specs.declared.Latches.{Latches}
use Rattle.state.specs.declared.Sample.{Sample}
use Rattle.sums.specs.Sums.{Sign, step_code}
use Rattle.sums.specs.Sums.Sign.{plus, minus}

-- ---- 80-DF: a cycle for a byte and two for a pair, any option, no wait, no request; bus and latches stay

abbrev pub Working : ℕ → Type 0
Working c = (0x80 ≤ c) × (c < 0xE0)

module _ (c : ℕ) (h : Working c) where
  pub cycles : cycles_of c ≡ 1 + word_bit c
  unfolding cycles_of
  cycles = in-arm c _ _ 2 0x80 tt h.0 (omega arith)

  pub options : options_of c ≡ 15
  unfolding options_of
  options = in-arm c _ _ 0 0x80 tt h.0 h.1

  no-waits : waits_of c ≡ Waits.Never
  unfolding waits_of
  no-waits = in-arm c _ _ 0 0x80 tt h.0 h.1

  pub goes_on : (s : Sample) → waiting_of c s ≡ false
  unfolding waiting_of
  goes_on s = rw no-waits

  pub bus-kept : (bus : Bus) (rmw : Bool) (pair : ℕ) → bus_after bus c rmw pair ≡ bus
  unfolding bus_after
  bus-kept bus rmw pair = in-arm c _ _ 0 0x80 tt h.0 h.1

  pub latches-kept : (l : Latches) (b ra pair : ℕ) (s : Sample) → latches_after l c b ra pair s ≡ used l
  unfolding latches_after
  latches-kept l b ra pair s = in-arm c _ _ 5 0x80 tt h.0 (omega arith)

  pub no-request : (pair dal : ℕ) → request_of c pair dal ≡ 0
  unfolding request_of
  no-request pair dal = in-arm c _ _ 0 0x80 tt h.0 h.1

  pub no-rtsr : eqb c 0x74 ≡ false
  no-rtsr = ne_eqb c 0x74 (λ e. omega arith)

-- ---- the eight

-- a fact of each is a fact of all
each : (P : Sign → Bool → Bool → ℕ → Type 0)
    → P plus false false (step_code plus false false) → P plus false true (step_code plus false true)
    → P plus true false (step_code plus true false) → P plus true true (step_code plus true true)
    → P minus false false (step_code minus false false) → P minus false true (step_code minus false true)
    → P minus true false (step_code minus true false) → P minus true true (step_code minus true true)
    → (sign : Sign) (later wide : Bool) → P sign later wide (step_code sign later wide)
each P a b c d e f g h plus false false = a
each P a b c d e f g h plus false true = b
each P a b c d e f g h plus true false = c
each P a b c d e f g h plus true true = d
each P a b c d e f g h minus false false = e
each P a b c d e f g h minus false true = f
each P a b c d e f g h minus true false = g
each P a b c d e f g h minus true true = h

pub working : (sign : Sign) (later wide : Bool) → Working (step_code sign later wide)
working =
    each (λ sign later wide c. Working c) (omega arith) (omega arith) (omega arith) (omega arith) (omega arith) (omega arith) (omega arith) (omega arith)

pub class : (sign : Sign) (later wide : Bool) → class_of (step_code sign later wide) ≡ Class.Register
unfolding class_of ranged
class = each (λ sign later wide c. class_of c ≡ Class.Register) refl refl refl refl refl refl refl refl

-- none is CAD
pub no-cad : (sign : Sign) (later wide : Bool) → eqb (step_code sign later wide) 0xAC ≡ false
no-cad = each (λ sign later wide c. eqb c 0xAC ≡ false) refl refl refl refl refl refl refl refl

pub word-bit : (sign : Sign) (later wide : Bool) → word_bit (step_code sign later wide) ≡ bit wide
word-bit = each (λ sign later wide c. word_bit c ≡ bit wide) refl refl refl refl refl refl refl refl

-- the carry in of a first step, and of any: C, or what C is the complement of
abbrev pub carry_in : Sign → Bool
carry_in plus = false
carry_in minus = true

abbrev pub step_carry : Sign → Bool → Flags → Bool
step_carry sign false f = carry_in sign
step_carry plus true f = f.c
step_carry minus true f = not f.c

abbrev pub kind_of : Sign → Kind
kind_of plus = Kind.Add
kind_of minus = Kind.Subtract

-- cycles of its kind, on Ra and Rb, and Ra is written
abbrev pub plan_for : Sign → Bool → Plan
plan_for sign c = plan_with (kind_of sign) Operand.A Operand.B c true

abbrev pub planned : List ℕ → Core → Plan → ℕ → ℕ → Bool → Leaves Flags
planned xs k plan b a false = one_cycle_of xs k.latches.g k.flags plan (designators a b) true
planned xs k plan b a true = two_cycles_of xs k.latches.g k.flags plan (designators a b) (designators (high_of a) (high_of b)) true

pub cycles-are : (sign : Sign) (later wide : Bool) (xs : List ℕ) (k : Core) (dal b a : ℕ)
    → registers_of xs k dal (step_code sign later wide) b a ≡ planned xs k (plan_for sign (step_carry sign later k.flags)) b a wide
unfolding registers_of conditioned_of condition_met operation_of plan_of ranged
cycles-are sign later wide xs k dal b a =
    each (λ sign later wide c. registers_of xs k dal c b a ≡ planned xs k (plan_for sign (step_carry sign later k.flags)) b a wide)
    refl refl refl refl refl refl refl refl sign later wide
