-- What the cycles of the register codes 80-DF do, a line for each mnemonic's byte form (its word form is the same in two cycles). 01, "Codes,
-- cycles and flags"; codes and mnemonics of manual 5.3.2 as 01 corrects them.
use Rattle.std.specs.Prelude.{ℕ, Bool, true, false, not, List, [], ◌∷◌}
use Rattle.choose.specs.Ranged.{ranged}
use Rattle.alu.specs.declared.Flags.{Flags}
use Rattle.alu.specs.declared.Kind.{Kind}
use Rattle.cycles.specs.declared.Operand.{Operand}
use Rattle.cycles.specs.declared.Plan.{Plan}

abbrev pub plan_with : Kind → Operand → Operand → Bool → Bool → Plan
plan_with k p q c s = record { kind = k; p = p; q = q; carry = c; stores = s }

-- each line: where the next mnemonic begins; the kind of cycle, its two operands, the first carry in, whether Ra is written.
-- AC, AD and D4-D7 stand in a neighbour's line: they are refused before
abbrev pub plans : Flags → List (ℕ × Plan)
plans f =
    (0x88, plan_with Kind.Move Operand.A Operand.B false true) ∷  -- MB, CMB
    (0x8C, plan_with Kind.Left Operand.A Operand.B f.c true) ∷  -- SLBC
    (0x90, plan_with Kind.Left Operand.A Operand.B false true) ∷  -- SLB
    (0x94, plan_with Kind.Add Operand.B (Operand.Number 1) false true) ∷  -- ICB1
    (0x98, plan_with Kind.Add Operand.B (Operand.Number 2) false true) ∷  -- ICB2
    (0x9C, plan_with Kind.Subtract (Operand.Number 0) Operand.B true true) ∷  -- TCB
    (0xA0, plan_with Kind.Ones Operand.A Operand.B false true) ∷  -- OCB
    (0xA8, plan_with Kind.Add Operand.A Operand.B false true) ∷  -- AB, CAB
    (0xAC, plan_with Kind.Add Operand.A Operand.B f.c true) ∷  -- ABC
    (0xB0, plan_with Kind.Add Operand.A Operand.B false true) ∷  -- CAWI
    (0xB4, plan_with Kind.Subtract Operand.A Operand.B true true) ∷  -- SB
    (0xB8, plan_with Kind.Subtract Operand.A Operand.B true false) ∷  -- CB
    (0xBC, plan_with Kind.Subtract Operand.A Operand.B (not f.c) true) ∷  -- SBC
    (0xC0, plan_with Kind.Subtract Operand.B (Operand.Number 1) true true) ∷  -- DB1
    (0xC4, plan_with Kind.And Operand.A Operand.B false true) ∷  -- NB
    (0xC8, plan_with Kind.And Operand.A Operand.B false false) ∷  -- TB
    (0xCC, plan_with Kind.Or Operand.A Operand.B false true) ∷  -- ORB
    (0xD0, plan_with Kind.Exclusive Operand.A Operand.B false true) ∷  -- XB
    (0xD8, plan_with Kind.AndNot Operand.A Operand.B false true) ∷  -- NCB
    (0xDC, plan_with Kind.Right Operand.A Operand.B f.c true) ∷  -- SRBC
    []

-- past them all, SRB
unfoldable pub plan_of : ℕ → Flags → Plan
plan_of code f = ranged code (plans f) (plan_with Kind.Right Operand.A Operand.B false true)

-- "A failed condition (C, or ICS for CAWI, being 0)": CMB, CMW, CAB, CAW, CAWI
unfoldable pub condition_met : ℕ → Bool → Bool → Bool
condition_met code c ics =
    ranged code ((0x84, true) ∷ (0x88, c) ∷ (0xA4, true) ∷ (0xA8, c) ∷ (0xAE, true) ∷ (0xB0, ics) ∷ []) true

-- AL adds, NL and TL take the logical product, which TL doesn't write, LL loads. CL, which is no plan, stands in AL's line
abbrev pub literal_plans : ℕ → List (ℕ × Plan)
literal_plans v =
    (0x40, plan_with Kind.Add Operand.A (Operand.Number v) false true) ∷
    (0x50, plan_with Kind.And Operand.A (Operand.Number v) false true) ∷
    (0x60, plan_with Kind.And Operand.A (Operand.Number v) false false) ∷
    []

unfoldable pub literal_plan_of : ℕ → ℕ → Plan
literal_plan_of code v = ranged code (literal_plans v) (plan_with Kind.Move Operand.A (Operand.Number v) false true)
