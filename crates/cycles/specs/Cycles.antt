-- Byte cycles on the register file. 01, "Codes, cycles and flags".
use Rattle.std.specs.Prelude.{ℕ, ◌/◌, ◌%◌, Bool, true, false, not, List}
use Rattle.choose.specs.Ranged.{pick}
use Rattle.alu.specs.Cycle.{cycle_of, high_first_of}
use Rattle.alu.specs.Marks.{after_byte_of, after_word_of}
use Rattle.alu.specs.declared.Cycle.{Cycle}
use Rattle.alu.specs.declared.Flags.{Flags}
use Rattle.state.specs.File.{Leaves, leaves, register_of, written_of}
use Rattle.cycles.specs.declared.Operand.{Operand}
use Rattle.cycles.specs.declared.Operand.TheVariants.{A, B, Number}
use Rattle.cycles.specs.declared.Plan.{Plan}
use Rattle.cycles.specs.declared.Designators.{Designators}

-- Ra, Rb, or a number's low byte in the low cycle and high byte in the high one
unfoldable pub operand_of : Operand → ℕ → ℕ → Bool → ℕ
operand_of A ra rb high = ra
operand_of B ra rb high = rb
operand_of (Number n) ra rb high = pick high (n / 256) (n % 256)

-- one cycle on the registers that the designators name; "Compare and test write no register"
unfoldable pub step_of : List ℕ → ℕ → Flags → Plan → Designators → Bool → Bool → Leaves Cycle
step_of xs g f plan at carry high =
    let ra = register_of xs g at.a in
    let rb = register_of xs g at.b in
    let y = cycle_of plan.kind (operand_of plan.p ra rb high) (operand_of plan.q ra rb high) carry f in
    leaves (pick plan.stores (written_of xs g at.a y.result) xs) y

unfoldable pub one_cycle_of : List ℕ → ℕ → Flags → Plan → Designators → Bool → Leaves Flags
one_cycle_of xs g f plan at odd =
    let y = step_of xs g f plan at plan.carry false in
    leaves y.file (after_byte_of f y.back odd)

-- two cycles, the second on what the first left, with "C8 as its carry"
abbrev pub one_then_other : List ℕ → ℕ → Flags → Plan → Designators → Designators → Bool → Bool → Leaves Flags
one_then_other xs g f plan one other high odd =
    let first = step_of xs g f plan one plan.carry high in
    let second = step_of first.file g f plan other first.back.c8 (not high) in
    leaves second.file (after_word_of f first.back second.back odd)

-- "A word operation is the low byte, then the high byte ..  Right shifts go high byte first"
unfoldable pub two_cycles_of : List ℕ → ℕ → Flags → Plan → Designators → Designators → Bool → Leaves Flags
two_cycles_of xs g f plan low high odd =
    pick (high_first_of plan.kind) (one_then_other xs g f plan high low true odd) (one_then_other xs g f plan low high false odd)
