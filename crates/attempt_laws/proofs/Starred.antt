-- With either marking the starred cases of 01, "Checked by hand", and the crosswise ones of 02's L6 hold: tables under one statement about attempts, which the
-- checker computes. Assumes nothing.
use mathlib.Core.Bool.{◌&&◌}
use lib.Dec.{T}
use Rattle.alu.specs.Cycle.{add_of, subtract_of, kept_of, ones_of, left_of, right_of, cycle_of}
use Rattle.alu.specs.Marks.{after_of, after_byte_of, after_word_of}
use Rattle.attempt.specs.Attempt.{executed_of, checked_of, modified_of, fetched_of, attempted_of, outputs_of, attempt_of}
use Rattle.attempt.specs.Effect.{literal_effect, register_effect, effect_of}
use Rattle.checks.specs.Checks.{designator_refusal_of, word_refusal_of, waiting_of}
use Rattle.choose.specs.Ranged.{ranged}
use Rattle.code.specs.CodeRows.{class_of, cycles_of, waits_of, options_of}
use Rattle.code.specs.Word.{operands_in, fields_in, apart_of}
use Rattle.control.specs.Bus.{bus_after, request_of}
use Rattle.control.specs.Latches.{latches_after}
use Rattle.control.specs.Next.{onward_of, next_of, rr_of, tsr_of, address_after}
use Rattle.cycles.specs.Cycles.{operand_of, step_of, one_cycle_of, two_cycles_of}
use Rattle.execute.specs.Execute.{literal_of, operation_of, conditioned_of, registers_of}
use Rattle.numbers.specs.Numbers.{word_at}
use Rattle.plan.specs.Plan.{plan_of, condition_met, literal_plan_of}
use Rattle.rows.specs.Scan.{scan_from}
use Rattle.state.specs.File.{slot_of, high_of, register_of, written_of}
use Rattle.state.specs.declared.Marking.{Marking}
use Rattle.attempt_laws.specs.Starred.{case_holds, all_hold, cases, crosswise}

pub starred : (marking : Marking) → T (all_hold marking cases && all_hold marking crosswise)
unfolding all_hold cases crosswise case_holds
    attempt_of attempted_of outputs_of scan_from fetched_of modified_of word_at apart_of fields_in operands_in class_of checked_of
    word_refusal_of designator_refusal_of options_of waiting_of waits_of cycles_of
    executed_of effect_of literal_effect register_effect bus_after request_of latches_after address_after next_of onward_of rr_of tsr_of
    literal_of literal_plan_of registers_of conditioned_of condition_met operation_of plan_of one_cycle_of two_cycles_of step_of operand_of
    register_of written_of slot_of high_of cycle_of add_of subtract_of kept_of ones_of left_of right_of after_of after_byte_of after_word_of ranged
starred marking = tt
