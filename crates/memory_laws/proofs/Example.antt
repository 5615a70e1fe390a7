-- The example, computed by the checker. Assumes nothing.
use mathlib.Core.Path.{◌≡◌, refl}
use Rattle.alu.specs.Cycle.{add_of, kept_of, cycle_of}
use Rattle.alu.specs.Marks.{after_of, after_byte_of, after_word_of}
use Rattle.attempt.specs.Attempt.{executed_of, checked_of, modified_of, fetched_of, attempted_of, outputs_of, attempt_of}
use Rattle.attempt.specs.Effect.{literal_effect, register_effect, effect_of}
use Rattle.bus_memory.specs.Memory.{accesses, takes_in, transfers, reply_of, data_of, seen_of}
use Rattle.bus_memory.specs.Memory.{stored_in, transfer_waits, waits_after, kept_after, stuck_of, memory_refusal_of}
use Rattle.checks.specs.Checks.{designator_refusal_of, word_refusal_of, waiting_of}
use Rattle.choose.specs.Ranged.{ranged}
use Rattle.code.specs.CodeRows.{class_of, cycles_of, waits_of, options_of, status_flags_of, condition_flags_of, stores_of}
use Rattle.code.specs.Word.{operands_in, fields_in, apart_of}
use Rattle.control.specs.Bus.{rmw_of, after_input, bus_after, request_of}
use Rattle.control.specs.Latches.{input_latches_of, latches_after}
use Rattle.control.specs.Next.{way_of, tr_byte_of, inputs_of, onward_of, next_of, rr_of, tsr_of, address_after}
use Rattle.cycles.specs.Cycles.{operand_of, step_of, one_cycle_of, two_cycles_of}
use Rattle.deck.specs.Elements.{sample_at}
use Rattle.deck.specs.Ranges.{words_in_range, rows_part_in_range, samples_in_range, deck_refusal_of}
use Rattle.deck.specs.Sections.{section_end, layout_of, whole_of, section_of}
use Rattle.engine.specs.Run.{put4_of, stepped_of, stopped_of, samples_from}
use Rattle.execute.specs.Execute.{upper_of, selected_of, input_of, literal_of, operation_of, access_of, conditioned_of, registers_of}
use Rattle.memory.specs.Host.{refusal_with, deck_run_with, host_with}
use Rattle.memory.specs.Run.{code_at, seen_by, taken_in, stopped_at, next_of as next_with, run_by}
use Rattle.numbers.specs.Numbers.{word_at}
use Rattle.plan.specs.Plan.{plan_of, condition_met, literal_plan_of}
use Rattle.rows.specs.Range.{masks_fit, outputs_fit, values_in_masks, row_in_range, rows_in_range}
use Rattle.rows.specs.Scan.{matched_of, merged_of, scan_from}
use Rattle.rows.specs.Section.{row_from, rows_of}
use Rattle.state.specs.File.{slot_of, high_of, register_of, written_of}
use Rattle.state.specs.FlagByte.{nibble_of, flag_byte_of, flags_of}
use Rattle.state.specs.Marking.{marking_of}
use Rattle.state_bytes.specs.Bytes.{address_of, bus_of, latches_of, core_of, file_of, tail_of, stored_of}
use Rattle.state_bytes.specs.Range.{address_in_range, latches_in_range, core_in_range, state_in_range}
use Rattle.memory_laws.specs.Example.{deck, memory, requests, buffer, after}

pub computed : host_with deck memory 1 requests buffer 1661 ≡ after
unfolding host_with refusal_with deck_run_with memory_refusal_of run_by next_with stopped_at taken_in seen_by code_at stuck_of kept_after waits_after
    transfer_waits
    stored_in seen_of
    data_of reply_of transfers takes_in accesses deck_refusal_of whole_of layout_of section_end section_of words_in_range rows_part_in_range samples_in_range
    state_in_range core_in_range address_in_range latches_in_range core_of address_of bus_of latches_of file_of tail_of stored_of
    masks_fit outputs_fit values_in_masks row_in_range rows_in_range matched_of merged_of scan_from row_from rows_of
    slot_of high_of register_of written_of nibble_of flag_byte_of flags_of marking_of samples_from sample_at stepped_of stopped_of put4_of
    attempt_of attempted_of outputs_of fetched_of modified_of word_at apart_of fields_in operands_in class_of checked_of
    word_refusal_of designator_refusal_of options_of waiting_of waits_of executed_of effect_of literal_effect register_effect ranged
    cycles_of status_flags_of condition_flags_of stores_of rmw_of after_input bus_after request_of input_latches_of latches_after
    way_of tr_byte_of inputs_of onward_of next_of rr_of tsr_of address_after operand_of step_of one_cycle_of two_cycles_of upper_of selected_of input_of
    literal_of operation_of access_of conditioned_of registers_of plan_of condition_met literal_plan_of add_of kept_of cycle_of after_of
    after_byte_of after_word_of
computed = refl
