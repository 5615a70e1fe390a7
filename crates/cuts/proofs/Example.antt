-- The example, computed by the checker: whole, and cut at every place. Assumes nothing.
use Prim.Native.Nat.{ℕ}
use mathlib.Core.Path.{◌≡◌, refl}
use mathlib.Core.List.{[], ◌∷◌, map}
use lib.ListN.{replicate}
use Rattle.alu.specs.Cycle.{add_of, kept_of, cycle_of}
use Rattle.alu.specs.Marks.{after_of, after_byte_of, after_word_of}
use Rattle.attempt.specs.Attempt.{executed_of, checked_of, modified_of, fetched_of, attempted_of, outputs_of, attempt_of}
use Rattle.attempt.specs.Effect.{literal_effect, register_effect, effect_of}
use Rattle.checks.specs.Checks.{designator_refusal_of, word_refusal_of, waiting_of}
use Rattle.choose.specs.Ranged.{ranged}
use Rattle.code.specs.CodeRows.{class_of, cycles_of, waits_of, options_of, status_flags_of, condition_flags_of, stores_of}
use Rattle.code.specs.Word.{operands_in, fields_in, apart_of}
use Rattle.control.specs.Bus.{bus_after, request_of}
use Rattle.control.specs.Latches.{latches_after}
use Rattle.control.specs.Next.{way_of, tr_byte_of, inputs_of, onward_of, next_of, rr_of, tsr_of, address_after}
use Rattle.cycles.specs.Cycles.{operand_of, step_of, one_cycle_of, two_cycles_of}
use Rattle.deck.specs.Elements.{sample_at}
use Rattle.deck.specs.Ranges.{words_in_range, rows_part_in_range, samples_in_range, deck_refusal_of}
use Rattle.deck.specs.Sections.{section_end, layout_of, whole_of, section_of}
use Rattle.engine.specs.Host.{deck_run, host_of}
use Rattle.engine.specs.Run.{put4_of, stepped_of, stopped_of, run_from, samples_from}
use Rattle.execute.specs.Execute.{literal_of, operation_of, access_of, conditioned_of, registers_of}
use Rattle.numbers.specs.Numbers.{word_at}
use Rattle.plan.specs.Plan.{plan_of, condition_met, literal_plan_of}
use Rattle.rows.specs.Range.{masks_fit, outputs_fit, values_in_masks, row_in_range, rows_in_range}
use Rattle.rows.specs.Scan.{matched_of, merged_of, scan_from}
use Rattle.rows.specs.Section.{row_from, rows_of}
use Rattle.state.specs.File.{slot_of, high_of, register_of, written_of}
use Rattle.state.specs.FlagByte.{nibble_of, flag_byte_of, flags_of}
use Rattle.state.specs.Marking.{marking_of}
use Rattle.state_bytes.specs.Bytes.{address_of, bus_of, latches_of, core_of, file_of, tail_of, stored_of}
use Rattle.state_bytes.specs.Range.{address_in_range, latches_in_range, core_in_range, state_in_range}
use Rattle.cuts.specs.Decks.{first_deck, rest_deck, host_in_parts}
use Rattle.cuts.specs.Example.{deck, requests, buffer, after, at_lunch}

-- whole; the first sample alone; cut after 0, 1 and so on up to all 7 samples; in seven parts of one sample; in parts of 2, 0, 3 and 2
pub computed : (host_of deck requests buffer 1621 ≡ after)
    × (host_of (first_deck deck 1) requests buffer 1621 ≡ at_lunch)
    × (map (λ (n : ℕ). host_in_parts (n ∷ []) deck requests buffer 1621) (0 ∷ 1 ∷ 2 ∷ 3 ∷ 4 ∷ 5 ∷ 6 ∷ 7 ∷ []) ≡ replicate 8 after)
    × (host_in_parts (1 ∷ 1 ∷ 1 ∷ 1 ∷ 1 ∷ 1 ∷ []) deck requests buffer 1621 ≡ after)
    × (host_in_parts (2 ∷ 0 ∷ 3 ∷ []) deck requests buffer 1621 ≡ after)
unfolding host_in_parts first_deck rest_deck host_of deck_refusal_of whole_of layout_of section_end section_of words_in_range rows_part_in_range
    samples_in_range
    state_in_range core_in_range address_in_range latches_in_range core_of address_of bus_of latches_of file_of tail_of stored_of
    masks_fit outputs_fit values_in_masks row_in_range rows_in_range matched_of merged_of scan_from row_from rows_of
    slot_of high_of register_of written_of nibble_of flag_byte_of flags_of marking_of
    deck_run samples_from sample_at run_from stepped_of stopped_of put4_of
    attempt_of attempted_of outputs_of fetched_of modified_of word_at apart_of fields_in operands_in class_of checked_of
    word_refusal_of designator_refusal_of options_of waiting_of waits_of executed_of effect_of literal_effect register_effect ranged
    cycles_of status_flags_of condition_flags_of stores_of bus_after request_of latches_after
    way_of tr_byte_of inputs_of onward_of next_of rr_of tsr_of address_after operand_of step_of one_cycle_of two_cycles_of
    literal_of operation_of access_of conditioned_of registers_of plan_of condition_met literal_plan_of add_of kept_of cycle_of after_of
    after_byte_of after_word_of
computed = (refl, refl, refl, refl, refl)
