-- The table of inputs holds, which the checker computes. Assumes nothing.
use lib.Dec.{T}
use Rattle.attempt.specs.Attempt.{executed_of, checked_of, modified_of, fetched_of, attempted_of, outputs_of, attempt_of}
use Rattle.attempt.specs.Effect.{register_effect, effect_of}
use Rattle.checks.specs.Checks.{designator_refusal_of, word_refusal_of, waiting_of}
use Rattle.choose.specs.Ranged.{ranged}
use Rattle.code.specs.CodeRows.{class_of, waits_of, options_of}
use Rattle.code.specs.Word.{operands_in, fields_in, apart_of}
use Rattle.control.specs.Bus.{q1_of, rmw_of, after_input, bus_after, request_of}
use Rattle.numbers.specs.Numbers.{word_at}
use Rattle.markings.specs.Cases.{all_hold, inputs}

pub inputs-hold : T (all_hold inputs)
unfolding all_hold inputs
    attempt_of attempted_of outputs_of fetched_of modified_of word_at apart_of fields_in operands_in class_of checked_of
    word_refusal_of designator_refusal_of options_of waiting_of waits_of executed_of effect_of register_effect
    bus_after after_input rmw_of q1_of request_of ranged
inputs-hold = tt
