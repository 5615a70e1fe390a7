-- One attempt. 01, "One attempt".
use Rattle.std.specs.Prelude.{ℕ, ◌+◌, ◌*◌, ◌/◌, ◌%◌, false, List, eqb, ltb, length, Ok, Err}
use Rattle.std.specs.Int.Bits.{bit_or}
use Rattle.choose.specs.Ranged.{pick}
use Rattle.code.specs.CodeRows.{cycles_of}
use Rattle.code.specs.Word.{Apart, apart_of, number_of}
use Rattle.code.specs.declared.Unread.{Unread}
use Rattle.code.specs.declared.Fields.{Fields}
use Rattle.checks.specs.Checks.{word_refusal_of, waiting_of}
use Rattle.control.specs.Bus.{placed, bus_with}
use Rattle.control.specs.Latches.{used}
use Rattle.control.specs.Next.{inputs_of, address_after}
use Rattle.numbers.specs.Numbers.{word_at}
use Rattle.rows.specs.Scan.{scan_of, none}
use Rattle.rows.specs.declared.Outputs.{Outputs}
use Rattle.rows.specs.declared.Row.{Row}
use Rattle.state.specs.File.{Leaves, leaves}
use Rattle.state.specs.declared.Core.{Core}
use Rattle.state.specs.declared.Latches.{Latches}
use Rattle.state.specs.declared.Sample.{Sample}
use Rattle.attempt.specs.Outcome.{Outcome, outcome_of}
use Rattle.attempt.specs.Effect.{effect_of}

-- a refusal returns the state before the attempt; a wait, RESET and COMPUTE low cost 1 and leave a request of their kind
abbrev pub when_refused : List ℕ → Core → ℕ → Leaves Outcome
when_refused xs k number = leaves xs (outcome_of k 0 0 number)

abbrev pub when_idle : List ℕ → Core → ℕ → Leaves Outcome
when_idle xs k kind = leaves xs (outcome_of k (placed kind 0) 1 0)

-- an executed word: its effect, the next address by the way it goes and the rows' outputs, and its four user bits: 02, L1, "The state keeps the last
-- executed word's four bits"
unfoldable pub executed_of : List ℕ → Core → Fields → Sample → Outputs → Leaves Outcome
executed_of xs k w sample o =
    let e = effect_of xs k w.code w.operands sample in
    leaves e.file
    (outcome_of
    (record {
      flags = e.back.flags;
      address = address_after k.address e.back.way w.code w.load_rr o;
      bus = e.back.bus;
      latches = e.back.latches;
      outputs = w.user;
      marking = k.marking;
    })
    e.back.request
    (cycles_of w.code)
    0)

-- "Then refusals, then waiting, then execution"
unfoldable pub checked_of : List ℕ → Core → Fields → Sample → Outputs → Leaves Outcome
checked_of xs k w sample o =
    pick (eqb (word_refusal_of w.code w.operands) 0)
    (pick (waiting_of w.code sample) (when_idle xs k 10) (executed_of xs k w sample o))
    (when_refused xs k (word_refusal_of w.code w.operands))

-- "RESET high: LC becomes 1, SYNC and IACK go low, the waiting modification is dropped, nothing else changes"
unfoldable pub reset_of : Core → Core
reset_of k =
    record {
      flags = k.flags;
      address = record { lc = 1; rr = k.address.rr; tsr = k.address.tsr };
      bus = bus_with k.bus.m false false;
      latches = used k.latches;
      outputs = k.outputs;
      marking = k.marking;
    }

-- "a waiting modification is ORed into its low 16 bits"
unfoldable pub modified_of : ℕ → Latches → ℕ
modified_of w l = pick l.marked (w / 0x1_0000 * 0x1_0000 + bit_or (w % 0x1_0000) l.modification) w

-- 5, "LC has no word"; then 6, "code unlisted". A word of 2^22 or more is 2, which a run refuses before its first attempt
abbrev pub taken_of : Apart → Outputs → List ℕ → Core → Sample → Leaves Outcome
taken_of (Ok w) o xs k sample = checked_of xs k w sample o
taken_of (Err Unread.OutOfRange) o xs k sample = when_refused xs k (number_of (Err Unread.OutOfRange))
taken_of (Err Unread.Unlisted) o xs k sample = when_refused xs k (number_of (Err Unread.Unlisted))

unfoldable pub fetched_of : List ℕ → Outputs → List ℕ → Core → Sample → Leaves Outcome
fetched_of ws o xs k sample =
    pick (ltb k.address.lc (length ws / 4))
    (taken_of (apart_of (modified_of (word_at ws k.address.lc) k.latches)) o xs k sample)
    (when_refused xs k 5)

-- "RESET high: .. (request kind 11). Else COMPUTE low: nothing changes (kind 12). .. Else the word at LC is taken"
unfoldable pub attempted_of : List ℕ → Outputs → List ℕ → Core → Sample → Leaves Outcome
attempted_of ws o xs k sample =
    pick sample.reset (when_idle xs (reset_of k) 11)
    (pick sample.compute (fetched_of ws o xs k sample) (when_idle xs k 12))

-- "Outputs of all matching rows are ORed": those for the word at LC, with its own bit 17
unfoldable pub outputs_of : List ℕ → List Row → Core → Sample → Outputs
outputs_of ws rs k sample =
    pick (ltb k.address.lc (length ws / 4))
    (scan_of rs (inputs_of k (eqb (word_at ws k.address.lc / 0x2_0000 % 2) 1) sample))
    none

-- one attempt: words, rows, registers, the rest of the state, sample
unfoldable pub attempt_of : List ℕ → List Row → List ℕ → Core → Sample → Leaves Outcome
attempt_of ws rs xs k sample = attempted_of ws (outputs_of ws rs k sample) xs k sample
