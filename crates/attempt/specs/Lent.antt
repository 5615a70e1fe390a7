-- One attempt by what is handed to it, whatever that is: numbers for the 256 top bytes, and what the rows put out. This is the code's way only;
-- `attempt-lent` says that by THE table and by the outputs of rows in range it is the attempt of 01.
use Rattle.std.specs.Prelude.{ℕ, ◌/◌, ◌%◌, List, eqb, ltb, length, get_or, Ok, Err}
use Rattle.choose.specs.Ranged.{pick}
use Rattle.code.specs.Entries.{row_of_entry}
use Rattle.code.specs.Word.{Apart, top_of, apart_as, number_of}
use Rattle.code.specs.declared.Unread.{Unread}
use Rattle.code.specs.declared.CodeRow.{CodeRow}
use Rattle.code.specs.declared.Fields.{Fields}
use Rattle.code.specs.declared.Operands.{Operands}
use Rattle.checks.specs.Asked.{refusal_by, waiting_by}
use Rattle.control.specs.Next.{inputs_of, address_after}
use Rattle.numbers.specs.Numbers.{word_at}
use Rattle.rows.specs.declared.Inputs.{Inputs}
use Rattle.rows.specs.declared.Outputs.{Outputs}
use Rattle.state.specs.File.{Leaves, leaves}
use Rattle.state.specs.declared.Core.{Core}
use Rattle.state.specs.declared.Sample.{Sample}
use Rattle.attempt.specs.declared.Effect.{Effect}
use Rattle.attempt.specs.Outcome.{Outcome, outcome_of}
use Rattle.attempt.specs.Effect.{jumped_of, literal_effect, register_effect}
use Rattle.attempt.specs.Attempt.{when_refused, when_idle, reset_of, modified_of}

-- an executed word: its effect, the next address, its user bits, and the cycles of its row
unfoldable pub done_by : CodeRow → Core → Fields → Effect → Outputs → Outcome
done_by row k w e o =
    outcome_of
    (record {
      flags = e.flags;
      address = address_after k.address e.way w.code w.load_rr o;
      bus = e.bus;
      latches = e.latches;
      outputs = w.user;
      marking = k.marking;
    })
    e.request
    row.cycles
    0

unfoldable pub two_by : CodeRow → List ℕ → Core → Fields → ℕ → ℕ → Sample → Outputs → Leaves Outcome
two_by row xs k w b a sample o =
    let e = register_effect xs k w.code b a sample in
    leaves e.file (done_by row k w e.back o)

unfoldable pub checked_two_by : CodeRow → List ℕ → Core → Fields → ℕ → ℕ → Sample → Outputs → Leaves Outcome
checked_two_by row xs k w b a sample o =
    pick (eqb (refusal_by row w.code b) 0)
    (pick (waiting_by row w.code sample) (when_idle xs k 10) (two_by row xs k w b a sample o))
    (when_refused xs k (refusal_by row w.code b))

-- by the kind of operands: only words with two designators are refused or wait
unfoldable pub checked_kind : Operands → CodeRow → List ℕ → Core → Fields → Sample → Outputs → Leaves Outcome
checked_kind (Operands.Jump n) row xs k w sample o = leaves xs (done_by row k w (jumped_of k w.code n) o)
checked_kind (Operands.Literal v a) row xs k w sample o =
    let e = literal_effect xs k w.code v a in
    leaves e.file (done_by row k w e.back o)
checked_kind (Operands.Two b a) row xs k w sample o = checked_two_by row xs k w b a sample o

abbrev pub checked_by : CodeRow → List ℕ → Core → Fields → Sample → Outputs → Leaves Outcome
checked_by row xs k w sample o = checked_kind w.operands row xs k w sample o

abbrev pub taken_by : Apart → CodeRow → Outputs → List ℕ → Core → Sample → Leaves Outcome
taken_by (Ok w) row o xs k sample = checked_by row xs k w sample o
taken_by (Err Unread.OutOfRange) row o xs k sample = when_refused xs k (number_of (Err Unread.OutOfRange))
taken_by (Err Unread.Unlisted) row o xs k sample = when_refused xs k (number_of (Err Unread.Unlisted))

-- the number of the word's top byte in the table is read as a row
unfoldable pub word_by : List ℕ → ℕ → Outputs → List ℕ → Core → Sample → Leaves Outcome
word_by codes word o xs k sample =
    let row = row_of_entry (get_or codes (top_of word) 0) in
    taken_by (apart_as row.class word) row o xs k sample

unfoldable pub fetched_by : List ℕ → List ℕ → Outputs → List ℕ → Core → Sample → Leaves Outcome
fetched_by codes ws o xs k sample =
    pick (ltb k.address.lc (length ws / 4))
    (word_by codes (modified_of (word_at ws k.address.lc) k.latches) o xs k sample)
    (when_refused xs k 5)

unfoldable pub attempt_by : List ℕ → List ℕ → Outputs → List ℕ → Core → Sample → Leaves Outcome
attempt_by codes ws o xs k sample =
    pick sample.reset (when_idle xs (reset_of k) 11)
    (pick sample.compute (fetched_by codes ws o xs k sample) (when_idle xs k 12))

-- what the rows are matched against before the attempt is made, with bit 17 of the word at LC; where there is no word, none
unfoldable pub inputs_by : List ℕ → Core → Sample → Inputs
inputs_by ws k sample = inputs_of k (eqb (word_at ws k.address.lc / 0x2_0000 % 2) 1) sample
