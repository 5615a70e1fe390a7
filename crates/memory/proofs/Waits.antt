-- An IB, IW, OB or OW that waits leaves the registers, whatever the tables hold. Assumes nothing.
use Prim.Native.Nat.{ℕ, ◌<◌, ◌≤◌, ◌*◌, ◌+◌, ◌/◌, ◌%◌}
use mathlib.Core.Path.{◌≡◌, ◌∙◌, ap, refl, sym}
use mathlib.Core.Bool.{Bool, true, false, false≢true}
use mathlib.Core.List.{List}
use native.Mathlib.Omega.{arith}
use lib.Dec.{eqb, ltb}
use lib.ListN.{length, get_or}
use borrow.Author.Tests.{ltb-true, ltb-false}
use Rattle.std.specs.Prelude.{Ok, Err}
use Rattle.choose.specs.Ranged.{pick, ranged}
use Rattle.choose.proofs.Ranged.{in-arm, in_rest}
use Rattle.attempt.specs.Attempt.{when_refused, when_idle, reset_of, modified_of}
use Rattle.attempt.specs.Effect.{literal_effect, register_effect}
use Rattle.attempt.specs.Lent.{done_by, two_by, checked_two_by, checked_kind, taken_by, word_by, fetched_by, attempt_by}
use Rattle.attempt.specs.Outcome.{Outcome}
use Rattle.bus_memory.specs.Memory.{kind_in, transfers}
use Rattle.checks.specs.Asked.{refusal_by, waiting_by}
use Rattle.code.specs.CodeRows.{listed}
use Rattle.code.specs.Entries.{row_of_entry}
use Rattle.code.specs.Word.{top_of, operands_in, fields_in, apart_as}
use Rattle.code.specs.declared.Unread.{Unread}
use Rattle.code.specs.declared.Class.{Class}
use Rattle.code.specs.declared.CodeRow.{CodeRow}
use Rattle.code.specs.declared.Fields.{Fields}
use Rattle.control.specs.Bus.{request_of}
use Rattle.execute.specs.Execute.{registers_of}
use Rattle.numbers.specs.Numbers.{word_at}
use Rattle.rows.specs.declared.Outputs.{Outputs}
use Rattle.state.specs.File.{Leaves}
use Rattle.state.specs.declared.Core.{Core}
use Rattle.state.specs.declared.Sample.{Sample}
use Rattle.memory.specs.Run.{code_at}

-- IB and IW, or OB and OW
pub data Transfer (code : ℕ) : Type 0 where
  input : 0xE0 ≤ code → code < 0xE4 → Transfer code
  output : 0xFC ≤ code → code < 0xFE → Transfer code

pub transfer : (code : ℕ) → transfers code ≡ true → Transfer code
unfolding transfers ranged
transfer code is = go (ltb code 0xE0) (ltb code 0xE4) (ltb code 0xFC) (ltb code 0xFE) refl refl refl refl is
  where
    go : (a b c d : Bool) → ltb code 0xE0 ≡ a → ltb code 0xE4 ≡ b → ltb code 0xFC ≡ c → ltb code 0xFE ≡ d
        → pick a false (pick b true (pick c false (pick d true false))) ≡ true → Transfer code
    go true b c d ea eb ec ed h = absurd (false≢true h)
    go false true c d ea eb ec ed h = input (ltb-false _ _ ea) (ltb-true _ _ eb)
    go false false true d ea eb ec ed h = absurd (false≢true h)
    go false false false true ea eb ec ed h = output (ltb-false _ _ ec) (ltb-true _ _ ed)
    go false false false false ea eb ec ed h = absurd (false≢true h)

module _ (xs : List ℕ) (k : Core) (s : Sample) (small : s.dal < 0x1_0000) where
  abbrev Keeps : Leaves Outcome → Type 0
  Keeps e = kind_in e.back.request ≡ 10 → e.file ≡ xs

  -- an input that is executed asks for data (5), and an output leaves the registers
  executed : (code pair b a : ℕ) → Transfer code → kind_in (request_of code pair s.dal) ≡ 10 → (registers_of xs k s.dal code b a).file ≡ xs
  unfolding request_of registers_of
  executed code pair b a (input low high) waits =
      let asks : kind_in (5 * 65536 + s.dal) ≡ 10 = ap kind_in (sym (in-arm code _ _ 1 0xE0 tt low high)) ∙ waits in
      absurd (omega arith)
  executed code pair b a (output low high) waits = ap (λ (e : Leaves _). e.file) (in_rest code _ _ 0xF8 tt (omega arith))

  two-keeps : (t u : Bool) (n : ℕ) (row : CodeRow) (w : Fields) (b a : ℕ) (o : Outputs) → Transfer w.code
      → Keeps (pick t (pick u (when_idle xs k 10) (two_by row xs k w b a s o)) (when_refused xs k n))
  unfolding two_by done_by register_effect
  two-keeps true true n row w b a o is waits = refl
  two-keeps true false n row w b a o is waits = executed w.code _ b a is waits
  two-keeps false u n row w b a o is waits = refl

  -- only words of two designators wait
  class-keeps : (c : Class) (word : ℕ) (row : CodeRow) (o : Outputs) → Transfer (top_of word)
      → Keeps (checked_kind (operands_in c word) row xs k (fields_in c word) s o)
  unfolding operands_in fields_in checked_kind checked_two_by done_by literal_effect
  class-keeps Class.Unlisted word row o is waits = refl
  class-keeps Class.Jump word row o is waits = refl
  class-keeps Class.Conditional word row o is waits = refl
  class-keeps Class.Literal word row o is waits =
      let none : ◌≡◌ {A = ℕ} 0 10 = waits in
      absurd (omega arith)
  class-keeps Class.Register word row o is waits =
      two-keeps (eqb (refusal_by row (top_of word) (word / 0x10 % 0x10)) 0) (waiting_by row (top_of word) s) (refusal_by row (top_of word)
      (word / 0x10 % 0x10)) row
      (fields_in Class.Register word) (word / 0x10 % 0x10) (word % 0x10) o is waits

  apart-keeps : (t u : Bool) (c : Class) (word : ℕ) (row : CodeRow) (o : Outputs) → Transfer (top_of word)
      → Keeps (taken_by (pick t (pick u (Ok (fields_in c word)) (Err Unread.Unlisted)) (Err Unread.OutOfRange)) row o xs k s)
  unfolding fields_in
  apart-keeps true true c word row o is waits = class-keeps c word row o is waits
  apart-keeps true false c word row o is waits = refl
  apart-keeps false u c word row o is waits = refl

  fetched-keeps : (t : Bool) (codes : List ℕ) (word : ℕ) (o : Outputs) → Transfer (top_of word)
      → Keeps (pick t (word_by codes word o xs k s) (when_refused xs k 5))
  unfolding word_by apart_as
  fetched-keeps true codes word o is waits =
      let row = row_of_entry (get_or codes (top_of word) 0) in
      apart-keeps (ltb word 0x40_0000) (listed row.class) row.class word row o is waits
  fetched-keeps false codes word o is waits = refl

  sample-keeps : (reset compute : Bool) (e : Leaves Outcome) → Keeps e
      → Keeps (pick reset (when_idle xs (reset_of k) 11) (pick compute e (when_idle xs k 12)))
  sample-keeps true compute e keeps waits = refl
  sample-keeps false true e keeps waits = keeps waits
  sample-keeps false false e keeps waits = refl

  pub wait-keeps : (codes ws : List ℕ) (o : Outputs) → transfers (code_at ws k) ≡ true → Keeps (attempt_by codes ws o xs k s)
  unfolding code_at attempt_by fetched_by
  wait-keeps codes ws o is =
      let word = modified_of (word_at ws k.address.lc) k.latches in
      sample-keeps s.reset s.compute (pick (ltb k.address.lc (length ws / 4)) (word_by codes word o xs k s) (when_refused xs k 5))
      (fetched-keeps (ltb k.address.lc (length ws / 4)) codes word o (transfer (top_of word) is))
