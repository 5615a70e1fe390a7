-- 01's number of each refusal; 0 is the answer where nothing is refused.
use Rattle.std.specs.Prelude.{ℕ, Option, Some, None, Result, Ok, Err}
use Rattle.refusals.specs.declared.Refusal.{Refusal}

abbrev pub number_of : Refusal → ℕ
number_of Refusal.StateRange = 1
number_of Refusal.WordRange = 2
number_of Refusal.RowRange = 3
number_of Refusal.SampleRange = 4
number_of Refusal.NoWord = 5
number_of Refusal.Unlisted = 6
number_of Refusal.NotAnOption = 8
number_of Refusal.NoDeck = 9
number_of Refusal.Mnemonic = 10
number_of Refusal.Operand = 11
number_of Refusal.Address = 12
number_of Refusal.Memory = 16
number_of Refusal.NoReply = 17
number_of Refusal.NoMarking = 24

abbrev pub answer_of : Option Refusal → ℕ
answer_of None = 0
answer_of (Some r) = number_of r

module _ {A : Type 0} where
  abbrev pub refused_by : Result A Refusal → ℕ
  refused_by (Ok x) = 0
  refused_by (Err r) = number_of r
