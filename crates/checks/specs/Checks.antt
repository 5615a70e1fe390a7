-- Refusals 6 and 8 of a listed word, and waiting. 01, "Numbers on the refusal slip" and "One attempt"; 02, L6.
use Rattle.std.specs.Prelude.{ℕ, Bool, false, not, ◌||◌, eqb, ltb}
use Rattle.choose.specs.Ranged.{pick}
use Rattle.code.specs.CodeRows.{waits_of, options_of}
use Rattle.code.specs.declared.Operands.{Operands}
use Rattle.code.specs.declared.Waits.{Waits}
use Rattle.state.specs.declared.Sample.{Sample}

-- "then at each attempt 5, 6, 7, 8", of which "7 no longer occurs": 6 for AC, and 8, "option not listed"
unfoldable pub designator_refusal_of : ℕ → ℕ → ℕ
designator_refusal_of code b = pick (eqb code 0xAC) 6 (pick (ltb (options_of code) b) 8 0)

unfoldable pub word_refusal_of : ℕ → Operands → ℕ
word_refusal_of code (Operands.Jump n) = 0
word_refusal_of code (Operands.Literal v r) = 0
word_refusal_of code (Operands.Two b a) = designator_refusal_of code b

-- "R, W, RA, WA and the F0-F7 codes wait if REPLY or BUSY is high; IB, IW, OB, OW wait if REPLY is low"
abbrev pub held_by : Waits → Bool → Bool → Bool
held_by Waits.Never reply busy = false
held_by Waits.ReplyOrBusyHigh reply busy = reply || busy
held_by Waits.ReplyLow reply busy = not reply

unfoldable pub waiting_of : ℕ → Sample → Bool
waiting_of code s = held_by (waits_of code) s.reply s.busy
