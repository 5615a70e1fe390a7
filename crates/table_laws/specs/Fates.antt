-- What the columns `cycles`, `class`, `options` and `waits` of the table say of an attempt.
use Rattle.std.specs.Prelude.{ℕ, Bool, false, not, ◌||◌, eqb, ltb}
use Rattle.attempt_laws.specs.Fate.{Fate, refused, waited, reset, compute-low, completed, b_in}
use Rattle.choose.specs.Ranged.{pick}
use Rattle.code.specs.CodeRows.{listed}
use Rattle.code.specs.Word.{top_of}
use Rattle.code.specs.declared.CodeRow.{CodeRow}
use Rattle.code.specs.declared.Waits.{Waits}
use Rattle.state.specs.declared.Sample.{Sample}

-- "cycles are those of manual 5.3.2": the row's for a completed word. "A wait costs 1"; RESET and COMPUTE low, "Both cost 1"; a refusal returns "the
-- counts up to it"
abbrev pub cost_of : CodeRow → Fate → ℕ
cost_of row (refused n) = 0
cost_of row waited = 1
cost_of row reset = 1
cost_of row compute-low = 1
cost_of row completed = row.cycles

-- whether the lines that `waits` names hold the word
abbrev pub waits_by : Waits → Bool → Bool → Bool
waits_by Waits.Never reply busy = false
waits_by Waits.ReplyOrBusyHigh reply busy = reply || busy
waits_by Waits.ReplyLow reply busy = not reply

-- the fate of a word that has this row: 6, "code unlisted, or AC"; 8, "option not listed", b over `options`
unfoldable pub row_fate : CodeRow → ℕ → Sample → Fate
row_fate row word s =
    pick (not (listed row.class) || eqb (top_of word) 0xAC) (refused 6)
    (pick (ltb row.options (b_in word)) (refused 8)
    (pick (waits_by row.waits s.reply s.busy) waited
    completed))
