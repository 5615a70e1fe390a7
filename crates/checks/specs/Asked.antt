-- Refusals and waiting by a row of the table of top bytes, whatever row it is. This is the code's way only; `refusal-by-row` and `waiting-by-row` say that
-- by THE row of a listed code it is what Checks says.
use Rattle.std.specs.Prelude.{ℕ, Bool, false, [], ◌∷◌, eqb, ltb}
use Rattle.choose.specs.Ranged.{pick, ranged}
use Rattle.code.specs.declared.CodeRow.{CodeRow}
use Rattle.state.specs.declared.Sample.{Sample}
use Rattle.checks.specs.Checks.{held_by}

unfoldable pub refusal_by : CodeRow → ℕ → ℕ → ℕ
refusal_by row code b = pick (eqb code 0xAC) 6 (pick (ltb row.options b) 8 0)

-- only E0-FF can wait
unfoldable pub waiting_by : CodeRow → ℕ → Sample → Bool
waiting_by row code s = ranged code ((0xE0, false) ∷ []) (held_by row.waits s.reply s.busy)
