-- The cases of one attempt: what holds of a refusal, of a wait, of RESET, of COMPUTE low and of each executed word holds of the attempt.
-- Assumes nothing.
use Prim.Native.Nat.{ℕ, ◌/◌}
use mathlib.Core.Path.{◌≡◌, refl}
use mathlib.Core.List.{List}
use lib.Dec.{eqb, ltb}
use lib.ListN.{length}
use Rattle.std.specs.Prelude.{Ok, Err}
use Rattle.code.specs.Word.{Apart, apart_of, WellFormed}
use Rattle.code.specs.declared.Unread.{Unread}
use Rattle.code.specs.declared.Fields.{Fields}
use Rattle.code.proofs.Laws.{apart-well-formed}
use Rattle.checks.specs.Checks.{word_refusal_of, waiting_of}
use Rattle.rows.specs.declared.Outputs.{Outputs}
use Rattle.rows.specs.declared.Row.{Row}
use Rattle.state.specs.declared.Core.{Core}
use Rattle.state.specs.declared.Sample.{Sample}
use Rattle.attempt.specs.Attempt.{when_refused, when_idle, executed_of, checked_of, reset_of, modified_of}
use Rattle.attempt.specs.Attempt.{taken_of, fetched_of, attempted_of, outputs_of, attempt_of}
use Rattle.choose.proofs.Choice.{pick_all}
use Rattle.numbers.specs.Numbers.{word_at}
use Rattle.state.specs.File.{Leaves}
use Rattle.attempt.specs.Outcome.{Outcome}

-- P of each case, with the rows' outputs o
pub record Cases (P : Leaves Outcome → Type 0) (xs : List ℕ) (k : Core) (s : Sample) (o : Outputs) : Type 0 where
  pub refuses : (number : ℕ) → P (when_refused xs k number)
  pub waits : P (when_idle xs k 10)
  pub resets : P (when_idle xs (reset_of k) 11)
  pub stops : P (when_idle xs k 12)
  pub executes : (w : Fields) → WellFormed w → P (executed_of xs k w s o)

module _ (P : Leaves Outcome → Type 0) (xs : List ℕ) (k : Core) (s : Sample) (o : Outputs) (c : Cases P xs k s o) where
  checked-all : (w : Fields) → WellFormed w → P (checked_of xs k w s o)
  unfolding checked_of
  checked-all w f =
      pick_all P (eqb (word_refusal_of w.code w.operands) 0) _ _
      (pick_all P (waiting_of w.code s) _ _ c.waits (c.executes w f))
      (c.refuses (word_refusal_of w.code w.operands))

  taken-all : (word : ℕ) (x : Apart) → apart_of word ≡ x → P (taken_of x o xs k s)
  taken-all word (Ok w) e = checked-all w (apart-well-formed word w e)
  taken-all word (Err Unread.OutOfRange) e = c.refuses 2
  taken-all word (Err Unread.Unlisted) e = c.refuses 6

  fetched-all : (ws : List ℕ) → P (fetched_of ws o xs k s)
  unfolding fetched_of
  fetched-all ws =
      pick_all P (ltb k.address.lc (length ws / 4)) _ _
      (taken-all (modified_of (word_at ws k.address.lc) k.latches) _ refl)
      (c.refuses 5)

  attempted-all : (ws : List ℕ) → P (attempted_of ws o xs k s)
  unfolding attempted_of
  attempted-all ws =
      pick_all P s.reset _ _ c.resets (pick_all P s.compute _ _ (fetched-all ws) c.stops)

pub attempt-all : (P : Leaves Outcome → Type 0) (ws : List ℕ) (rs : List Row) (xs : List ℕ) (k : Core) (s : Sample)
    → Cases P xs k s (outputs_of ws rs k s) → P (attempt_of ws rs xs k s)
unfolding attempt_of
attempt-all P ws rs xs k s c = attempted-all P xs k s (outputs_of ws rs k s) c ws
