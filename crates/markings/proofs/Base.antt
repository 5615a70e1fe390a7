-- With CP1661B every attempt is the one of before 02's L14. Assumes nothing.
use Prim.Native.Nat.{ℕ}
use mathlib.Core.Path.{◌≡◌, refl}
use mathlib.Core.List.{List}
use Rattle.std.specs.Prelude.{Ok, Err}
use Rattle.attempt.specs.Attempt.{executed_of, checked_of, taken_of, fetched_of, attempted_of, attempt_of}
use Rattle.attempt.specs.Effect.{register_effect, effect_of}
use Rattle.checks.specs.Checks.{word_refusal_of}
use Rattle.code.specs.Word.{Apart}
use Rattle.code.specs.declared.Unread.{Unread}
use Rattle.code.specs.declared.Operands.{Operands}
use Rattle.control.specs.Bus.{rmw_of}
use Rattle.execute.specs.Execute.{operation_of, conditioned_of, input_of, registers_of}
use Rattle.pairs.specs.Before.{effect_by, taken_by}
use Rattle.rows.specs.declared.Outputs.{Outputs}
use Rattle.rows.specs.declared.Row.{Row}
use Rattle.state.specs.File.{high_of}
use Rattle.state.specs.declared.Core.{Core}
use Rattle.state.specs.declared.Marking.{Marking}
use Rattle.state.specs.declared.Sample.{Sample}
use Rattle.markings.specs.Markings.{rmw_before, attempt_of_base}

module _ (k : Core) (base : k.marking ≡ Marking.CP1661B) (xs : List ℕ) (s : Sample) where
  same_effect : (code : ℕ) (o : Operands) → effect_of xs k code o s ≡ effect_by high_of word_refusal_of rmw_before xs k code o s
  unfolding effect_of register_effect registers_of conditioned_of operation_of input_of rmw_of
  same_effect code (Operands.Jump n) = refl
  same_effect code (Operands.Literal v a) = refl
  same_effect code (Operands.Two b a) = rw base

  same_taken : (x : Apart) (o : Outputs) → taken_of x o xs k s ≡ taken_by high_of word_refusal_of rmw_before x o xs k s
  unfolding checked_of executed_of
  same_taken (Ok w) o = rw (same_effect w.code w.operands)
  same_taken (Err Unread.OutOfRange) o = refl
  same_taken (Err Unread.Unlisted) o = refl

  pub base-as-before : (ws : List ℕ) (rs : List Row) → attempt_of ws rs xs k s ≡ attempt_of_base ws rs xs k s
  unfolding attempt_of attempted_of fetched_of
  base-as-before ws rs = rw (same_taken)
