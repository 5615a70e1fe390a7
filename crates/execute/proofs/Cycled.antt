-- The cycles of 80-DF one after the other, as a loop runs them: one or two of them are the operation.
use Prim.Native.Nat.{ℕ, zero, suc, ◌+◌, ◌/◌, ◌%◌, ◌<◌}
use mathlib.Core.Path.{◌≡◌, refl}
use mathlib.Core.Bool.{Bool, true, false, not, ◌&&◌, and-true, and-false, beq}
use mathlib.Core.List.{List}
use Rattle.std.specs.Prelude.{Option, Some, None, unwrap_or}
use native.Mathlib.Omega.{arith}
use lib.Dec.{leb, eqb}
use Rattle.alu.specs.Cycle.{high_first_of}
use Rattle.alu.specs.Marks.{after_of, after_byte_of, after_word_of}
use Rattle.alu.specs.declared.Cycle.{Cycle}
use Rattle.alu.specs.declared.Flags.{Flags}
use Rattle.choose.specs.Ranged.{pick, ranged}
use Rattle.choose.proofs.Table.{below}
use Rattle.choose.proofs.Tests.{equal-tests}
use Rattle.cycles.specs.Cycles.{step_of, one_cycle_of, two_cycles_of}
use Rattle.plan.specs.Plan.{plan_of}
use Rattle.state.specs.File.{Leaves, leaves, high_of}
use Rattle.execute.specs.Execute.{designators, operation_of}

-- right shifts are the codes from D8 on
pub high-first : (f : Flags) (code : ℕ) → code < 256 → high_first_of (plan_of code f).kind ≡ leb 0xD8 code
unfolding plan_of ranged
high-first f code h = equal-tests _ _ (below 256 (λ x. beq (high_first_of (plan_of x f).kind) (leb 0xD8 x)) tt code h)

-- what the cycles so far leave: the file, the last cycle, the next one's carry if there was one, whether all results were 0, whether the next is a high byte's
pub record Cycled : Type 0 where
  pub file : List ℕ
  pub last : Cycle
  pub carry : Option Bool
  pub none : Bool
  pub high : Bool

abbrev pub cycled_to : List ℕ → Cycle → Option Bool → Bool → Bool → Cycled
cycled_to xs y carry none high = record { file = xs; last = y; carry = carry; none = none; high = high }

module _ (g : ℕ) (f : Flags) (code b a : ℕ) where
  abbrev pub next : Cycled → Cycled
  next t =
      let at = pick t.high (designators (high_of a) (high_of b)) (designators a b) in
      let y = step_of t.file g f (plan_of code f) at (unwrap_or t.carry (plan_of code f).carry) t.high in
      cycled_to y.file y.back (Some y.back.c8) (t.none && eqb y.back.result 0) (not t.high)

  abbrev pub cycled : ℕ → Cycled → Cycled
  cycled zero t = t
  cycled (suc k) t = next (cycled k t)

  abbrev pub flagged : Cycled → Leaves Flags
  flagged t = leaves t.file (after_of f t.last t.none (eqb (code % 2) 1))

  module _ (xs : List ℕ) (y : Cycle) where
    two : (t : Bool) → high_first_of (plan_of code f).kind ≡ t → code / 2 % 2 ≡ 1 → flagged (cycled 2 (cycled_to xs y None true t))
        ≡ operation_of xs g f code b a
    unfolding operation_of two_cycles_of after_word_of
    two true e h = rw (h, e)
    two false e h = rw (h, e)

    pub operates : code < 256 →
        flagged (cycled (1 + code / 2 % 2) (cycled_to xs y None true (leb 0xD8 code && eqb (1 + code / 2 % 2) 2))) ≡ operation_of xs g f code b a
    unfolding operation_of one_cycle_of after_byte_of
    operates l = go (code / 2 % 2) refl
      where
        go : (m : ℕ) → code / 2 % 2 ≡ m → flagged (cycled (1 + m) (cycled_to xs y None true (leb 0xD8 code && eqb (1 + m) 2))) ≡ operation_of xs g f code b a
        go zero e = rw (and-false, e)
        go (suc zero) e = rw (and-true) (two (leb 0xD8 code) (high-first f code l) e)
        go (suc (suc m)) e = absurd (omega arith)
