-- A run of a cut's words is its steps one after the other: by induction over them. Assumes nothing.
use Prim.Native.Nat.{ℕ, ◌+◌, ◌*◌, ◌/◌, ◌<◌}
use mathlib.Core.Path.{◌≡◌, refl, sym, ◌∙◌}
use mathlib.Core.Bool.{Bool, true, false}
use mathlib.Core.List.{List, [], ◌∷◌, ◌++◌}
use lib.ListN.{length, drop}
use Rattle.alu.specs.declared.Flags.{Flags}
use Rattle.choose.specs.Ranged.{bit}
use Rattle.numbers.specs.Numbers.{word_at}
use Rattle.engine.proofs.Runs.{run-cons}
use Rattle.engine.specs.Run.{World, world, put4_of, stepped_of, run_from}
use Rattle.state.specs.File.{Leaves}
use Rattle.state.specs.declared.Core.{Core}
use Rattle.state.specs.declared.Sample.{Sample}
use Rattle.sums.specs.Sums.{Step, Cut, Sign, is_pair, instructions_of, InPlace, Computing}
use Rattle.sums.proofs.Attempt.{core_after, ended_at, attempt-is}
use Rattle.sums.proofs.Codes.{step_carry}
use Rattle.sums.proofs.Cycles.{Fits, step_made}

-- a step on the world so far, and the steps of a cut
abbrev pub step_on : Sign → Bool → Step → List ℕ → World → World
step_on sign later t ws w =
    let m = step_made sign w.file (step_carry sign later w.core.flags) t in
    world m.file (core_after w.core m.back (word_at ws w.core.address.lc)) 0 (w.attempts + 1)
    (w.microcycles + (1 + bit (is_pair t)))
    (put4_of w.buffer (w.attempts * 4) 0)

abbrev pub after : Sign → Bool → Cut → List ℕ → World → World
after sign later [] ws w = w
after sign later (t ∷ ts) ws w = after sign true ts ws (step_on sign later t ws w)

-- no word of 2^22 or more
abbrev pub Below22 : List ℕ → Type 0
Below22 ws = (i : ℕ) → i < length ws / 4 → word_at ws i < 0x40_0000

abbrev pub AllFit : Cut → Type 0
AllFit [] = Unit {0}
AllFit (t ∷ ts) = Fits t × AllFit ts

stepped-is : (w : World) (k : Core) (m : Leaves Flags) (word : ℕ) (wide : Bool)
    → stepped_of w (ended_at k m word wide)
    ≡ world m.file (core_after k m.back word) 0 (w.attempts + 1) (w.microcycles + (1 + bit wide)) (put4_of w.buffer (w.attempts * 4) 0)
unfolding stepped_of
stepped-is w k m word wide = refl

-- a cut's steps, from a world with no modification waiting; then what other instructions follow
module _ (sign : Sign) (ws : List ℕ) (is : List ℕ) where
  pub run_is : (later : Bool) (cut : Cut) (ss : List Sample) (w : World) → Below22 ws → AllFit cut
      → InPlace ws w.core.address.lc (instructions_of sign later cut ++ is) → Computing ss (instructions_of sign later cut ++ is)
      → w.core.latches.marked ≡ false → run_from ws [] ss w ≡ run_from ws [] (drop (length cut) ss) (after sign later cut ws w)
  run_is later [] ss w u f p c m = refl
  run_is later (t ∷ ts) [] w u f p c m = absurd c
  run_is later (t ∷ ts) (s ∷ ss) w u f p c m =
      let at = w.core.address.lc in
      run-cons ws [] s ss w _ (sym (attempt-is sign later t ws w.file w.core s f.0 p.0 (u at p.0) p.1 m c.0 c.1)) refl
      ∙ rw stepped-is (run_is true ts ss (step_on sign later t ws w) u f.1 p.2 c.2 refl)

  -- their words and their samples
  pub place-left : (later : Bool) (cut : Cut) (w : World) → InPlace ws w.core.address.lc (instructions_of sign later cut ++ is)
      → InPlace ws (after sign later cut ws w).core.address.lc is
  place-left later [] w p = p
  place-left later (t ∷ ts) w p = place-left true ts (step_on sign later t ws w) p.2

  pub samples-left : (later : Bool) (cut : Cut) (ss : List Sample) → Computing ss (instructions_of sign later cut ++ is)
      → Computing (drop (length cut) ss) is
  samples-left later [] ss c = c
  samples-left later (t ∷ ts) [] c = absurd c
  samples-left later (t ∷ ts) (s ∷ ss) c = samples-left true ts ss c.2
