-- The register file stays in range whatever instruction is executed: by its plan, and by the byte that it stores.
-- Assumes nothing.
use Prim.Native.Nat.{ℕ, ◌/◌, ◌%◌, ◌<◌}
use mathlib.Core.Bool.{Bool, false}
use mathlib.Core.List.{List}
use native.Mathlib.Omega.{arith}
use lib.Dec.{T, eqb, ltb, lt→ltb}
use Rattle.alu.specs.declared.Flags.{Flags}
use Rattle.state.specs.File.{Leaves, high_of}
use Rattle.state.proofs.Digits.{flag-byte-below}
use Rattle.state.specs.declared.Core.{Core}
use Rattle.cycles.specs.declared.Plan.{Plan}
use Rattle.plan.specs.Plan.{plans, plan_of, condition_met, literal_plan_of}
use Rattle.execute.specs.Execute.{designators, literal_of, copied_of, stepped_by_of, codes70_to77_of, operation_of, conditioned_of, upper_of, selected_of}
use Rattle.execute.specs.Execute.{input_of, gain_of, access_of, registers_of}
use Rattle.choose.proofs.Choice.{end, ◌also◌, pick_all, ranged-all, tested}
use Rattle.attempt_laws.proofs.Files.{FileInRange, plan_fits, written-in-range, one-cycle-in-range, two-cycles-in-range}

-- ---- plans

abbrev Fits : Plan → Type 0
Fits plan = T (plan_fits plan)

-- the numbers of the plans are 0, 1 and 2
plan-fits : (code : ℕ) (f : Flags) → Fits (plan_of code f)
unfolding plan_of
plan-fits code f = ranged-all Fits code _ (tested plan_fits (plans f) tt) tt

literal-plan-fits : (code v : ℕ) → T (ltb v 65536) → Fits (literal_plan_of code v)
unfolding literal_plan_of
literal-plan-fits code v t = ranged-all Fits code _ (t also t also t also end) t

-- ---- what is stored

selected-fits : (dal m b : ℕ) → dal < 65536 → selected_of dal m b < 65536
unfolding selected_of
selected-fits dal m b h = pick_all (λ (n : ℕ). n < 65536) (upper_of m b) _ _ (omega arith) (omega arith)

-- ---- instructions

abbrev Keeps : Leaves Flags → Type 0
Keeps m = FileInRange m.file

module _ (xs : List ℕ) (g : ℕ) (f : Flags) (h : FileInRange xs) where
  pub literal-in-range : (code v a : ℕ) → v < 65536 → Keeps (literal_of xs g f code v a)
  unfolding literal_of
  literal-in-range code v a l =
      pick_all Keeps (eqb (code / 16) 3) _ _ h
      (one-cycle-in-range g f _ (literal-plan-fits code v (lt→ltb v 65536 l)) xs (designators a a) _ h)

  copied-in-range : (a : ℕ) → Keeps (copied_of xs g f a)
  unfolding copied_of
  copied-in-range a = written-in-range xs g _ _ h (flag-byte-below f)

  stepped-by-in-range : (a by : ℕ) → T (ltb by 65536) → Keeps (stepped_by_of xs g f a by)
  unfolding stepped_by_of
  stepped-by-in-range a by t = one-cycle-in-range g f _ t xs (designators a a) _ h

  codes-70-to-77-in-range : (code b a : ℕ) → Keeps (codes70_to77_of xs g f code b a)
  unfolding codes70_to77_of
  codes-70-to-77-in-range code b a =
      ranged-all Keeps code _ (h also copied-in-range a also h also h also stepped-by-in-range a _ tt also end) (stepped-by-in-range a _ tt)

  operation-in-range : (code b a : ℕ) → Keeps (operation_of xs g f code b a)
  unfolding operation_of
  operation-in-range code b a =
      let t = plan-fits code f in
      pick_all Keeps (eqb (code / 2 % 2) 0) _ _
      (one-cycle-in-range g f _ t xs (designators a b) _ h)
      (two-cycles-in-range g f _ t xs (designators a b) (designators (high_of a) (high_of b)) _ h)

  conditioned-in-range : (ics : Bool) (code b a : ℕ) → Keeps (conditioned_of xs g f ics code b a)
  unfolding conditioned_of
  conditioned-in-range ics code b a = pick_all Keeps (condition_met code f.c ics) _ _ (operation-in-range code b a) h

  input-in-range : (code dal m b a : ℕ) → dal < 65536 → Keeps (input_of xs g f code dal m b a)
  unfolding input_of
  input-in-range code dal m b a l =
      pick_all Keeps (eqb (code / 2 % 2) 0) _ _
      (one-cycle-in-range g f _ (lt→ltb (selected_of dal m b) 65536 (selected-fits dal m b l)) xs (designators a a) _ h)
      (two-cycles-in-range g f _ (lt→ltb dal 65536 l) xs (designators a a) (designators (high_of a) (high_of a)) _ h)

  access-in-range : (code b a : ℕ) → Keeps (access_of xs g f code b a)
  unfolding access_of
  access-in-range code b a =
      let t : T (ltb (gain_of code) 65536) = pick_all (λ (n : ℕ). T (ltb n 65536)) (eqb (code / 4 % 2) 0) _ _ tt tt in
      pick_all Keeps (eqb (code / 2 % 2) 0) _ _
      (one-cycle-in-range g f _ t xs (designators a a) false h)
      (two-cycles-in-range g f _ t xs _ _ _ h)

pub registers-in-range : (xs : List ℕ) (core : Core) (dal code b a : ℕ) → FileInRange xs → dal < 65536 → Keeps (registers_of xs core dal code b a)
unfolding registers_of
registers-in-range xs core dal code b a h l =
    let g = core.latches.g in
    let f = core.flags in
    ranged-all Keeps code _
    (codes-70-to-77-in-range xs g f h code b a also
    conditioned-in-range xs g f h core.latches.ics code b a also
    input-in-range xs g f h code dal core.bus.m b a l also
    h also
    access-in-range xs g f h code b a also
    end)
    h
