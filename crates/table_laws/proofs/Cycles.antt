-- What one byte cycle, or the two of a word, leave as they were: by the plan's kind, by whether it stores, and by the code being odd.
-- Assumes nothing.
use Prim.Native.Nat.{ℕ}
use mathlib.Core.Path.{◌≡◌, refl, ◌∙◌}
use mathlib.Core.Bool.{Bool, true, false, false≢true}
use mathlib.Core.List.{List, [], ◌∷◌}
use native.Mathlib.Omega.{arith}
use Rattle.alu.specs.Cycle.{cycle_of, kept_of, high_first_of}
use Rattle.alu.specs.Marks.{after_of, after_byte_of, after_word_of}
use Rattle.alu.specs.declared.Cycle.{Cycle}
use Rattle.alu.specs.declared.Flags.{Flags}
use Rattle.alu.specs.declared.Kind.{Kind}
use Rattle.choose.proofs.Choice.{pick_all, pick-both}
use Rattle.choose.specs.Ranged.{pick}
use Rattle.cycles.specs.Cycles.{step_of, one_cycle_of, one_then_other, two_cycles_of}
use Rattle.cycles.specs.declared.Designators.{Designators}
use Rattle.cycles.specs.declared.Plan.{Plan}
use Rattle.state.proofs.Laws.{written-length, written-other}
use Rattle.state.specs.File.{Leaves, leaves, slot_of, written_of}
use Rattle.table_laws.specs.Table.{Elsewhere, RegistersKept, FlagsKept, RestKept}

-- moves and logic keep C4, C8 and C
abbrev pub carries : Kind → Bool
carries Kind.Add = false
carries Kind.Subtract = false
carries Kind.And = true
carries Kind.AndNot = true
carries Kind.Or = true
carries Kind.Exclusive = true
carries Kind.Move = true
carries Kind.Ones = false
carries Kind.Left = false
carries Kind.Right = false

-- the flags that a cycle writes, whether it carries and whether the code is odd
abbrev pub marks : Bool → Bool → ℕ
marks true true = 0xEC
marks true false = 0x0C
marks false true = 0xFF
marks false false = 0x0F

pub record Carried (f : Flags) (y : Cycle) : Type 0 where
  pub c4 : y.c4 ≡ f.c4
  pub c8 : y.c8 ≡ f.c8
  pub c : y.c ≡ f.c

cycle-carried : (k : Kind) (p q : ℕ) (c : Bool) (f : Flags) → carries k ≡ true → Carried f (cycle_of k p q c f)
unfolding cycle_of kept_of
cycle-carried Kind.Add p q c f e = absurd (false≢true e)
cycle-carried Kind.Subtract p q c f e = absurd (false≢true e)
cycle-carried Kind.And p q c f e = record { c4 = refl; c8 = refl; c = refl }
cycle-carried Kind.AndNot p q c f e = record { c4 = refl; c8 = refl; c = refl }
cycle-carried Kind.Or p q c f e = record { c4 = refl; c8 = refl; c = refl }
cycle-carried Kind.Exclusive p q c f e = record { c4 = refl; c8 = refl; c = refl }
cycle-carried Kind.Move p q c f e = record { c4 = refl; c8 = refl; c = refl }
cycle-carried Kind.Ones p q c f e = absurd (false≢true e)
cycle-carried Kind.Left p q c f e = absurd (false≢true e)
cycle-carried Kind.Right p q c f e = absurd (false≢true e)

-- a bit that is 1 is not 0
pub set : {A : Type 0} → ◌≡◌ {A = ℕ} 1 0 → A
set e = absurd (omega arith)

-- "condition flags (N Z V C) only by .. odd codes"
pub after-keeps : (t odd : Bool) (f : Flags) (y : Cycle) (zero : Bool) → (t ≡ true → Carried f y) → FlagsKept (marks t odd) f (after_of f y zero odd)
unfolding after_of
after-keeps true true f y zero h =
    record { n = set; z = set; v = set; c = λ e. (h refl).c; nb = set; zb = set; c4 = λ e. (h refl).c4; c8 = λ e. (h refl).c8 }
after-keeps true false f y zero h =
    record {
      n = λ e. refl;
      z = λ e. refl;
      v = λ e. refl;
      c = λ e. refl;
      nb = set;
      zb = set;
      c4 = λ e. (h refl).c4;
      c8 = λ e. (h refl).c8;
    }
after-keeps false true f y zero h =
    record { n = set; z = set; v = set; c = set; nb = set; zb = set; c4 = set; c8 = set }
after-keeps false false f y zero h =
    record { n = λ e. refl; z = λ e. refl; v = λ e. refl; c = λ e. refl; nb = set; zb = set; c4 = set; c8 = set }

-- ---- registers

module _ (g : ℕ) where
  pub all-kept : (ds xs : List ℕ) → RegistersKept g ds xs xs
  all-kept ds xs = record { size = refl; byte = λ i n. refl }

  -- a write changes the place of its register and no other
  pub written-kept : (d v : ℕ) (ds xs : List ℕ) → ((i : ℕ) → Elsewhere g ds i → i ≡ slot_of g d → ⊥) → RegistersKept g ds xs (written_of xs g d v)
  written-kept d v ds xs among = record { size = written-length xs g d v; byte = λ i n. written-other xs g d v i (among i n) }

  then-kept : {ds xs ys zs : List ℕ} → RegistersKept g ds xs ys → RegistersKept g ds ys zs → RegistersKept g ds xs zs
  then-kept h l = record { size = l.size ∙ h.size; byte = λ i n. l.byte i n ∙ h.byte i n }

-- ---- cycles

module _ (g : ℕ) (f : Flags) (plan : Plan) where
  -- those of ds, where the plan stores
  abbrev pub storing : List ℕ → List ℕ
  storing ds = pick plan.stores ds []

  -- a plan's own columns, which its cycles obey
  abbrev pub Follows : List ℕ → Bool → List ℕ → Leaves Flags → Type 0
  Follows ds odd xs m = RestKept g (storing ds) (marks (carries plan.kind) odd) (leaves xs f) m

  -- "Compare and test write no register"
  step_kept : (xs : List ℕ) (at : Designators) (carry high : Bool) (ds : List ℕ) → ((i : ℕ) → Elsewhere g ds i → i ≡ slot_of g at.a → ⊥)
      → RegistersKept g (storing ds) xs (step_of xs g f plan at carry high).file
  unfolding step_of
  step_kept xs at carry high ds among =
      pick-both (λ (es ys : List ℕ). RegistersKept g es xs ys) plan.stores _ _ _ _ (written-kept g at.a _ ds xs among) (all-kept g [] xs)

  step-carried : (xs : List ℕ) (at : Designators) (carry high : Bool) → carries plan.kind ≡ true → Carried f (step_of xs g f plan at carry high).back
  unfolding step_of
  step-carried xs at carry high e = cycle-carried plan.kind _ _ carry f e

  pub one-cycle : (xs : List ℕ) (at : Designators) (odd : Bool) → Follows (at.a ∷ []) odd xs (one_cycle_of xs g f plan at odd)
  unfolding one_cycle_of after_byte_of
  one-cycle xs at odd =
      record {
        registers = step_kept xs at plan.carry false (at.a ∷ []) (λ i n. n.0);
        flags = after-keeps (carries plan.kind) odd f _ _ (step-carried xs at plan.carry false);
      }

  module _ (low high : Designators) where
    abbrev both : List ℕ
    both = low.a ∷ high.a ∷ []

    abbrev Among : Designators → Type 0
    Among at = (i : ℕ) → Elsewhere g both i → i ≡ slot_of g at.a → ⊥

    joined : (xs : List ℕ) (one other : Designators) → Among one → Among other → (first odd : Bool)
        → Follows both odd xs (one_then_other xs g f plan one other first odd)
    unfolding after_word_of
    joined xs one other among also first odd =
        record {
          registers = then-kept g (step_kept xs one plan.carry first both among) (step_kept _ other _ _ both also);
          flags = after-keeps (carries plan.kind) odd f _ _ (step-carried _ other _ _);
        }

    pub two-cycles : (xs : List ℕ) (odd : Bool) → Follows both odd xs (two_cycles_of xs g f plan low high odd)
    unfolding two_cycles_of
    two-cycles xs odd =
        let is-low : Among low = λ i n. n.0 in
        let is-high : Among high = λ i n. n.1.0 in
        pick_all (Follows both odd xs) (high_first_of plan.kind) _ _
        (joined xs high low is-high is-low true odd)
        (joined xs low high is-low is-high false odd)
