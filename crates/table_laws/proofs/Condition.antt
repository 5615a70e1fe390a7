-- A failed condition leaves registers and flags as they were, and one that is met does what the code without it does. Assumes nothing.
use Prim.Native.Nat.{ℕ, ◌<◌, ◌≤◌}
use mathlib.Core.Path.{◌≡◌, refl, ap, sym, ◌∙◌}
use mathlib.Core.Bool.{Bool, true, false, not, ◌&&◌}
use mathlib.Core.List.{List}
use native.Mathlib.Omega.{arith}
use lib.Dec.{T, leb, leb→le}
use Rattle.alu.specs.declared.Flags.{Flags}
use Rattle.attempt.specs.Attempt.{executed_of, outputs_of, attempt_of}
use Rattle.attempt.specs.Effect.{register_effect, effect_of}
use Rattle.attempt.specs.Outcome.{Outcome}
use Rattle.attempt_laws.proofs.Fate.{attempt-fate}
use Rattle.attempt_laws.specs.Fate.{completed, within, b_in, a_in, taken_word, fate_of, EndsAs}
use Rattle.choose.proofs.Ranged.{in-arm}
use Rattle.choose.proofs.Table.{below}
use Rattle.choose.proofs.Tests.{holds, both_left, both_right}
use Rattle.choose.specs.Ranged.{pick, ranged}
use Rattle.code.proofs.Shape.{same_class}
use Rattle.code.proofs.Words.{apart-is}
use Rattle.code.specs.CodeRows.{class_of, cycles_of, row_of}
use Rattle.code.specs.Word.{top_of, operands_in, fields_in, same}
use Rattle.code.specs.declared.Class.{Class}
use Rattle.execute.specs.Execute.{operation_of, conditioned_of, registers_of}
use Rattle.plan.specs.Plan.{plan_of, condition_met}
use Rattle.rows.specs.declared.Outputs.{Outputs}
use Rattle.rows.specs.declared.Row.{Row}
use Rattle.state.specs.File.{Leaves, leaves}
use Rattle.state.specs.declared.Core.{Core}
use Rattle.state.specs.declared.Sample.{Sample}
use Rattle.table_laws.specs.Condition.{Conditional, cmb, cmb-odd, cmw, cmw-odd, cab, cab-odd, caw, caw-odd, cawi, cawi-odd}
use Rattle.table_laws.specs.Condition.{Unconditional, LeavesAs}
use Rattle.attempt_laws.specs.After.{cost_is}
use Rattle.attempt_laws.proofs.After.{attempt-cost}
use Rattle.table_laws.specs.Set.{condition_fails}
use Rattle.table_laws.proofs.Fates.{attempt-cycles-are}

-- ---- 01's list: a test that antt computes over the codes

-- of a code whose condition fails: it is a register code of 80-DF, and the engine's condition isn't met; else it is met
abbrev failing : ℕ → Bool
failing code = within 0x80 0xDF code && same (class_of code) Class.Register

abbrev condition : Bool → Bool → ℕ → Bool
condition c ics code = pick (condition_fails code c ics) (not (condition_met code c ics) && failing code) (condition_met code c ics)

conditions : (c ics : Bool) (code : ℕ) → code < 0x100 → T (condition c ics code)
unfolding condition_fails condition_met class_of ranged
conditions true true = below 0x100 (condition true true) tt
conditions true false = below 0x100 (condition true false) tt
conditions false true = below 0x100 (condition false true) tt
conditions false false = below 0x100 (condition false false) tt

not-met : (t : Bool) → T (not t) → t ≡ false
not-met true t = absurd t
not-met false t = refl

module _ (c ics : Bool) (code : ℕ) (h : code < 0x100) where
  record Fails : Type 0 where
    unmet : condition_met code c ics ≡ false
    from : 0x80 ≤ code
    to : code ≤ 0xDF
    class : class_of code ≡ Class.Register

  fails : condition_fails code c ics ≡ true → Fails
  fails e =
      let t : T (not (condition_met code c ics) && failing code) = rw e at (conditions c ics code h) in
      let v = both_right (not (condition_met code c ics)) (failing code) t in
      let w = both_left (within 0x80 0xDF code) (same (class_of code) Class.Register) v in
      record {
        unmet = not-met _ (both_left (not (condition_met code c ics)) (failing code) t);
        from = leb→le 0x80 code (both_left (leb 0x80 code) (leb code 0xDF) w);
        to = leb→le code 0xDF (both_right (leb 0x80 code) (leb code 0xDF) w);
        class = same_class _ _ (holds _ (both_right (within 0x80 0xDF code) (same (class_of code) Class.Register) v));
      }

  pub condition-holds : condition_fails code c ics ≡ false → condition_met code c ics ≡ true
  condition-holds e = holds _ (rw e at (conditions c ics code h))

-- ---- what the instruction leaves

module _ (xs : List ℕ) (k : Core) (dal : ℕ) where
  fails-leaves : (code b a : ℕ) → code < 0x100 → condition_fails code k.flags.c k.latches.ics ≡ true
      → registers_of xs k dal code b a ≡ leaves xs k.flags
  unfolding registers_of conditioned_of
  fails-leaves code b a h e =
      let f = fails k.flags.c k.latches.ics code h e in
      in-arm code _ _ 1 0x80 tt f.from (omega arith) ∙ rw f.unmet

  chosen : {A : Type 0} (t : Bool) (x y : A) → t ≡ true → pick t x y ≡ x
  chosen t x y e = rw e

  met-leaves : {code other : ℕ} (b a : ℕ) → Conditional code other → condition_met code k.flags.c k.latches.ics ≡ true
      → registers_of xs k dal code b a ≡ registers_of xs k dal other b a
  unfolding registers_of conditioned_of operation_of plan_of condition_met ranged
  met-leaves b a cmb e = chosen _ _ _ e
  met-leaves b a cmb-odd e = chosen _ _ _ e
  met-leaves b a cmw e = chosen _ _ _ e
  met-leaves b a cmw-odd e = chosen _ _ _ e
  met-leaves b a cab e = chosen _ _ _ e
  met-leaves b a cab-odd e = chosen _ _ _ e
  met-leaves b a caw e = chosen _ _ _ e
  met-leaves b a caw-odd e = chosen _ _ _ e
  met-leaves b a cawi e = chosen _ _ _ e
  met-leaves b a cawi-odd e = chosen _ _ _ e

-- both are register codes, of the same cycles
record Alike (code other : ℕ) : Type 0 where
  class : class_of code ≡ Class.Register
  other-class : class_of other ≡ Class.Register
  cycles : (row_of code).cycles ≡ (row_of other).cycles

alike : {code other : ℕ} → Conditional code other → Alike code other
unfolding row_of class_of cycles_of ranged
alike cmb = record { class = refl; other-class = refl; cycles = refl }
alike cmb-odd = record { class = refl; other-class = refl; cycles = refl }
alike cmw = record { class = refl; other-class = refl; cycles = refl }
alike cmw-odd = record { class = refl; other-class = refl; cycles = refl }
alike cab = record { class = refl; other-class = refl; cycles = refl }
alike cab-odd = record { class = refl; other-class = refl; cycles = refl }
alike caw = record { class = refl; other-class = refl; cycles = refl }
alike caw-odd = record { class = refl; other-class = refl; cycles = refl }
alike cawi = record { class = refl; other-class = refl; cycles = refl }
alike cawi-odd = record { class = refl; other-class = refl; cycles = refl }

-- ---- every completed attempt

module _ (xs : List ℕ) (k : Core) (s : Sample) (o : Outputs) (word : ℕ) where
  abbrev word_leaves : Leaves Flags
  word_leaves = registers_of xs k s.dal (top_of word) (b_in word) (a_in word)

  abbrev Leaving : Leaves Outcome → Type 0
  Leaving e = (e.file ≡ word_leaves.file) × (e.back.core.flags ≡ word_leaves.back)

  executed-leaves : Leaving (executed_of xs k (fields_in Class.Register word) s o)
  unfolding executed_of effect_of fields_in operands_in register_effect
  executed-leaves = (refl, refl)

  ends-leaving : (e : Leaves Outcome) → EndsAs word xs k s o e completed → class_of (top_of word) ≡ Class.Register → Leaving e
  ends-leaving e (w, a, q) c =
      let (b, l, p) = apart-is word w a in
      rw (q, ← p, c) executed-leaves

module _ (rs : List Row) (xs : List ℕ) (k : Core) (s : Sample) where
  attempt-leaving : (ws : List ℕ) → fate_of ws k s ≡ completed → class_of (top_of (taken_word ws k)) ≡ Class.Register
      → Leaving xs k s (outputs_of ws rs k s) (taken_word ws k) (attempt_of ws rs xs k s)
  attempt-leaving ws e =
      ends-leaving xs k s (outputs_of ws rs k s) (taken_word ws k) (attempt_of ws rs xs k s) (rw e at (attempt-fate ws rs xs k s))

  attempt-costs : (ws : List ℕ) → fate_of ws k s ≡ completed → (attempt_of ws rs xs k s).back.cycles ≡ (row_of (top_of (taken_word ws k))).cycles
  attempt-costs ws e = rw e at (attempt-cycles-are ws rs xs k s)

  -- "A failed condition (C, or ICS for CAWI, being 0) changes registers and flags not at all; cycles stay"
  pub failed-condition : (ws : List ℕ) → fate_of ws k s ≡ completed → condition_fails (top_of (taken_word ws k)) k.flags.c k.latches.ics ≡ true
      → LeavesAs (attempt_of ws rs xs k s) (leaves xs k.flags) (cost_is (top_of (taken_word ws k)))
  failed-condition ws e f =
      let word = taken_word ws k in
      let h : top_of word < 0x100 = omega arith in
      let code = fails k.flags.c k.latches.ics (top_of word) h f in
      let (file, flags) = attempt-leaving ws e code.class in
      let none = fails-leaves xs k s.dal (top_of word) (b_in word) (a_in word) h f in
      record {
        file = file ∙ ap (λ (m : Leaves Flags). m.file) none;
        flags = flags ∙ ap (λ (m : Leaves Flags). m.back) none;
        cycles = attempt-cost ws rs xs k s e;
      }

  -- one that is met leaves what the code without it leaves, from the same state
  pub met-condition : (ws other : List ℕ) → Unconditional (taken_word ws k) (taken_word other k)
      → fate_of ws k s ≡ completed → fate_of other k s ≡ completed → condition_fails (top_of (taken_word ws k)) k.flags.c k.latches.ics ≡ false
      → let e = attempt_of other rs xs k s in
      LeavesAs (attempt_of ws rs xs k s) (leaves e.file e.back.core.flags) e.back.cycles
  met-condition ws other u p q f =
      let word = taken_word ws k in
      let both = alike u.code in
      let (file, flags) = attempt-leaving ws p both.class in
      let (file', flags') = attempt-leaving other q both.other-class in
      let holding = condition-holds k.flags.c k.latches.ics (top_of word) (omega arith) f in
      let same : registers_of xs k s.dal (top_of word) (b_in word) (a_in word) ≡ word_leaves xs k s (outputs_of other rs k s) (taken_word other k) =
      rw (u.b, u.a) (met-leaves xs k s.dal (b_in word) (a_in word) u.code holding) in
      record {
        file = file ∙ ap (λ (m : Leaves Flags). m.file) same ∙ sym file';
        flags = flags ∙ ap (λ (m : Leaves Flags). m.back) same ∙ sym flags';
        cycles = attempt-costs ws p ∙ both.cycles ∙ sym (attempt-costs other q);
      }
