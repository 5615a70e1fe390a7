-- One attempt at a step's word: fetched, taken apart, not refused, not held, executed. Assumes nothing.
use Prim.Native.Nat.{ℕ, ◌+◌, ◌*◌, ◌/◌, ◌%◌, ◌<◌, ◌≤◌}
use mathlib.Core.Path.{◌≡◌, refl}
use mathlib.Core.Bool.{Bool, true, false}
use mathlib.Core.List.{List, []}
use native.Mathlib.Omega.{arith}
use lib.Dec.{eqb, ltb}
use lib.ListN.{length}
use borrow.Author.Tests.{lt-ltb, le-ltb}
use Rattle.std.specs.Prelude.{Ok}
use Rattle.alu.specs.declared.Flags.{Flags}
use Rattle.attempt.specs.Attempt.{executed_of, checked_of, modified_of, fetched_of, attempted_of, outputs_of, attempt_of}
use Rattle.numbers.specs.Numbers.{word_at}
use Rattle.attempt.specs.Effect.{register_effect, effect_of}
use Rattle.checks.specs.Checks.{designator_refusal_of, word_refusal_of}
use Rattle.choose.specs.Ranged.{bit, pick}
use Rattle.code.specs.CodeRows.{class_of}
use Rattle.code.specs.Word.{operands_in, fields_in, apart_of}
use Rattle.code.specs.declared.Class.{Class}
use Rattle.code.specs.declared.Fields.{Fields}
use Rattle.code.specs.declared.Operands.{Operands}
use Rattle.control.specs.Latches.{used}
use Rattle.control.specs.Next.{address_after, next_of, onward_of, rr_of, tsr_of, plus_one}
use Rattle.rows.proofs.Laws.{scan-none}
use Rattle.rows.specs.Scan.{none}
use Rattle.state.specs.declared.Core.{Core}
use Rattle.state.specs.declared.Latches.{Latches}
use Rattle.state.specs.declared.Sample.{Sample}
use Rattle.sums.specs.Sums.{Step, Sign, step_code, instruction_of, is_pair, source_of, target_of}
use Rattle.attempt_laws.specs.After.{has_bit, following}
use Rattle.attempt_laws.specs.Fate.{user_bits}
use Rattle.sums.specs.Sums.Step.{byte, pair}
use Rattle.sums.proofs.Codes.{cycles, options, goes_on, bus-kept, latches-kept, no-request, no-rtsr, working, class, no-cad, word-bit, step_carry}
use Rattle.sums.proofs.Cycles.{Fits, step_made, step_is}
use Rattle.state.specs.File.{Leaves, leaves}
use Rattle.attempt.specs.Outcome.{Outcome, outcome_of}

-- ---- the word

-- the digits of bits 15-0
digits : (w c b a : ℕ) → b ≤ 0xF → a ≤ 0xF → w % 0x1_0000 ≡ c * 0x100 + b * 0x10 + a
    → (w / 0x100 % 0x100 ≡ c) × (w / 0x10 % 0x10 ≡ b) × (w % 0x10 ≡ a)
digits w c b a hb ha e = omega arith

-- the fields of a register code's word
abbrev fields_at : ℕ → ℕ → ℕ → ℕ → Fields
fields_at w c b a =
    record {
      code = c;
      class = Class.Register;
      operands = Operands.Two b a;
      load_rr = eqb (w / 0x1_0000 % 2) 1;
      rni = eqb (w / 0x2_0000 % 2) 1;
      user = w / 0x4_0000 % 0x10;
    }

apart-is : (w c b a : ℕ) → class_of c ≡ Class.Register → w < 0x40_0000 → b ≤ 0xF → a ≤ 0xF → w % 0x1_0000 ≡ c * 0x100 + b * 0x10 + a
    → apart_of w ≡ Ok (fields_at w c b a)
unfolding apart_of fields_in operands_in
apart-is w c b a k h hb ha e =
    let d = digits w c b a hb ha e in
    rw (lt-ltb w 0x40_0000 h, d.0, k, d.1, d.2)

-- ---- neither refused nor held

source-below : (t : Step) → Fits t → source_of t ≤ 15
source-below (byte a b) h = h.3
source-below (pair a b) h = omega (arith, h.3)

refusal-none : (sign : Sign) (later : Bool) (t : Step) → Fits t
    → word_refusal_of (step_code sign later (is_pair t)) (Operands.Two (source_of t) (target_of t)) ≡ 0
unfolding word_refusal_of designator_refusal_of
refusal-none sign later t h =
    rw (no-cad sign later (is_pair t), options (step_code sign later (is_pair t)) (working sign later (is_pair t)), le-ltb 15 (source_of t) (source-below t h))

-- ---- executed

-- the rest of the state after a step with the word w
abbrev pub core_after : Core → Flags → ℕ → Core
core_after k f w =
    record {
      flags = f;
      address = record { lc = following k.address.lc; rr = pick (has_bit 16 w) (following k.address.lc) k.address.rr; tsr = k.address.tsr };
      bus = k.bus;
      latches = used k.latches;
      outputs = user_bits w;
      marking = k.marking;
    }

abbrev pub ended_at : Core → Leaves Flags → ℕ → Bool → Leaves Outcome
ended_at k m w wide = leaves m.file (outcome_of (core_after k m.back w) 0 (1 + bit wide) 0)

plus_one_lem : (at : ℕ) → plus_one at ≡ following at
plus_one_lem at = omega arith

executed-is : (sign : Sign) (later : Bool) (t : Step) (xs : List ℕ) (k : Core) (s : Sample) (w : ℕ) → Fits t
    → executed_of xs k (fields_at w (step_code sign later (is_pair t)) (source_of t) (target_of t)) s none
    ≡ ended_at k (step_made sign xs (step_carry sign later k.flags) t) w (is_pair t)
unfolding executed_of effect_of register_effect address_after next_of onward_of rr_of tsr_of
executed-is sign later t xs k s w h =
    let c = step_code sign later (is_pair t) in
    let r = working sign later (is_pair t) in
    rw (
      step_is sign later t xs k s.dal h,
      bus-kept c r,
      latches-kept c r,
      no-request c r,
      cycles c r,
      word-bit sign later (is_pair t),
      no-rtsr c r,
      plus_one_lem k.address.lc,
    )

checked-is : (sign : Sign) (later : Bool) (t : Step) (xs : List ℕ) (k : Core) (s : Sample) (w : ℕ) → Fits t
    → checked_of xs k (fields_at w (step_code sign later (is_pair t)) (source_of t) (target_of t)) s none
    ≡ ended_at k (step_made sign xs (step_carry sign later k.flags) t) w (is_pair t)
unfolding checked_of
checked-is sign later t xs k s w h =
    rw (refusal-none sign later t h, goes_on (step_code sign later (is_pair t)) (working sign later (is_pair t)) s) (executed-is sign later t xs k s w h)

-- ---- fetched

fits-b : (t : Step) → Fits t → source_of t ≤ 0xF
fits-b (byte a b) h = omega arith
fits-b (pair a b) h = omega arith

fits-a : (t : Step) → Fits t → target_of t ≤ 0xF
fits-a (byte a b) h = omega arith
fits-a (pair a b) h = omega arith

no-outputs : (ws : List ℕ) (k : Core) (s : Sample) → outputs_of ws [] k s ≡ none
unfolding outputs_of
no-outputs ws k s = rw scan-none (same (ltb k.address.lc (length ws / 4)))
  where
    same : (b : Bool) → pick b none none ≡ none
    same true = refl
    same false = refl

unmodified : (w : ℕ) (l : Latches) → l.marked ≡ false → modified_of w l ≡ w
unfolding modified_of
unmodified w l e = rw e

-- RESET low and COMPUTE high
picked : (r c : Bool) (a b d : Leaves Outcome) → r ≡ false → c ≡ true → pick r a (pick c b d) ≡ b
picked r c a b d e h = rw (e, h)

pub attempt-is : (sign : Sign) (later : Bool) (t : Step) (ws xs : List ℕ) (k : Core) (s : Sample) → Fits t
    → k.address.lc < length ws / 4 → word_at ws k.address.lc < 0x40_0000
    → word_at ws k.address.lc % 0x1_0000 ≡ instruction_of sign later t
    → k.latches.marked ≡ false → s.compute ≡ true → s.reset ≡ false
    → attempt_of ws [] xs k s
    ≡ ended_at k (step_made sign xs (step_carry sign later k.flags) t) (word_at ws k.address.lc) (is_pair t)
unfolding attempt_of attempted_of fetched_of
attempt-is sign later t ws xs k s h l u e m c r =
    let w = word_at ws k.address.lc in
    rw (
      no-outputs ws k s,
      picked s.reset s.compute _ _ _ r c,
      lt-ltb k.address.lc (length ws / 4) l,
      unmodified w k.latches m,
      apart-is w (step_code sign later (is_pair t)) (source_of t) (target_of t) (class sign later (is_pair t)) u (fits-b t h) (fits-a t h) e,
    )
    (checked-is sign later t xs k s w h)
