-- Whatever the marking, SYNC and IACK: registers, flags, addresses, M, latches, outputs, request, microcycles and refusal of an attempt are the same, and so is
-- all of a run but these. Assumes nothing.
use Prim.Native.Nat.{ℕ, ◌+◌, ◌/◌}
use mathlib.Core.Path.{◌≡◌, refl, sym, ap}
use mathlib.Core.Bool.{Bool, true, false, false≢true}
use mathlib.Core.List.{List, [], ◌∷◌}
use lib.Dec.{eqb, ltb}
use lib.ListN.{length}
use Rattle.std.specs.Prelude.{Ok, Err}
use Rattle.attempt.specs.Attempt.{executed_of, checked_of, reset_of, modified_of, taken_of, fetched_of, attempted_of, outputs_of, attempt_of}
use Rattle.attempt.specs.Effect.{jumped_of, literal_effect, register_effect, effect_of}
use Rattle.attempt.specs.declared.Effect.{Effect}
use Rattle.attempt.specs.Outcome.{Outcome, outcome_of}
use Rattle.checks.specs.Checks.{word_refusal_of, waiting_of}
use Rattle.choose.specs.Ranged.{pick, ranged}
use Rattle.code.specs.Word.{Apart, apart_of}
use Rattle.code.specs.declared.Unread.{Unread}
use Rattle.code.specs.declared.Fields.{Fields}
use Rattle.code.specs.declared.Operands.{Operands}
use Rattle.control.specs.Bus.{after_input, bus_after}
use Rattle.control.specs.Next.{inputs_of, address_after}
use Rattle.control.specs.declared.Way.{Way}
use Rattle.engine.specs.Run.{World, stepped_of, stopped_of, run_from}
use Rattle.execute.specs.Execute.{registers_of}
use Rattle.numbers.specs.Numbers.{word_at}
use Rattle.rows.specs.declared.Outputs.{Outputs}
use Rattle.rows.specs.declared.Row.{Row}
use Rattle.state.specs.File.{Leaves, leaves}
use Rattle.state.specs.declared.Bus.{Bus}
use Rattle.state.specs.declared.Core.{Core}
use Rattle.state.specs.declared.Marking.{Marking}
use Rattle.state.specs.declared.Sample.{Sample}
use Rattle.markings.specs.Markings.{set_of, SameSet, SameButLines, SameRun}

-- M goes neither by RMW nor by SYNC and IACK
input-m : (h i : Bus) → h.m ≡ i.m → (r t : Bool) → (after_input h r).m ≡ (after_input i t).m
unfolding after_input
input-m h i e true true = e
input-m h i e true false = e
input-m h i e false true = e
input-m h i e false false = e

bus-m : (h i : Bus) → h.m ≡ i.m → (code : ℕ) (r t : Bool) (pair : ℕ) → (bus_after h code r pair).m ≡ (bus_after i code t pair).m
unfolding bus_after ranged
bus-m h i e code r t pair =
    both (ltb code 0xE0) _ _ _ _ e
    (both (ltb code 0xE4) _ _ _ _ (input-m h i e r t)
    (both (ltb code 0xF0) _ _ _ _ e
    (both (ltb code 0xFA) _ _ _ _ refl
    (both (ltb code 0xFC) _ _ _ _ refl
    (both (ltb code 0xFE) _ _ _ _ refl
    (both (ltb code 0xFF) _ _ _ _ refl e))))))
  where
    both : (x : Bool) (a b c d : Bus) → a.m ≡ c.m → b.m ≡ d.m → (pick x a b).m ≡ (pick x c d).m
    both true a b c d p q = p
    both false a b c d p q = q

-- what an instruction does: all but SYNC and IACK
record SameEffect (e d : Leaves Effect) : Type 0 where
  file : e.file ≡ d.file
  flags : e.back.flags ≡ d.back.flags
  m : e.back.bus.m ≡ d.back.bus.m
  latches : e.back.latches ≡ d.back.latches
  way : e.back.way ≡ d.back.way
  request : e.back.request ≡ d.back.request

chosen : (t : Bool) (a b c d : Leaves Outcome) → SameButLines a c → SameButLines b d → SameButLines (pick t a b) (pick t c d)
chosen true a b c d p q = p
chosen false a b c d p q = q

module _ (k : Core) (m n : Marking) (x y x' y' : Bool) (xs : List ℕ) (s : Sample) where
  abbrev one : Core
  one = set_of k m x y

  abbrev other : Core
  other = set_of k n x' y'

  effect-same : (code : ℕ) (o : Operands) → SameEffect (effect_of xs one code o s) (effect_of xs other code o s)
  unfolding effect_of jumped_of literal_effect register_effect registers_of
  effect-same code (Operands.Jump a) = record { file = refl; flags = refl; m = refl; latches = refl; way = refl; request = refl }
  effect-same code (Operands.Literal v a) = record { file = refl; flags = refl; m = refl; latches = refl; way = refl; request = refl }
  effect-same code (Operands.Two b a) =
      record { file = refl; flags = refl; m = bus-m one.bus other.bus refl code _ _ _; latches = refl; way = refl; request = refl }

  executed-same : (w : Fields) (o : Outputs) → SameButLines (executed_of xs one w s o) (executed_of xs other w s o)
  unfolding executed_of
  executed-same w o =
      let e = effect-same w.code w.operands in
      record {
        file = e.file;
        set = record {
          flags = e.flags;
          address = ap (λ (to : Way). address_after k.address to w.code w.load_rr o) e.way;
          m = e.m;
          latches = e.latches;
          outputs = refl;
        };
        request = e.request;
        cycles = refl;
        refusal = refl;
      }

  -- an attempt that executes nothing leaves the set, or resets it
  idle : (j i : Core) → SameSet j i → (r c e : ℕ) → SameButLines (leaves xs (outcome_of j r c e)) (leaves xs (outcome_of i r c e))
  idle j i q r c e = record { file = refl; set = q; request = refl; cycles = refl; refusal = refl }

  as_it_was : (r c e : ℕ) → SameButLines (leaves xs (outcome_of one r c e)) (leaves xs (outcome_of other r c e))
  as_it_was = idle one other (record { flags = refl; address = refl; m = refl; latches = refl; outputs = refl })

  reset-same : SameSet (reset_of one) (reset_of other)
  unfolding reset_of
  reset-same = record { flags = refl; address = refl; m = refl; latches = refl; outputs = refl }

  taken-same : (a : Apart) (o : Outputs) → SameButLines (taken_of a o xs one s) (taken_of a o xs other s)
  unfolding checked_of
  taken-same (Ok w) o =
      chosen (eqb (word_refusal_of w.code w.operands) 0) _ _ _ _
      (chosen (waiting_of w.code s) _ _ _ _ (as_it_was _ _ _) (executed-same w o))
      (as_it_was _ _ _)
  taken-same (Err Unread.OutOfRange) o = as_it_was _ _ _
  taken-same (Err Unread.Unlisted) o = as_it_was _ _ _

  attempt-same : (ws : List ℕ) (rs : List Row) → SameButLines (attempt_of ws rs xs one s) (attempt_of ws rs xs other s)
  unfolding attempt_of attempted_of fetched_of outputs_of inputs_of
  attempt-same ws rs =
      chosen s.reset _ _ _ _ (idle (reset_of one) (reset_of other) reset-same _ _ _)
      (chosen s.compute _ _ _ _
      (chosen (ltb k.address.lc (length ws / 4)) _ _ _ _ (taken-same (apart_of (modified_of (word_at ws k.address.lc) k.latches)) _) (as_it_was _ _ _))
      (as_it_was _ _ _))

-- a set that is the same but for its lines and its marking is this one
as-set : (k j : Core) → SameSet k j → j ≡ set_of k j.marking j.bus.sync j.bus.iack
as-set k j q = rw (q.flags, q.address, q.m, q.latches, q.outputs)

-- one attempt
pub same-but-lines : (ws : List ℕ) (rs : List Row) (xs : List ℕ) (k j : Core) (s : Sample) → SameSet k j
    → SameButLines (attempt_of ws rs xs k s) (attempt_of ws rs xs j s)
same-but-lines ws rs xs k j s q =
    rw (as-set k j q) (attempt-same k k.marking j.marking k.bus.sync k.bus.iack j.bus.sync j.bus.iack xs s ws rs)

-- and a run
pub run-same : (ws : List ℕ) (rs : List Row) (ss : List Sample) (w v : World) → SameRun w v → SameRun (run_from ws rs ss w) (run_from ws rs ss v)
unfolding run_from stepped_of stopped_of
run-same ws rs [] w v q = q
run-same ws rs (s ∷ ss) w v q =
    let e = attempt_of ws rs w.file w.core s in
    let d = attempt_of ws rs v.file v.core s in
    let a : SameButLines e d = rw (← q.file) (same-but-lines ws rs w.file w.core v.core s q.set) in
    go (eqb e.back.refusal 0) (eqb d.back.refusal 0) (ap (λ (n : ℕ). eqb n 0) a.refusal)
    (run-same ws rs ss (stepped_of w e) (stepped_of v d)
    (record {
      file = a.file;
      set = a.set;
      answer = refl;
      attempts = ap (λ (n : ℕ). n + 1) q.attempts;
      microcycles = rw (q.microcycles, a.cycles);
      buffer = rw (q.buffer, q.attempts, a.request);
    }))
    (record { file = q.file; set = q.set; answer = a.refusal; attempts = q.attempts; microcycles = q.microcycles; buffer = q.buffer })
  where
    go : (t u : Bool) → t ≡ u → {a b c d : World} → SameRun a c → SameRun b d → SameRun (pick t a b) (pick u c d)
    go true true e p r = p
    go false false e p r = r
    go true false e p r = absurd (false≢true (sym e))
    go false true e p r = absurd (false≢true e)
