-- In range stays in range: a returned state can be handed in again. And what an attempt's request is at most.
-- Assumes nothing.
use Prim.Native.Nat.{ℕ, ◌*◌, ◌/◌, ◌<◌, zero-le}
use mathlib.Core.Path.{◌≡◌}
use mathlib.Core.Bool.{true}
use mathlib.Core.List.{List}
use native.Mathlib.Omega.{arith}
use lib.Dec.{ltb}
use lib.ListN.{length}
use Rattle.alu.specs.declared.Flags.{Flags}
use Rattle.code.specs.declared.Class.{Class}
use Rattle.code.specs.declared.Fields.{Fields}
use Rattle.code.specs.declared.Operands.{Operands}
use Rattle.rows.specs.Range.{rows_in_range, OutputsInRange}
use Rattle.rows.specs.declared.Outputs.{Outputs}
use Rattle.rows.specs.declared.Row.{Row}
use Rattle.numbers.specs.Numbers.{pair_of}
use Rattle.numbers.proofs.Laws.{byte-below, bytes-each}
use Rattle.rows.proofs.Laws.{scan-in-range}
use Rattle.state.specs.File.{Leaves, register_of}
use Rattle.state.specs.Range.{InRange, SampleInRange}
use Rattle.state.specs.declared.Address.{Address}
use Rattle.state.specs.declared.Bus.{Bus}
use Rattle.state.specs.declared.Core.{Core}
use Rattle.state.specs.declared.Latches.{Latches}
use Rattle.state.specs.declared.Marking.{Marking}
use Rattle.state.specs.declared.Sample.{Sample}
use Rattle.attempt.specs.Attempt.{executed_of, reset_of, outputs_of, attempt_of}
use Rattle.attempt.specs.Effect.{jumped_of, literal_effect, register_effect, effect_of}
use Rattle.choose.proofs.Choice.{pick_all}
use Rattle.attempt_laws.proofs.Files.{FileInRange, register-byte}
use Rattle.attempt_laws.proofs.Registers.{literal-in-range, registers-in-range}
use Rattle.attempt_laws.proofs.Control.{BusInRange, RequestInRange, LatchesInRange, WayInRange, AddressInRange, bus-in-range, request-in-range}
use Rattle.attempt_laws.proofs.Control.{used-in-range, latches-in-range, way-in-range, address-in-range}
use Rattle.attempt_laws.proofs.Cases.{attempt-all}
use Rattle.code.specs.Word.{Fit, jump, conditional, literal, register, WellFormed}
use Rattle.attempt.specs.declared.Effect.{Effect}
use Rattle.attempt.specs.Outcome.{Outcome}

-- ---- the state by its parts

whole : (xs : List ℕ) (f : Flags) (a : Address) (b : Bus) (l : Latches) (u : ℕ) (m : Marking) → FileInRange xs → AddressInRange a → BusInRange b
    → LatchesInRange l → u < 16 → InRange xs (record { flags = f; address = a; bus = b; latches = l; outputs = u; marking = m })
whole xs f a b l u m x y z w o =
    record {
      size = x.size;
      bytes = bytes-each xs x.bytes;
      g = w.g;
      lc = y.lc;
      rr = y.rr;
      tr = w.tr;
      m = z;
      tsr = y.tsr;
      interrupts = w.interrupts;
      modification = w.modification;
      unmarked = w.unmarked;
      outputs = o;
    }

module _ (xs : List ℕ) (k : Core) (h : InRange xs k) where
  file-part : FileInRange xs
  file-part = record { size = h.size; bytes = byte-below xs h.bytes }

  address-part : AddressInRange k.address
  address-part = record { lc = h.lc; rr = h.rr; tsr = h.tsr }

  latches-part : LatchesInRange k.latches
  latches-part =
      record { g = h.g; tr = h.tr; interrupts = h.interrupts; modification = h.modification; unmarked = h.unmarked }

  -- "RESET high: LC becomes 1, .. the waiting modification is dropped"
  reset-in-range : InRange xs (reset_of k)
  unfolding reset_of
  reset-in-range =
      let latches = used-in-range k.latches latches-part in
      whole xs _ _ _ _ _ _ file-part (record { lc = omega arith; rr = h.rr; tsr = h.tsr }) h.m latches h.outputs

-- ---- an instruction's effect

record EffectInRange (e : Leaves Effect) : Type 0 where
  file : FileInRange e.file
  bus : BusInRange e.back.bus
  latches : LatchesInRange e.back.latches
  way : WayInRange e.back.way
  request : RequestInRange e.back.request

module _ (xs : List ℕ) (k : Core) (s : Sample) (code : ℕ) (h : InRange xs k) (d : SampleInRange s) where
  jumped-in-range : (n : ℕ) → n < 2048 → EffectInRange (effect_of xs k code (Operands.Jump n) s)
  unfolding effect_of jumped_of
  jumped-in-range n l =
      record {
        file = file-part xs k h;
        bus = h.m;
        latches = used-in-range k.latches (latches-part xs k h);
        way = way-in-range k.address.lc code n k.flags k.latches.ics h.lc l;
        request = omega arith;
      }

  literal-effect-in-range : (v a : ℕ) → v < 256 → EffectInRange (effect_of xs k code (Operands.Literal v a) s)
  unfolding effect_of literal_effect
  literal-effect-in-range v a l =
      record {
        file = literal-in-range xs k.latches.g k.flags (file-part xs k h) code v a (omega arith);
        bus = h.m;
        latches = used-in-range k.latches (latches-part xs k h);
        way = tt;
        request = omega arith;
      }

  pair-in-range : (b a : ℕ) → pair_of (register_of xs k.latches.g a) (register_of xs k.latches.g b) < 65536
  pair-in-range b a =
      let file = file-part xs k h in
      omega (arith, register-byte xs k.latches.g b file, register-byte xs k.latches.g a file)

  register-effect-in-range : (b a : ℕ) → EffectInRange (effect_of xs k code (Operands.Two b a) s)
  unfolding effect_of register_effect
  register-effect-in-range b a =
      let p = pair-in-range b a in
      record {
        file = registers-in-range xs k s.dal code b a (file-part xs k h) d.dal;
        bus = bus-in-range k.bus code _ _ h.m p;
        latches = latches-in-range k.latches (latches-part xs k h) code b _ _ s p d.dal;
        way = tt;
        request = request-in-range code _ s.dal p d.dal;
      }

  effect-in-range : {c : Class} {o : Operands} → Fit c o → EffectInRange (effect_of xs k code o s)
  effect-in-range (jump {n} l) = jumped-in-range n l
  effect-in-range (conditional {n} l) = jumped-in-range n (omega arith)
  effect-in-range (literal {v} {r} l q) = literal-effect-in-range v r l
  effect-in-range (register {b} {a} l q) = register-effect-in-range b a

-- ---- an executed word

module _ (xs : List ℕ) (k : Core) (s : Sample) (o : Outputs) (w : Fields) (h : InRange xs k) (d : SampleInRange s) (f : WellFormed w) where
  pub executed-request : RequestInRange (executed_of xs k w s o).back.request
  unfolding executed_of
  executed-request = (effect-in-range xs k s w.code h d f.fitting).request

  executed-in-range : OutputsInRange o → InRange (executed_of xs k w s o).file (executed_of xs k w s o).back.core
  unfolding executed_of
  executed-in-range p =
      let e = effect-in-range xs k s w.code h d f.fitting in
      let a = address-in-range k.address o (address-part xs k h) p _ w.code w.load_rr e.way in
      whole _ _ _ _ _ _ _ e.file a e.bus e.latches f.in-range

-- ---- an attempt

module _ (ws : List ℕ) (rs : List Row) (xs : List ℕ) (k : Core) (s : Sample) where
  outputs-in-range : rows_in_range rs ≡ true → OutputsInRange (outputs_of ws rs k s)
  unfolding outputs_of
  outputs-in-range r =
      pick_all OutputsInRange (ltb k.address.lc (length ws / 4)) _ _ (scan-in-range rs _ r)
      (record { address = zero-le; lines = zero-le; tsr = zero-le })

  -- the words are any: an attempt refuses one of 2^22 or more
  pub attempt-in-range : rows_in_range rs ≡ true → InRange xs k → SampleInRange s
      → InRange (attempt_of ws rs xs k s).file (attempt_of ws rs xs k s).back.core
  attempt-in-range r h d =
      attempt-all (λ (e : Leaves Outcome). InRange e.file e.back.core) ws rs xs k s
      (record {
        refuses = λ n. h;
        waits = h;
        resets = reset-in-range xs k h;
        stops = h;
        executes = λ w f. executed-in-range xs k s _ w h d f (outputs-in-range r);
      })

  -- a request's kind is at most 12, and its value has 16 bits
  pub attempt-request : InRange xs k → SampleInRange s → (attempt_of ws rs xs k s).back.request < 13 * 65536
  attempt-request h d =
      attempt-all (λ (e : Leaves Outcome). e.back.request < 13 * 65536) ws rs xs k s
      (record {
        refuses = λ n. omega arith;
        waits = omega arith;
        resets = omega arith;
        stops = omega arith;
        executes = λ w f. omega (arith, executed-request xs k s (outputs_of ws rs k s) w h d f);
      })
