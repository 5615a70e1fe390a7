-- All stays in range: state and registers, the memory's bytes, the lines that an attempt sees, and its request. Assumes nothing.
use Prim.Native.Nat.{ℕ, zero, suc, ◌+◌, ◌*◌, ◌/◌, ◌%◌, ◌<◌, ◌≤◌}
use mathlib.Core.Path.{◌≡◌}
use mathlib.Core.Bool.{true, ◌&&◌}
use mathlib.Core.List.{List}
use native.Mathlib.Omega.{arith}
use lib.Dec.{eqb}
use lib.ListN.{length, set}
use Rattle.choose.proofs.Choice.{pick_all}
use Rattle.attempt_laws.proofs.Range.{attempt-in-range, attempt-request}
use Rattle.bus_memory.specs.Memory.{kept_address, kind_in, value_in, even_of, output_byte, takes_in, reply_of, data_of, seen_of, stored_in}
use Rattle.bus_memory.specs.declared.Kept.{Kept}
use Rattle.engine.specs.Run.{stepped_of}
use Rattle.memory.specs.Run.{Together, code_at, seen_by, taken_in}
use Rattle.numbers.specs.Numbers.{Bytes}
use Rattle.numbers.proofs.Laws.{set-bytes, pair-below}
use Rattle.rows.specs.Range.{rows_in_range}
use Rattle.rows.specs.declared.Row.{Row}
use Rattle.state.specs.Range.{InRange, SampleInRange}
use Rattle.state.specs.declared.Sample.{Sample}
use Rattle.memory_laws.specs.Attempts.{together_after, seen_at, request_at}

pub stored_bytes : (bytes : List ℕ) (k : Kept) (request : ℕ) → Bytes bytes → Bytes (stored_in bytes k request)
unfolding stored_in
stored_bytes bytes k request b =
    let low : value_in request % 0x100 < 256 = omega arith in
    let high : value_in request / 0x100 < 256 = omega arith in
    pick_all Bytes (eqb (kind_in request) 6) _ _
    (set-bytes (set bytes (even_of (kept_address k)) (value_in request % 0x100)) (even_of (kept_address k) + 1) (value_in request / 0x100)
    (set-bytes bytes (even_of (kept_address k)) (value_in request % 0x100) b low) high)
    (pick_all Bytes (eqb (kind_in request) 7) _ _
    (set-bytes bytes (kept_address k) (output_byte (kept_address k) (value_in request)) b
    (pick_all (λ (n : ℕ). n < 256) (eqb (kept_address k % 2) 0) _ _ low high)) b)

pub seen-range : (ws : List ℕ) (t : Together) (s : Sample) → Bytes t.bytes → SampleInRange s → SampleInRange (seen_by ws t s)
unfolding seen_by seen_of data_of
seen-range ws t s b d = record {
  dal =
      pick_all (λ (n : ℕ). n < 65536) (reply_of t.kept (length t.bytes) t.world.core.bus.sync && takes_in (code_at ws t.world.core)) _ _
      (pair-below t.bytes b (even_of (kept_address t.kept))) d.dal;
  interrupts = d.interrupts;
}

pub record AllInRange (t : Together) : Type 0 where
  pub state : InRange t.world.file t.world.core
  pub bytes : Bytes t.bytes

module _ (ws : List ℕ) (rs : List Row) (delay : ℕ) (at : ℕ → Sample) (first : Together) (good : rows_in_range rs ≡ true) (fair : AllInRange first) where
  module _ (n : ℕ) (samples : (j : ℕ) → j < n → SampleInRange (at j)) where
    pub fair-after : (i : ℕ) → i ≤ n → AllInRange (together_after ws rs delay at first i)
    unfolding together_after taken_in stepped_of
    fair-after zero l = fair
    fair-after (suc i) l =
        let before = fair-after i (omega arith) in
        let t = together_after ws rs delay at first i in
        record {
          state = attempt-in-range ws rs _ _ _ good before.state (seen-range ws t (at i) before.bytes (samples i (omega arith)));
          bytes = stored_bytes t.bytes t.kept (request_at ws rs delay at first i) before.bytes;
        }

    pub seen-fair : (i : ℕ) → i < n → SampleInRange (seen_at ws rs delay at first i)
    seen-fair i l = seen-range ws _ (at i) (fair-after i (omega arith)).bytes (samples i l)

    pub request-fair : (i : ℕ) → i < n → request_at ws rs delay at first i < 13 * 65536
    request-fair i l = attempt-request ws rs _ _ _ (fair-after i (omega arith)).state (seen-fair i l)
