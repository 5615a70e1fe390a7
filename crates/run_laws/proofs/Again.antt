-- What the host is handed back can be handed in again.
-- Assumes nothing.
use mathlib.Core.Path.{◌≡◌}
use mathlib.Core.Bool.{true}
use mathlib.Core.List.{List}
use Prim.Native.Nat.{ℕ, zero, suc, ◌+◌, ◌*◌, ◌/◌, ◌≤◌}
use native.Mathlib.Omega.{arith}
use borrow.Author.Tests.{eq-eqb}
use lib.ListN.{length}
use Rattle.deck.specs.Elements.{sample_at}
use Rattle.deck.specs.Ranges.{samples_in_range, deck_refusal_of}
use Rattle.deck.specs.Sections.{layout_of, rows_part, state_part, samples_part}
use Rattle.deck.proofs.Laws.{accepted, state-accepted, section-bytes, sample-in-range, rows-in-range}
use Rattle.engine.specs.Host.{deck_run, host_of}
use Rattle.engine.specs.Run.{samples_from}
use Rattle.numbers.specs.Numbers.{Bytes}
use Rattle.numbers.proofs.Laws.{pair-below}
use Rattle.state.specs.Range.{InRange, SampleInRange}
use Rattle.state.specs.Marking.{marking_of}
use Rattle.state_bytes.specs.Bytes.{state_bytes, file_of, core_of, bytes_of}
use Rattle.state_bytes.specs.Range.{state_in_range}
use Rattle.state_bytes.proofs.Laws.{state-in-range, bytes-in-range, stored_bytes, state-bytes, file-back, core-back}
use Rattle.run_laws.specs.Laws.{SamplesInRange}
use Rattle.run_laws.proofs.Marking.{deck-marking}
use Rattle.run_laws.proofs.Range.{run-in-range}

-- ---- what is handed in
module _ (s : List ℕ) (b : Bytes s) (h : samples_in_range s ≡ true) where
  pub sample-in-its-range : (i : ℕ) → i + 1 ≤ length s / 4 → SampleInRange (sample_at s i)
  unfolding sample_at
  sample-in-its-range i l =
      record {
        dal = pair-below s b (i * 4);
        interrupts = omega (arith, (sample-in-range s h i (omega arith)).1);
      }

  pub samples-in-range : (n i : ℕ) → i + n ≤ length s / 4 → SamplesInRange (samples_from s i n)
  unfolding samples_from
  samples-in-range zero i l = tt
  samples-in-range (suc n) i l = (sample-in-its-range i (omega arith), samples-in-range n (suc i) (omega arith))

-- ---- what comes back
module _ (deck : List ℕ) (b : Bytes deck) where
  pub deck-run-in-range : (requests : List ℕ) (buffer marking : ℕ) → deck_refusal_of deck (length requests) buffer marking ≡ 0
      → InRange (deck_run deck requests (marking_of marking)).file (deck_run deck requests (marking_of marking)).core
  unfolding deck_run
  deck-run-in-range requests buffer marking h =
      let a = accepted deck (length requests) buffer marking h in
      let l = layout_of deck in
      run-in-range _ _ (rows-in-range (rows_part deck) a.rows).1
      _ (samples-in-range (samples_part deck) (section-bytes deck l.samples 4 b) a.samples (length (samples_part deck) / 4) 0 (omega arith))
      _ (state-in-range (state_part deck) (marking_of marking) (section-bytes deck l.state state_bytes b) a.state)

  module _ (requests state : List ℕ) (marking : ℕ) (h : deck_refusal_of deck (length requests) (length state) marking ≡ 0) where
    returned-bytes : let w = deck_run deck requests (marking_of marking) in (host_of deck requests state marking).state ≡ bytes_of w.file w.core
    unfolding host_of
    returned-bytes = rw (eq-eqb _ 0 h) (stored_bytes _ _ state (accepted deck (length requests) (length state) marking h).buffer-length)

    -- a returned state can always be handed in again: it passes the test that 1, "state out of range", is given by
    pub returned-in-range : state_in_range (host_of deck requests state marking).state ≡ true
    returned-in-range =
        let r = deck-run-in-range requests (length state) marking h in
        rw returned-bytes (bytes-in-range _ _ r)

    -- the next deck, with the returned state as its state, is not refused with 1
    pub returned-accepted : (next : List ℕ) (places buffer chip : ℕ) → state_part next ≡ (host_of deck requests state marking).state
        → deck_refusal_of next places buffer chip ≡ 1 → ⊥
    returned-accepted next places buffer chip e = state-accepted next places buffer chip (rw e returned-in-range)

    -- it is bytes
    pub returned-all-bytes : Bytes (host_of deck requests state marking).state
    returned-all-bytes =
        let r = deck-run-in-range requests (length state) marking h in
        rw returned-bytes (state-bytes _ _ r)

    -- handed in again, with the same marking, it is the state that the run left
    pub returned-again : (file_of (host_of deck requests state marking).state ≡ (deck_run deck requests (marking_of marking)).file)
        × (core_of (host_of deck requests state marking).state (marking_of marking) ≡ (deck_run deck requests (marking_of marking)).core)
    returned-again =
        let r = deck-run-in-range requests (length state) marking h in
        let w = deck_run deck requests (marking_of marking) in
        let same = deck-marking deck requests (marking_of marking) in
        rw returned-bytes (file-back _ w.core r.size, rw same at (core-back w.file w.core r.size))
