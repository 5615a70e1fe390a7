-- What the host is handed back, attempt by attempt: after all samples, and where an attempt was refused.
-- Assumes nothing.
use mathlib.Core.Path.{◌≡◌, refl, ap, ◌∙◌}
use mathlib.Core.Bool.{true}
use mathlib.Core.List.{List}
use Prim.Native.Nat.{ℕ, zero, suc, ◌+◌, ◌*◌, ◌<◌, ◌≤◌}
use native.Mathlib.Omega.{arith}
use lib.ListN.{length, get_or}
use Rattle.attempt_laws.proofs.Range.{attempt-in-range, attempt-request}
use Rattle.deck.specs.Elements.{sample_at}
use Rattle.deck.specs.Ranges.{deck_refusal_of}
use Rattle.deck.specs.Sections.{layout_of, words_part, rows_part, state_part, samples_part}
use Rattle.deck.proofs.Laws.{accepted, section-bytes, rows-in-range}
use Rattle.engine.specs.Host.{deck_run, host_of}
use Rattle.engine.specs.Run.{World, world, samples_from}
use Rattle.engine.proofs.Hosts.{answers, places}
use Rattle.engine.proofs.Runs.{samples-length}
use Rattle.numbers.specs.Numbers.{Bytes}
use Rattle.rows.specs.Range.{rows_in_range}
use Rattle.rows.specs.declared.Row.{Row}
use Rattle.state.specs.Range.{InRange, SampleInRange}
use Rattle.state.specs.File.{Leaves}
use Rattle.state.specs.declared.Core.{Core}
use Rattle.state.specs.declared.Sample.{Sample}
use Rattle.state.specs.Marking.{marking_of}
use Rattle.state_bytes.specs.Bytes.{state_bytes, file_of, core_of, bytes_of}
use Rattle.state_bytes.proofs.Laws.{state-in-range, stored_bytes}
use Rattle.run_laws.specs.Attempts.{sum_below, state_after, state_of, Ran}
use Rattle.run_laws.specs.Returned.{deck_rows, sample_count, deck_state, state_in, attempt_in, Returned, Refused}
use Rattle.run_laws.proofs.Again.{sample-in-its-range}
use Rattle.run_laws.proofs.Attempts.{run_ran, ran-same}
use Rattle.run_laws.proofs.Places.{run-places}

-- sample j of a list of samples of a section
sample-of : (s : List ℕ) (d : Sample) (n i j : ℕ) → j < n → get_or (samples_from s i n) j d ≡ sample_at s (i + j)
unfolding samples_from
sample-of s d zero i j l = absurd (omega arith)
sample-of s d (suc n) i zero l = ap (sample_at s) (omega arith)
sample-of s d (suc n) i (suc j) l = sample-of s d n (suc i) j (omega arith) ∙ ap (sample_at s) (omega arith)

-- the state after some attempts is in range
after-in-range : (ws : List ℕ) (rs : List Row) → rows_in_range rs ≡ true → (at : ℕ → Sample) (x : Leaves Core) → InRange x.file x.back
    → (i : ℕ) → ((j : ℕ) → j < i → SampleInRange (at j)) → InRange (state_after ws rs at x i).file (state_after ws rs at x i).back
unfolding state_after
after-in-range ws rs r at x h zero d = h
after-in-range ws rs r at x h (suc i) d = attempt-in-range ws rs _ _ (at i) r (after-in-range ws rs r at x h i (λ j l. d j (omega arith))) (d i (omega arith))

module _ (deck requests state : List ℕ) (marking : ℕ) (b : Bytes deck) (h : deck_refusal_of deck (length requests) (length state) marking ≡ 0) where
  abbrev first : World
  first = world (file_of (state_part deck)) (core_of (state_part deck) (marking_of marking)) 0 0 0 requests

  ran : Ran (words_part deck) (deck_rows deck) (sample_at (samples_part deck)) (sample_count deck) first (deck_run deck requests (marking_of marking))
  unfolding deck_run
  ran =
      let s = samples_part deck in
      let n = sample_count deck in
      let d = sample_at s 0 in
      let all = run_ran (words_part deck) (deck_rows deck) (samples_from s 0 n) d first refl in
      ran-same _ _ _ (sample_at s) n _ _ (rw (samples-length s n 0) at all) (λ j l. sample-of s d n 0 j l ∙ ap (sample_at s) (omega arith))

  samples-each : (j : ℕ) → j < sample_count deck → SampleInRange (sample_at (samples_part deck) j)
  samples-each j l =
      let a = accepted deck (length requests) (length state) marking h in
      sample-in-its-range (samples_part deck) (section-bytes deck (layout_of deck).samples 4 b) a.samples j (omega arith)

  pub state-each : (i : ℕ) → i ≤ sample_count deck → InRange (state_in deck marking i).file (state_in deck marking i).back
  state-each i l =
      let a = accepted deck (length requests) (length state) marking h in
      after-in-range _ _ (rows-in-range (rows_part deck) a.rows).1 _ (deck_state deck marking)
      (state-in-range (state_part deck) (marking_of marking) (section-bytes deck (layout_of deck).state state_bytes b) a.state) i
      (λ j m. samples-each j (omega arith))

  returned : (i : ℕ) → ran.made ≡ i → i ≤ sample_count deck → Returned deck requests marking (host_of deck requests state marking) i
  unfolding deck_run
  returned i e l =
      rw (← answers deck requests state marking h (deck_run deck requests (marking_of marking)) refl)
      (record {
        passed = λ j m. ran.passed j (omega arith);
        state =
            let kept : state_of (deck_run deck requests (marking_of marking)) ≡ state_in deck marking i = rw e at ran.state in
            stored_bytes _ _ state (accepted deck (length requests) (length state) marking h).buffer-length
            ∙ ap (λ (x : Leaves Core). bytes_of x.file x.back) kept;
        attempts = omega (arith, ran.attempts);
        microcycles = rw e at ran.microcycles ∙ omega arith;
        written = λ j m.
            let there = (places deck (length requests) (length state) marking h).1 in
            let small : (attempt_in deck marking j).back.request < 13 * 65536
            = attempt-request _ _ _ _ _ (state-each j (omega arith)) (samples-each j (omega arith)) in
            let at : 0 + j ≡ j = omega arith in
            rw at at (ran.places j (omega arith) (omega arith) (omega arith));
        size = (run-places _ _ _ first).size;
        untouched = λ k d m. (run-places _ _ _ first).past k d (omega (arith, ran.attempts));
      })

  -- 0, "all samples used": every attempt passed
  pub host-used : (host_of deck requests state marking).report.answer ≡ 0
      → Returned deck requests marking (host_of deck requests state marking) (sample_count deck)
  host-used z =
      let none = rw (← answers deck requests state marking h (deck_run deck requests (marking_of marking)) refl) at z in
      returned (sample_count deck) (ran.used none) (omega arith)

  -- "Numbers 5-8 return the state before the refused attempt and the counts up to it; the places of earlier attempts are written, the others are untouched"
  pub host-refused : ((host_of deck requests state marking).report.answer ≡ 0 → ⊥)
      → Refused deck requests marking (host_of deck requests state marking) (host_of deck requests state marking).report.attempts
  host-refused =
      rw (← answers deck requests state marking h (deck_run deck requests (marking_of marking)) refl)
      (λ z.
      let r = ran.refused z in
      let e : ran.made ≡ (deck_run deck requests (marking_of marking)).attempts = omega (arith, ran.attempts) in
      record {
        sample = omega (arith, r.0);
        number = rw e at r.1;
        returned = rw (answers deck requests state marking h (deck_run deck requests (marking_of marking)) refl) (returned _ e (omega (arith, r.0)));
      })

  -- however the run ends, its microcycles are those of the attempts made, added up
  pub host-cycles : (host_of deck requests state marking).report.microcycles
      ≡ sum_below (host_of deck requests state marking).report.attempts (λ j. (attempt_in deck marking j).back.cycles)
  host-cycles =
      rw (← answers deck requests state marking h (deck_run deck requests (marking_of marking)) refl)
      (let e : ran.made ≡ (deck_run deck requests (marking_of marking)).attempts = omega (arith, ran.attempts) in
      rw e at ran.microcycles ∙ omega arith)
