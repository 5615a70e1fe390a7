-- What the host is told of an accepted deck: the answer, the counts and the places.
-- Assumes nothing.
use mathlib.Core.Path.{◌≡◌, refl}
use mathlib.Core.List.{List}
use Prim.Native.Nat.{ℕ, ◌*◌, ◌/◌, ◌<◌, ◌≤◌}
use native.Mathlib.Omega.{arith}
use lib.ListN.{length, get_or}
use Rattle.deck.specs.Ranges.{deck_refusal_of}
use Rattle.deck.specs.Sections.{layout_of, words_part, rows_part, state_part, samples_part}
use Rattle.deck.proofs.Laws.{accepted, section-bytes, rows-in-range, word_below}
use Rattle.engine.specs.Host.{deck_run, host_of}
use Rattle.engine.proofs.Hosts.{answers}
use Rattle.engine.proofs.Runs.{samples-length}
use Rattle.numbers.specs.Numbers.{Bytes}
use Rattle.state.specs.Marking.{marking_of}
use Rattle.state_bytes.specs.Bytes.{state_bytes}
use Rattle.state_bytes.proofs.Laws.{state-in-range}
use Rattle.run_laws.specs.Laws.{WordsInRange, Number}
use Rattle.run_laws.proofs.Again.{samples-in-range}
use Rattle.run_laws.proofs.Answer.{run-counts, run-number}
use Rattle.run_laws.proofs.Places.{run-places}

module _ (deck requests state : List ℕ) (marking : ℕ) (h : deck_refusal_of deck (length requests) (length state) marking ≡ 0) where
  words-in-range : WordsInRange (words_part deck)
  words-in-range = word_below (words_part deck) (accepted deck (length requests) (length state) marking h).words

  -- "at each attempt 5, 6, 7, 8", without 7: an accepted deck's answer is 0 or one of these
  pub host-number : Bytes deck → Number (host_of deck requests state marking).report.answer
  unfolding deck_run
  host-number b =
      let a = accepted deck (length requests) (length state) marking h in
      let l = layout_of deck in
      rw (← answers deck requests state marking h (deck_run deck requests (marking_of marking)) refl)
      (run-number _ _ words-in-range (rows-in-range (rows_part deck) a.rows).1
      _ (samples-in-range (samples_part deck) (section-bytes deck l.samples 4 b) a.samples (length (samples_part deck) / 4) 0 (omega arith))
      _ (state-in-range (state_part deck) (marking_of marking) (section-bytes deck l.state state_bytes b) a.state)
      refl)

  -- 0, "all samples used"
  pub host-full : (host_of deck requests state marking).report.answer ≡ 0 → (host_of deck requests state marking).report.attempts
      ≡ length (samples_part deck) / 4
  unfolding deck_run
  host-full =
      rw (← answers deck requests state marking h (deck_run deck requests (marking_of marking)) refl)
      (λ z. omega (arith, (run-counts _ _ _ _ refl).full z, samples-length (samples_part deck) (length (samples_part deck) / 4) 0))

  -- "the counts up to" the refused attempt: fewer attempts than samples
  pub host-short : ((host_of deck requests state marking).report.answer ≡ 0 → ⊥)
      → (host_of deck requests state marking).report.attempts < length (samples_part deck) / 4
  unfolding deck_run
  host-short =
      rw (← answers deck requests state marking h (deck_run deck requests (marking_of marking)) refl)
      (λ z. omega (arith, (run-counts _ _ _ _ refl).short z, samples-length (samples_part deck) (length (samples_part deck) / 4) 0))

  -- "the places of earlier attempts are written, the others are untouched"
  pub host-places : (length (host_of deck requests state marking).requests ≡ length requests)
      × ((i d : ℕ) → (host_of deck requests state marking).report.attempts * 4 ≤ i → get_or (host_of deck requests state marking).requests i d
      ≡ get_or requests i d)
  unfolding deck_run
  host-places =
      rw (← answers deck requests state marking h (deck_run deck requests (marking_of marking)) refl)
      (let p = run-places _ _ _ _ in (p.size, p.past))
