-- What a trace with a memory rests on: the deck of the first k samples, run from the start, hands back what the run has after them. Assumes nothing.
use Prim.Native.Nat.{ℕ, ◌*◌, ◌/◌, ◌≤◌}
use mathlib.Core.Path.{◌≡◌, sym}
use mathlib.Core.List.{List}
use lib.ListN.{length, take}
use Rattle.cuts.specs.Decks.{IsDeck, first_deck}
use Rattle.cuts.proofs.Hosts.{first-is-deck, first_count}
use Rattle.cuts.proofs.Samples.{sample-first}
use Rattle.deck.specs.Elements.{sample_at}
use Rattle.deck.specs.Sections.{words_part, rows_part, state_part, samples_part}
use Rattle.engine.specs.Host.{hosted, reported}
use Rattle.memory.proofs.Hosts.{answers}
use Rattle.memory.specs.Host.{remembered, refusal_with, deck_run_with, host_with}
use Rattle.memory.specs.Run.{run_with}
use Rattle.numbers.specs.Numbers.{Bytes}
use Rattle.run_laws.specs.Returned.{deck_rows, sample_count}
use Rattle.state.specs.Marking.{marking_of}
use Rattle.state.specs.declared.Sample.{Sample}
use Rattle.state_bytes.specs.Bytes.{stored_of}
use Rattle.memory_laws.specs.Attempts.{samples_below}
use Rattle.memory_laws.specs.Decks.{deck_start}
use Rattle.memory_laws.proofs.Sections.{samples-below, below-same}
use Rattle.memory_laws.proofs.Seen.{both-accepted}

module _ (deck memory : List ℕ) (delay : ℕ) (requests state : List ℕ) (marking : ℕ) (b : Bytes deck) (m : Bytes memory)
    (h : refusal_with deck (length memory) delay (length requests) (length state) marking ≡ 0) (k : ℕ) (l : k ≤ sample_count deck) where
  abbrev part : List ℕ
  part = first_deck deck k

  is : IsDeck part (words_part deck) (rows_part deck) (state_part deck) (take (k * 4) (samples_part deck)) (length requests) (length state) marking
  is = first-is-deck deck requests state marking b (both-accepted deck memory delay requests state marking b m h).0 k l

  abbrev at : ℕ → Sample
  at = sample_at (samples_part deck)

  -- its run is over the first k samples
  part-run : deck_run_with part memory delay requests (marking_of marking)
      ≡ run_with (words_part deck) (deck_rows deck) delay (samples_below at k) (deck_start deck memory requests marking)
  unfolding deck_run_with
  part-run =
      let size : length (take (k * 4) (samples_part deck)) / 4 ≡ k =
      rw is.samples-same at (first_count deck requests state marking b (both-accepted deck memory delay requests state marking b m h).0 k l) in
      let same = below-same (sample_at (take (k * 4) (samples_part deck))) at k (λ j q. sym (sample-first (samples_part deck) k j q)) in
      rw (is.words_same, is.rows_same, is.state-same, is.samples-same, size, samples-below (take (k * 4) (samples_part deck)) k, same)

  -- and what is handed back is what it left
  pub first-part-hosted : let t = run_with (words_part deck) (deck_rows deck) delay (samples_below at k) (deck_start deck memory requests marking) in
      let w = t.world in
      host_with part memory delay requests state marking
      ≡ remembered (hosted (reported w.answer w.attempts w.microcycles) w.buffer (stored_of w.file w.core state)) t.bytes
  first-part-hosted =
      sym (answers part memory delay requests state marking is.not-refused (both-accepted deck memory delay requests state marking b m h).1 _
      (sym part-run))
