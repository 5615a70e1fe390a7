-- A run with a memory is the run of the deck whose samples have the lines that the memory gave, unless 17 stopped it. Assumes nothing.
use Prim.Native.Nat.{ℕ, ◌*◌, ◌/◌, ◌<◌, ◌≤◌}
use mathlib.Core.Path.{◌≡◌, refl, sym, ap, ◌∙◌}
use mathlib.Core.Bool.{Bool, true, false}
use mathlib.Core.List.{List}
use native.Mathlib.Omega.{arith}
use borrow.Author.Tests.{eqb-true, eqb-false}
use lib.Dec.{eqb}
use lib.ListN.{length}
use Rattle.bus_memory.specs.Memory.{memory_refusal_of}
use Rattle.choose.specs.Ranged.{pick}
use Rattle.cuts.proofs.Decks.{is-deck}
use Rattle.cuts.specs.Decks.{IsDeck}
use Rattle.deck.proofs.Laws.{accepted, samples-few, rows-in-range, section-bytes as part_bytes}
use Rattle.deck.specs.Elements.{sample_at}
use Rattle.deck.specs.Ranges.{Accepted, deck_refusal_of}
use Rattle.deck.specs.Sections.{layout_of, words_part, rows_part, state_part, samples_part}
use Rattle.engine.proofs.Hosts.{answers as plain-answers}
use Rattle.engine.specs.Host.{Hosted, hosted, reported, deck_run, host_of}
use Rattle.engine.specs.Run.{World, run_from}
use Rattle.memory.proofs.Hosts.{answers}
use Rattle.memory.specs.Host.{Remembered, refusal_with, deck_run_with, host_with}
use Rattle.memory.specs.Run.{Together, run_with}
use Rattle.numbers.specs.Numbers.{Bytes}
use Rattle.rows.specs.Range.{rows_in_range}
use Rattle.run_laws.proofs.Again.{sample-in-its-range}
use Rattle.run_laws.specs.Returned.{deck_rows, sample_count}
use Rattle.state.specs.Marking.{marking_of}
use Rattle.state.specs.Range.{SampleInRange}
use Rattle.state.specs.declared.Sample.{Sample}
use Rattle.state_bytes.specs.Bytes.{state_bytes, stored_of}
use Rattle.state_bytes.proofs.Laws.{state-in-range}
use Rattle.memory_laws.specs.Attempts.{samples_below}
use Rattle.memory_laws.specs.Decks.{deck_start, section_below, deck_seen, seen_deck}
use Rattle.memory_laws.proofs.Ran.{engine-run}
use Rattle.memory_laws.proofs.Range.{AllInRange, seen-fair}
use Rattle.memory_laws.proofs.Sections.{section-length, section-bytes, section-in-range, section-samples, samples-below}

-- what is not refused is refused neither by 9, 24 and 1-4 nor by 16
neither : (n m : ℕ) → pick (eqb n 0) m n ≡ 0 → (n ≡ 0) × (m ≡ 0)
neither n m h = go (eqb n 0) refl h
  where
    go : (t : Bool) → eqb n 0 ≡ t → pick t m n ≡ 0 → (n ≡ 0) × (m ≡ 0)
    go true t e = (eqb-true n 0 t, e)
    go false t e = absurd (eqb-false n 0 t e)

-- what the host is told of a run w, with the state buffer s
abbrev told : World → List ℕ → Hosted
told w s = hosted (reported w.answer w.attempts w.microcycles) w.buffer (stored_of w.file w.core s)

module _ (deck memory : List ℕ) (delay : ℕ) (requests state : List ℕ) (marking : ℕ) (b : Bytes deck) (m : Bytes memory)
    (h : refusal_with deck (length memory) delay (length requests) (length state) marking ≡ 0) where
  pub both-accepted : (deck_refusal_of deck (length requests) (length state) marking ≡ 0) × (memory_refusal_of (length memory) delay ≡ 0)
  unfolding refusal_with
  both-accepted = neither _ _ h

  abbrev host_run : Together
  host_run = deck_run_with deck memory delay requests (marking_of marking)

  -- what is handed back is of that run
  pub host-told : (host_with deck memory delay requests state marking).host ≡ told host_run.world state
  host-told = sym (ap (λ (r : Remembered). r.host) (answers deck memory delay requests state marking both-accepted.0 both-accepted.1 host_run refl))

  -- the lines that attempt j sees, and the bytes of all
  abbrev seen : ℕ → Sample
  seen = deck_seen deck memory delay requests marking

  abbrev section : List ℕ
  section = section_below seen (sample_count deck)

  abbrev first : Together
  first = deck_start deck memory requests marking

  abbrev at : ℕ → Sample
  at = sample_at (samples_part deck)

  let-in : Accepted deck (length requests) (length state) marking
  let-in = accepted deck (length requests) (length state) marking both-accepted.0

  -- all that is handed in is in range
  pub rows-good : rows_in_range (deck_rows deck) ≡ true
  rows-good = (rows-in-range (rows_part deck) let-in.rows).1

  pub first-fair : AllInRange first
  first-fair = record {
    state = state-in-range (state_part deck) (marking_of marking) (part_bytes deck (layout_of deck).state state_bytes b) let-in.state;
    bytes = m;
  }

  pub samples-fair : (j : ℕ) → j < sample_count deck → SampleInRange (at j)
  samples-fair j l = sample-in-its-range (samples_part deck) (part_bytes deck (layout_of deck).samples 4 b) let-in.samples j (omega arith)

  seen-in-range : (j : ℕ) → j < sample_count deck → SampleInRange (seen j)
  seen-in-range = seen-fair (words_part deck) (deck_rows deck) delay at first rows-good first-fair (sample_count deck) samples-fair

  -- the deck's run, over its samples one by one
  pub run_is : host_run ≡ run_with (words_part deck) (deck_rows deck) delay (samples_below at (sample_count deck)) first
  unfolding deck_run_with
  run_is = rw (samples-below (samples_part deck) (sample_count deck))

  as-engine : (host_run.world.answer ≡ 17 → ⊥)
      → host_run.world ≡ run_from (words_part deck) (deck_rows deck) (samples_below seen (sample_count deck)) first.world
  as-engine = rw run_is (engine-run (words_part deck) (deck_rows deck) delay at first refl refl (sample_count deck))

  pub seen-is-deck : IsDeck (seen_deck deck memory delay requests marking) (words_part deck) (rows_part deck) (state_part deck)
      (section_below (deck_seen deck memory delay requests marking) (sample_count deck)) (length requests) (length state) marking
  unfolding seen_deck
  seen-is-deck =
      let n = sample_count deck in
      let a = accepted deck (length requests) (length state) marking both-accepted.0 in
      let few : n ≤ 65535 = samples-few (samples_part deck) a.samples in
      let size : length section ≡ n * 4 = section-length seen n in
      is-deck deck b (length requests) (length state) marking both-accepted.0 (state_part deck) section (length requests)
      (record {
        state-bytes = part_bytes deck (layout_of deck).state state_bytes b;
        state-good = a.state;
        samples-bytes = section-bytes seen n seen-in-range;
        samples-good = section-in-range seen n few seen-in-range;
        samples-size = omega arith;
        no_more = omega arith;
        enough = omega (arith, a.places);
      })

  pub seen-count : sample_count (seen_deck deck memory delay requests marking) ≡ sample_count deck
  seen-count = rw seen-is-deck.samples-same (omega (arith, section-length seen (sample_count deck)))

  -- that deck's run is over the lines that the memory gave
  pub seen-run : deck_run (seen_deck deck memory delay requests marking) requests (marking_of marking)
      ≡ run_from (words_part deck) (deck_rows deck) (samples_below (deck_seen deck memory delay requests marking) (sample_count deck))
      (deck_start deck memory requests marking).world
  unfolding deck_run
  seen-run =
      let d = seen-is-deck in
      let n = sample_count deck in
      let many : length section / 4 ≡ n = omega (arith, section-length seen n) in
      rw (d.words_same, d.rows_same, d.state-same, d.samples-same, many, section-samples seen n)

  -- the host is handed back what the deck of those lines gives it without a memory, unless 17 stopped the run
  pub as-without-memory : ((host_with deck memory delay requests state marking).host.report.answer ≡ 17 → ⊥)
      → (host_with deck memory delay requests state marking).host ≡ host_of (seen_deck deck memory delay requests marking) requests state marking
  as-without-memory free =
      let run = as-engine (λ e. free (ap (λ (x : Hosted). x.report.answer) host-told ∙ e)) in
      host-told
      ∙ plain-answers (seen_deck deck memory delay requests marking) requests state marking seen-is-deck.not-refused host_run.world (run ∙ sym seen-run)
