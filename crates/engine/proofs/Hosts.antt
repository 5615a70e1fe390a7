-- Laws of the host's entry: what an accepted deck gives the run, and what comes back.
-- Assumes nothing.
use Prim.Native.Nat.{ℕ, ◌*◌, ◌/◌, ◌≤◌}
use mathlib.Core.Path.{◌≡◌, ap, ◌∙◌}
use mathlib.Core.List.{List}
use native.Mathlib.Omega.{arith}
use lib.ListN.{length}
use borrow.Author.Tests.{eq-eqb, ne_eqb}
use Rattle.attempt.proofs.Lent.{attempt-lent}
use Rattle.code.specs.Entries.{entries}
use Rattle.deck.specs.Sections.{words_part, rows_part, state_part, samples_part}
use Rattle.deck.specs.Ranges.{deck_refusal_of}
use Rattle.deck.proofs.Laws.{accepted, rows-in-range, samples-few}
use Rattle.rows.specs.Section.{rows_of}
use Rattle.rows.specs.Packing.{packed_rows}
use Rattle.rows.specs.Table.{whole_rows}
use Rattle.rows.proofs.Laws.{table-rows}
use Rattle.state.specs.Marking.{marking_of}
use Rattle.state.specs.declared.Core.{Core}
use Rattle.state.specs.declared.Sample.{Sample}
use Rattle.state_bytes.specs.Bytes.{stored_of, Loaded}
use Rattle.engine.specs.Run.{World, world, run_from, samples_from}
use Rattle.engine.specs.RunEnds.{lent_rows, run_by}
use Rattle.engine.proofs.Loop.{run-as}
use Rattle.engine.specs.Host.{hosted, reported, deck_run, host_of}

module _ (deck : List ℕ) (requests buffer marking : ℕ) (h : deck_refusal_of deck requests buffer marking ≡ 0) where
  -- a place for each sample
  pub places : (length (samples_part deck) / 4 ≤ 65535) × (length (samples_part deck) / 4 * 4 ≤ requests)
  places =
      let a = accepted deck requests buffer marking h in
      (samples-few (samples_part deck) a.samples, omega (arith, a.places))

  -- the table's rows are those of the section, packed
  pub loads : lent_rows (rows_part deck) ≡ packed_rows (rows_of (rows_part deck) (length (rows_part deck) / 16))
  loads =
      let few : whole_rows (rows_part deck) ≡ length (rows_part deck) / 16 =
      omega (arith, (rows-in-range (rows_part deck) (accepted deck requests buffer marking h).rows).0) in
      table-rows (rows_part deck) ∙ ap (λ (n : ℕ). packed_rows (rows_of (rows_part deck) n)) few

module _ (deck requests state : List ℕ) (marking : ℕ) where
  pub refuses : (deck_refusal_of deck (length requests) (length state) marking ≡ 0 → ⊥)
      → hosted (reported (deck_refusal_of deck (length requests) (length state) marking) 0 0) requests state ≡ host_of deck requests state marking
  unfolding host_of
  refuses h = rw (ne_eqb _ 0 h)

  pub answers : deck_refusal_of deck (length requests) (length state) marking ≡ 0 → (w : World) → w ≡ deck_run deck requests (marking_of marking)
      → hosted (reported w.answer w.attempts w.microcycles) w.buffer (stored_of w.file w.core state) ≡ host_of deck requests state marking
  unfolding host_of
  answers h w e = rw (eq-eqb _ 0 h, e)

  -- by THE table and the deck's own rows, each attempt is the one of 01
  own-rows : deck_refusal_of deck (length requests) (length state) marking ≡ 0
      → (ss : List Sample) (w : World)
      → let rows = rows_of (rows_part deck) (length (rows_part deck) / 16) in
      run_by entries (words_part deck) (packed_rows rows) ss w ≡ run_from (words_part deck) rows ss w
  own-rows h ss w =
      let rows = rows_of (rows_part deck) (length (rows_part deck) / 16) in
      let good = (rows-in-range (rows_part deck) (accepted deck (length requests) (length state) marking h).rows).1 in
      run-as entries (words_part deck) (packed_rows rows) rows (λ xs k s. attempt-lent (words_part deck) rows xs k s good) ss w

  -- the run over the parts that were handed back is the deck's run
  pub same-run : deck_refusal_of deck (length requests) (length state) marking ≡ 0
      → (codes words samples part xs : List ℕ) (k : Core)
      → codes ≡ entries → words ≡ words_part deck → samples ≡ samples_part deck → part ≡ rows_part deck → Loaded (state_part deck) (marking_of marking) k xs
      → run_by codes words (lent_rows part) (samples_from samples 0 (length samples / 4)) (world xs k 0 0 0 requests)
      ≡ deck_run deck requests (marking_of marking)
  unfolding deck_run
  same-run h codes words samples part xs k ec ew es ep l =
      rw (ec, ew, es, ep, l.core, l.file, loads deck (length requests) (length state) marking h) (own-rows h _ _)
