-- Laws of the host's entry with a memory: what an accepted deck gives the run, and what comes back. Assumes nothing.
use Prim.Native.Nat.{ℕ, ◌/◌}
use mathlib.Core.Path.{◌≡◌}
use mathlib.Core.List.{List}
use lib.ListN.{length}
use borrow.Author.Tests.{eq-eqb, ne_eqb}
use Rattle.attempt.specs.Attempt.{attempt_of}
use Rattle.attempt.proofs.Lent.{attempt-lent}
use Rattle.bus_memory.specs.Memory.{memory_refusal_of, nothing_kept}
use Rattle.code.specs.Entries.{entries}
use Rattle.deck.specs.Sections.{words_part, rows_part, state_part, samples_part}
use Rattle.deck.specs.Ranges.{deck_refusal_of}
use Rattle.deck.proofs.Laws.{accepted, rows-in-range}
use Rattle.engine.specs.Host.{hosted, reported}
use Rattle.engine.specs.Run.{world, samples_from}
use Rattle.engine.specs.RunEnds.{lent_rows}
use Rattle.engine.proofs.Hosts.{loads}
use Rattle.rows.specs.Section.{rows_of}
use Rattle.rows.specs.Packing.{packed_rows}
use Rattle.state.specs.Marking.{marking_of}
use Rattle.state.specs.declared.Core.{Core}
use Rattle.state.specs.declared.Sample.{Sample}
use Rattle.state_bytes.specs.Bytes.{stored_of, Loaded}
use Rattle.memory.specs.Run.{Together, together, Attempts, run_by}
use Rattle.memory.specs.Lent.{attempts_by}
use Rattle.memory.specs.Host.{remembered, refusal_with, deck_run_with, host_with}

-- attempts that are alike make runs that are alike
same-attempts : (a b : Attempts) → ((xs : List ℕ) (k : Core) (s : Sample) → a xs k s ≡ b xs k s) → a ≡ b
same-attempts a b same i xs k s = same xs k s i

module _ (deck memory : List ℕ) (delay : ℕ) (requests state : List ℕ) (marking : ℕ) where
  abbrev number : ℕ
  number = deck_refusal_of deck (length requests) (length state) marking

  pub refuses-deck : (number ≡ 0 → ⊥)
      → remembered (hosted (reported number 0 0) requests state) memory ≡ host_with deck memory delay requests state marking
  unfolding host_with refusal_with
  refuses-deck h = rw (ne_eqb _ 0 h, ne_eqb _ 0 h)

  module _ (whole : number ≡ 0) where
    pub refuses-memory : (memory_refusal_of (length memory) delay ≡ 0 → ⊥)
        → remembered (hosted (reported (memory_refusal_of (length memory) delay) 0 0) requests state) memory
        ≡ host_with deck memory delay requests state marking
    unfolding host_with refusal_with
    refuses-memory h = rw (eq-eqb _ 0 whole, ne_eqb _ 0 h)

    pub answers : memory_refusal_of (length memory) delay ≡ 0 → (t : Together) → t ≡ deck_run_with deck memory delay requests (marking_of marking)
        → let w = t.world in
        remembered (hosted (reported w.answer w.attempts w.microcycles) w.buffer (stored_of w.file w.core state)) t.bytes
        ≡ host_with deck memory delay requests state marking
    unfolding host_with refusal_with
    answers h t e = rw (eq-eqb _ 0 whole, eq-eqb _ 0 h, e)

    -- by THE table and the deck's own rows, each attempt is the one of 01
    own-attempts : let rows = rows_of (rows_part deck) (length (rows_part deck) / 16) in
        attempts_by entries (words_part deck) (packed_rows rows) ≡ attempt_of (words_part deck) rows
    own-attempts =
        let rows = rows_of (rows_part deck) (length (rows_part deck) / 16) in
        let good = (rows-in-range (rows_part deck) (accepted deck (length requests) (length state) marking whole).rows).1 in
        same-attempts _ _ (λ xs k s. attempt-lent (words_part deck) rows xs k s good)

    -- the run over the parts that were handed back is the deck's run
    pub same-run : (codes words samples part xs : List ℕ) (k : Core)
        → codes ≡ entries → words ≡ words_part deck → samples ≡ samples_part deck → part ≡ rows_part deck → Loaded (state_part deck) (marking_of marking) k xs
        → run_by (attempts_by codes words (lent_rows part)) words delay (samples_from samples 0 (length samples / 4))
        (together (world xs k 0 0 0 requests) memory nothing_kept)
        ≡ deck_run_with deck memory delay requests (marking_of marking)
    unfolding deck_run_with
    same-run codes words samples part xs k ec ew es ep l =
        rw (ec, ew, es, ep, l.core, l.file, loads deck (length requests) (length state) marking whole, own-attempts)
