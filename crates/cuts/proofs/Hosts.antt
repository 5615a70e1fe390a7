-- What the host is handed back is the same however the samples are cut. Assumes nothing.
use Prim.Native.Nat.{ℕ, ◌+◌, ◌*◌, ◌/◌, ◌-◌, ◌≤◌}
use mathlib.Core.Path.{◌≡◌, refl, sym, ap, ap₂, ◌∙◌}
use mathlib.Core.List.{List, [], ◌∷◌, ◌++◌, foldr}
use native.Mathlib.Omega.{arith}
use lib.ListN.{length, take, drop, length-drop}
use lib.Seq.{length-take-le}
use Rattle.deck.proofs.Laws.{accepted, section-bytes}
use Rattle.deck.specs.Ranges.{deck_refusal_of}
use Rattle.deck.specs.Sections.{layout_of, words_part, rows_part, state_part, samples_part}
use Rattle.engine.proofs.Hosts.{answers}
use Rattle.engine.proofs.Runs.{samples-length}
use Rattle.engine.specs.Host.{Hosted, hosted, reported, deck_run, host_of}
use Rattle.engine.specs.Run.{World, run_from, samples_from}
use Rattle.numbers.proofs.Laws.{take-bytes, drop-bytes}
use Rattle.numbers.specs.Numbers.{Bytes}
use Rattle.run_laws.proofs.Answer.{run-counts}
use Rattle.run_laws.proofs.Again.{returned-in-range, returned-all-bytes, returned-again}
use Rattle.run_laws.proofs.Hosts.{host-places}
use Rattle.run_laws.specs.Attempts.{state_of}
use Rattle.run_laws.specs.Returned.{deck_rows, sample_count, deck_state}
use Rattle.state.specs.File.{leaves}
use Rattle.state.specs.Marking.{marking_of}
use Rattle.state.specs.declared.Sample.{Sample}
use Rattle.state_bytes.proofs.Laws.{tested, stored_bytes}
use Rattle.state_bytes.specs.Bytes.{state_bytes, file_of, core_of, stored_of}
use Rattle.cuts.specs.Runs.{begun, places_left, joined}
use Rattle.cuts.specs.Decks.{first_deck, rest_deck, IsDeck, together, host_in_parts}
use Rattle.cuts.proofs.Decks.{measured, first-in-range, rest-in-range, is-deck}
use Rattle.cuts.proofs.Runs.{then-the-rest, no_more, by_answer}
use Rattle.cuts.proofs.Samples.{samples-cut}

-- what the host is told of a run w, with the state buffer s
abbrev told : World → List ℕ → Hosted
told w s = hosted (reported w.answer w.attempts w.microcycles) w.buffer (stored_of w.file w.core s)

told-together : (v u : World) (s t : List ℕ) (n : ℕ) → length s ≡ state_bytes → length t ≡ state_bytes → v.attempts ≡ n
    → told (joined v u) s ≡ together n (told v s) (told u t)
told-together v u s t n e e' used = rw (stored_bytes u.file u.core s e, stored_bytes u.file u.core t e', used)

module _ (deck requests state : List ℕ) (marking : ℕ) (b : Bytes deck) (h : deck_refusal_of deck (length requests) (length state) marking ≡ 0)
    (n : ℕ) (l : n ≤ sample_count deck) where
  first-size : length (take (n * 4) (samples_part deck)) ≡ n * 4
  first-size = length-take-le (n * 4) (samples_part deck) (omega arith)

  -- ---- the two decks of a cut are decks
  pub first-is-deck : IsDeck (first_deck deck n) (words_part deck) (rows_part deck) (state_part deck) (take (n * 4) (samples_part deck))
      (length requests) (length state) marking
  unfolding first_deck
  first-is-deck =
      let a = accepted deck (length requests) (length state) marking h in
      let s = samples_part deck in
      let size = first-size in
      is-deck deck b (length requests) (length state) marking h (state_part deck) (take (n * 4) s) (length requests)
      (record {
        state-bytes = section-bytes deck (layout_of deck).state state_bytes b;
        state-good = a.state;
        samples-bytes = take-bytes (n * 4) s (section-bytes deck (layout_of deck).samples 4 b);
        samples-good = first-in-range s a.samples n (omega arith);
        samples-size = omega arith;
        no_more = omega arith;
        enough = omega (arith, a.places);
      })

  pub first_count : sample_count (first_deck deck n) ≡ n
  first_count = rw first-is-deck.samples-same (omega (arith, first-size))

  abbrev first : Hosted
  first = host_of (first_deck deck n) requests state marking

  -- what it is handed back has the lengths of what it was handed in
  first-lengths : (length first.requests ≡ length requests) × (length first.state ≡ length state)
  first-lengths =
      let d = first-is-deck in (
        (host-places (first_deck deck n) requests state marking d.not-refused).0,
        (tested first.state (returned-in-range (first_deck deck n) d.bytes requests state marking d.not-refused)).0
            ∙ sym (accepted deck (length requests) (length state) marking h).buffer-length,
      )

  pub rest-is-deck : IsDeck (rest_deck deck n first.state) (words_part deck) (rows_part deck) first.state (drop (n * 4) (samples_part deck))
      (length (drop (n * 4) first.requests)) (length first.state) marking
  unfolding rest_deck
  rest-is-deck =
      let d = first-is-deck in
      let a = accepted deck (length requests) (length state) marking h in
      let s = samples_part deck in
      let size : length (drop (n * 4) s) ≡ length s - n * 4 = length-drop (n * 4) s in
      let room : length (drop (n * 4) first.requests) ≡ length first.requests - n * 4 = length-drop (n * 4) first.requests in
      rw first-lengths.1
      (is-deck deck b (length requests) (length state) marking h first.state (drop (n * 4) s) (length (drop (n * 4) first.requests))
      (record {
        state-bytes = returned-all-bytes (first_deck deck n) d.bytes requests state marking d.not-refused;
        state-good = returned-in-range (first_deck deck n) d.bytes requests state marking d.not-refused;
        samples-bytes = drop-bytes (n * 4) s (section-bytes deck (layout_of deck).samples 4 b);
        samples-good = rest-in-range s a.samples n (omega arith);
        samples-size = omega (arith, (measured deck b a.whole).samples-size);
        no_more = omega arith;
        enough = omega (arith, a.places, first-lengths.0);
      }))

  -- ---- and their runs are those of the sections
  abbrev taken : List Sample
  taken = samples_from (take (n * 4) (samples_part deck)) 0 n

  abbrev left : List Sample
  left = samples_from (drop (n * 4) (samples_part deck)) 0 (sample_count deck - n)

  -- the first part's run
  abbrev reached : World
  reached = run_from (words_part deck) (deck_rows deck) taken (begun (deck_state deck marking) requests)

  one-run : deck_run deck requests (marking_of marking) ≡ run_from (words_part deck) (deck_rows deck) (taken ++ left) (begun (deck_state deck marking) requests)
  unfolding deck_run
  one-run =
      let all : sample_count deck ≡ n + (sample_count deck - n) = omega arith in
      ap (λ (ss : List Sample). run_from (words_part deck) (deck_rows deck) ss (begun (deck_state deck marking) requests))
      (ap (samples_from (samples_part deck) 0) all ∙ samples-cut (samples_part deck) n (sample_count deck - n))

  part-run : (part samples from buffer : List ℕ) (places room : ℕ) → IsDeck part (words_part deck) (rows_part deck) from samples places room marking
      → deck_run part buffer (marking_of marking)
      ≡ run_from (words_part deck) (deck_rows deck) (samples_from samples 0 (length samples / 4))
      (begun (leaves (file_of from) (core_of from (marking_of marking))) buffer)
  unfolding deck_run
  part-run part samples from buffer places room d = rw (d.words_same, d.rows_same, d.state-same, d.samples-same)

  first_run : deck_run (first_deck deck n) requests (marking_of marking) ≡ reached
  first_run =
      let s = take (n * 4) (samples_part deck) in
      let count : length s / 4 ≡ n = omega (arith, first-size) in
      part-run (first_deck deck n) s (state_part deck) requests (length requests) (length state) first-is-deck ∙ rw count

  first-is : first ≡ told reached state
  first-is = sym (answers (first_deck deck n) requests state marking first-is-deck.not-refused reached (sym first_run))

  used : first.report.answer ≡ 0 → reached.attempts ≡ n
  used z =
      let none : reached.answer ≡ 0 = ap (λ (f : Hosted). f.report.answer) (sym first-is) ∙ z in
      omega (
        arith,
        (run-counts (words_part deck) (deck_rows deck) taken (begun (deck_state deck marking) requests) refl).full none,
        samples-length (take (n * 4) (samples_part deck)) n 0,
      )

  -- the state handed back is the state reached
  same-state : (file_of first.state ≡ reached.file) × (core_of first.state (marking_of marking) ≡ reached.core)
  same-state =
      let d = first-is-deck in
      let again = returned-again (first_deck deck n) d.bytes requests state marking d.not-refused in
      (again.0 ∙ ap (λ (w : World). w.file) first_run, again.1 ∙ ap (λ (w : World). w.core) first_run)

  abbrev rest : Hosted
  rest = host_of (rest_deck deck n first.state) (drop (n * 4) first.requests) first.state marking

  -- the rest's run
  abbrev ended : World
  ended = run_from (words_part deck) (deck_rows deck) left (begun (state_of reached) (places_left reached))

  rest-run : first.report.answer ≡ 0 → deck_run (rest_deck deck n first.state) (drop (n * 4) first.requests) (marking_of marking) ≡ ended
  rest-run z =
      let s = drop (n * 4) (samples_part deck) in
      let size : length s ≡ length (samples_part deck) - n * 4 = length-drop (n * 4) (samples_part deck) in
      let count : length s / 4 ≡ sample_count deck - n = omega arith in
      let places : drop (n * 4) first.requests ≡ places_left reached = rw (used z) (ap (λ (f : Hosted). drop (n * 4) f.requests) first-is) in
      part-run (rest_deck deck n first.state) s first.state (drop (n * 4) first.requests) _ _ rest-is-deck
      ∙ rw (count, same-state.0, same-state.1, places)

  rest-is : first.report.answer ≡ 0 → rest ≡ told ended first.state
  rest-is z = sym (answers _ _ first.state marking rest-is-deck.not-refused ended (sym (rest-run z)))

  one-is : (w : World) → w ≡ deck_run deck requests (marking_of marking) → host_of deck requests state marking ≡ told w state
  one-is w e = sym (answers deck requests state marking h w e)

  -- ---- two parts
  -- "the same final state, requests, answer and summed attempts and microcycles as one run, if the first part ended with 0"
  pub then-the-rest-hosted : first.report.answer ≡ 0 → host_of deck requests state marking ≡ together n first rest
  then-the-rest-hosted z =
      let none : reached.answer ≡ 0 = ap (λ (f : Hosted). f.report.answer) (sym first-is) ∙ z in
      let a = accepted deck (length requests) (length state) marking h in
      let covers : length taken * 4 ≤ length requests = omega (arith, samples-length (take (n * 4) (samples_part deck)) n 0, a.places) in
      one-is (joined reached ended) (sym (one-run ∙ then-the-rest (words_part deck) (deck_rows deck) taken left (deck_state deck marking) requests none covers))
      ∙ told-together reached ended state first.state n a.buffer-length (first-lengths.1 ∙ a.buffer-length) (used z)
      ∙ ap₂ (together n) (sym first-is) (sym (rest-is z))

  -- "Where the first part is refused by 5 to 8, one run stops at the same attempt with the same number"
  pub no-more-hosted : (first.report.answer ≡ 0 → ⊥) → host_of deck requests state marking ≡ first
  no-more-hosted z =
      let some : reached.answer ≡ 0 → ⊥ = λ e. z (ap (λ (f : Hosted). f.report.answer) first-is ∙ e) in
      one-is reached (sym (one-run ∙ no_more (words_part deck) (deck_rows deck) taken left (deck_state deck marking) requests some)) ∙ sym first-is

-- ---- any number of parts
-- what the host is handed back is the same however the samples are cut
pub however-cut : (ns deck requests state : List ℕ) (marking : ℕ) → Bytes deck → deck_refusal_of deck (length requests) (length state) marking ≡ 0
    → foldr ◌+◌ 0 ns ≤ sample_count deck → host_in_parts ns deck requests state marking ≡ host_of deck requests state marking
unfolding host_in_parts
however-cut [] deck requests state marking b h l = refl
however-cut (n ∷ ns) deck requests state marking b h l =
    let first = host_of (first_deck deck n) requests state marking in
    let d = rest-is-deck deck requests state marking b h n (omega arith) in
    let left : length (drop (n * 4) (samples_part deck)) ≡ length (samples_part deck) - n * 4 = length-drop (n * 4) (samples_part deck) in
    let enough : foldr ◌+◌ 0 ns ≤ sample_count (rest_deck deck n first.state) = rw d.samples-same (omega arith) in
    by_answer first.report.answer _ _ _
    (λ z.
    ap (together n first) (however-cut ns _ _ first.state marking d.bytes d.not-refused enough)
    ∙ sym (then-the-rest-hosted deck requests state marking b h n (omega arith) z))
    (λ z. sym (no-more-hosted deck requests state marking b h n (omega arith) z))
