-- What a trace has, which makes one run for each sample that it shows: after each what one run of the deck has then. Assumes nothing.
use Prim.Native.Nat.{ℕ, ◌+◌, ◌<◌, ◌≤◌}
use mathlib.Core.Path.{◌≡◌, sym, ap, ◌∙◌}
use mathlib.Core.List.{List, foldr}
use native.Mathlib.Omega.{arith}
use lib.ListN.{length}
use Rattle.attempt.specs.Outcome.{Outcome}
use Rattle.deck.specs.Ranges.{deck_refusal_of}
use Rattle.deck.specs.Sections.{words_part, samples_part}
use Rattle.engine.specs.Host.{Hosted, host_of}
use Rattle.numbers.specs.Numbers.{Bytes}
use Rattle.run_laws.proofs.Attempts.{sum_same, state-same}
use Rattle.run_laws.proofs.Returned.{host-used, host-refused}
use Rattle.run_laws.specs.Returned.{deck_rows, sample_count, deck_state, state_in, attempt_in, Returned, Refused}
use Rattle.state.specs.File.{Leaves}
use Rattle.state.specs.declared.Core.{Core}
use Rattle.state_bytes.specs.Bytes.{bytes_of}
use Rattle.cuts.specs.Decks.{first_deck, host_in_parts}
use Rattle.cuts.proofs.Hosts.{first-is-deck, first_count, no-more-hosted, however-cut}
use Rattle.cuts.proofs.Samples.{sample-first}

module _ (deck requests state : List ℕ) (marking : ℕ) (b : Bytes deck) (h : deck_refusal_of deck (length requests) (length state) marking ≡ 0)
    (n : ℕ) (l : n ≤ sample_count deck) where
  abbrev part : List ℕ
  part = first_deck deck n

  -- its attempts are the deck's own, each from the same state
  state-in : (i : ℕ) → i ≤ n → state_in part marking i ≡ state_in deck marking i
  state-in i m =
      let d = first-is-deck deck requests state marking b h n l in
      rw (d.words_same, d.rows_same, d.state-same, d.samples-same)
      (state-same (words_part deck) (deck_rows deck) _ _ (deck_state deck marking) i (λ j k. sym (sample-first (samples_part deck) n j (omega arith))))

  attempt-in : (i : ℕ) → i < n → attempt_in part marking i ≡ attempt_in deck marking i
  attempt-in i m =
      let d = first-is-deck deck requests state marking b h n l in
      rw (state-in i (omega arith), d.words_same, d.rows_same, d.samples-same, ← sample-first (samples_part deck) n i m)

  -- so what is handed back after them is what one run of the whole deck has after as many attempts: state, counts and places
  first-returned : (host_of part requests state marking).report.answer ≡ 0 → Returned deck requests marking (host_of part requests state marking) n
  first-returned z =
      let d = first-is-deck deck requests state marking b h n l in
      let r : Returned part requests marking (host_of part requests state marking) n
      = rw (first_count deck requests state marking b h n l) at (host-used part requests state marking d.bytes d.not-refused z) in
      record {
        passed = λ j m. rw (← attempt-in j m) (r.passed j m);
        state = r.state ∙ ap (λ (x : Leaves Core). bytes_of x.file x.back) (state-in n (omega arith));
        attempts = r.attempts;
        microcycles = r.microcycles ∙ sum_same n _ _ (λ j m. ap (λ (e : Leaves Outcome). e.back.cycles) (attempt-in j m));
        written = λ j m. rw (← attempt-in j m) (r.written j m);
        size = r.size;
        untouched = r.untouched;
      }

  -- and where one is refused, one run of the whole deck is refused there: state and counts before that attempt
  first-refused : ((host_of part requests state marking).report.answer ≡ 0 → ⊥)
      → Refused deck requests marking (host_of part requests state marking) (host_of part requests state marking).report.attempts
  first-refused z =
      let same = no-more-hosted deck requests state marking b h n l z in
      rw (← same) (host-refused deck requests state marking b h (λ e. z (ap (λ (f : Hosted). f.report.answer) (sym same) ∙ e)))

-- after n samples, however they were cut: what is handed back is what one run of the whole deck has then
pub traced : (deck requests state : List ℕ) (marking : ℕ) → Bytes deck → deck_refusal_of deck (length requests) (length state) marking ≡ 0
    → (n : ℕ) → n ≤ sample_count deck → (ns : List ℕ) → foldr ◌+◌ 0 ns ≤ n
    → let shown = host_in_parts ns (first_deck deck n) requests state marking in
    (shown.report.answer ≡ 0 → Returned deck requests marking shown n)
    × ((shown.report.answer ≡ 0 → ⊥) → Refused deck requests marking shown shown.report.attempts)
traced deck requests state marking b h n l ns m =
    let d = first-is-deck deck requests state marking b h n l in
    let enough : foldr ◌+◌ 0 ns ≤ sample_count (first_deck deck n) = omega (arith, first_count deck requests state marking b h n l) in
    rw (however-cut ns (first_deck deck n) requests state marking d.bytes d.not-refused enough)
    (first-returned deck requests state marking b h n l, first-refused deck requests state marking b h n l)
