-- Demand 3 of a run with a memory: a deck of a sum or of a difference gives it whatever the memory holds. Assumes nothing.
use Prim.Native.Nat.{ℕ, zero, suc, ◌+◌, ◌<◌, ◌≤◌}
use mathlib.Core.Path.{◌≡◌, refl, ◌∙◌}
use mathlib.Core.Bool.{false}
use mathlib.Core.List.{List, [], ◌∷◌, append-nil}
use native.Mathlib.Nat.{add-zero}
use native.Mathlib.Omega.{arith}
use borrow.Author.Tests.{eq-eqb}
use lib.ListN.{length, take, length-append}
use Rattle.bus_memory.specs.Memory.{seen_of, memory_refusal_of}
use Rattle.cuts.specs.Decks.{IsDeck}
use Rattle.deck.specs.Elements.{sample_at}
use Rattle.deck.specs.Sections.{words_part, rows_part, state_part, samples_part}
use Rattle.engine.proofs.Runs.{samples-length}
use Rattle.numbers.specs.Numbers.{Bytes}
use Rattle.engine.specs.Host.{host_of}
use Rattle.engine.specs.Run.{samples_from}
use Rattle.memory.specs.Host.{refusal_with, host_with}
use Rattle.memory.specs.Run.{seen_by}
use Rattle.run_laws.specs.Returned.{sample_count}
use Rattle.state.specs.declared.Sample.{Sample}
use Rattle.sums.proofs.Given.{words-length}
use Rattle.sums.proofs.Theorem.{fair_back}
use Rattle.sums.proofs.Host.{computing-length, host-sum, host-back-in-one-run, host-back-in-two-runs}
use Rattle.sums.proofs.Seven.{at-most-seven}
use Rattle.sums.specs.Host.{deck_samples, DeckReady, HostSummed, HostBackInOneRun, HostBackInTwoRuns}
use Rattle.sums.specs.Sums.{Cut, Sign, byte_count, instructions_of, Computing, Fair, TwoCuts, there_and_back}
use Rattle.sums.specs.Sums.Sign.{plus, minus}
use Rattle.sums.specs.Sums.Step.{byte, pair}
use Rattle.memory_laws.specs.Decks.{section_below, deck_seen, seen_deck}
use Rattle.memory_laws.proofs.Few.{few-samples}
use Rattle.memory_laws.proofs.Sections.{section-sample}
use Rattle.memory_laws.proofs.Seen.{host-told, seen-is-deck, seen-count, as-without-memory}

-- ---- a cut has few steps
steps-few : (cut : Cut) → length cut ≤ byte_count cut
steps-few [] = omega arith
steps-few (byte a b ∷ ts) = omega (arith, steps-few ts)
steps-few (pair a b ∷ ts) = omega (arith, steps-few ts)

-- of seven bytes at the most
words-few : (sign : Sign) (cut : Cut) → Fair cut → length (instructions_of sign false cut) ≤ 7
words-few sign cut f =
    let is = instructions_of sign false cut in
    let size : length is ≡ length cut + 0 = rw (append-nil is) at (words-length sign false cut []) in
    omega (arith, steps-few cut, at-most-seven cut f)

both-few : (there back : Cut) → TwoCuts there back → length (there_and_back there back) ≤ 32
both-few there back two =
    let first = words-few plus there two.fair in
    let second = words-few minus back (fair_back there back two) in
    let size = length-append (instructions_of plus false there) (instructions_of minus false back) in
    omega arith

-- ---- COMPUTE and RESET are the external ones
-- the two lines of a sample that a sum asks about
abbrev Alike : Sample → Sample → Type 0
Alike s t = (t.compute ≡ s.compute) × (t.reset ≡ s.reset)

seen_alike : (deck memory : List ℕ) (delay : ℕ) (requests : List ℕ) (marking j : ℕ)
    → Alike (sample_at (samples_part deck) j) (deck_seen deck memory delay requests marking j)
unfolding seen_by seen_of
seen_alike deck memory delay requests marking j = (refl, refl)

-- samples that are alike, one by one
computing-alike : (s t : List ℕ) (n i : ℕ) (is : List ℕ) → ((j : ℕ) → j < n → Alike (sample_at s (i + j)) (sample_at t (i + j)))
    → Computing (samples_from s i n) is → Computing (samples_from t i n) is
unfolding samples_from
computing-alike s t zero i is e c = c
computing-alike s t (suc n) i [] e c = absurd c
computing-alike s t (suc n) i (a ∷ is) e c =
    let here : Alike (sample_at s i) (sample_at t i) = rw (add-zero i) at (e 0 (omega arith)) in
    let past : (j : ℕ) → i + suc j ≡ suc i + j = λ j. omega arith in
    (here.0 ∙ c.0, here.1 ∙ c.1, computing-alike s t n (suc i) is (λ j l. rw (past j) at (e (suc j) (omega arith))) c.2)

module _ (deck memory : List ℕ) (delay : ℕ) (requests state : List ℕ) (marking : ℕ) (m : Bytes memory)
    (small : memory_refusal_of (length memory) delay ≡ 0) where
  module _ (is : List ℕ) (h : DeckReady is deck requests state marking) where
    none-refused : refusal_with deck (length memory) delay (length requests) (length state) marking ≡ 0
    unfolding refusal_with
    none-refused = rw (eq-eqb _ 0 h.accepted) small

    seen : IsDeck (seen_deck deck memory delay requests marking) (words_part deck) (rows_part deck) (state_part deck)
        (section_below (deck_seen deck memory delay requests marking) (sample_count deck)) (length requests) (length state) marking
    seen = seen-is-deck deck memory delay requests state marking h.bytes m none-refused

    -- the deck of the lines that the memory gave is ready for the same sum
    pub seen-ready : DeckReady is (seen_deck deck memory delay requests marking) requests state marking
    seen-ready =
        let n = sample_count deck in
        let at = deck_seen deck memory delay requests marking in
        let t = section_below at n in
        let alike : (j : ℕ) → j < n → Alike (sample_at (samples_part deck) (0 + j)) (sample_at t (0 + j)) = λ j l.
        let here : 0 + j ≡ j = omega arith in
        rw (here, section-sample at n j l) (seen_alike deck memory delay requests marking j) in
        let count = seen-count deck memory delay requests state marking h.bytes m none-refused in
        record {
          bytes = seen.bytes;
          accepted = seen.not-refused;
          in_place = rw (seen.words_same, seen.state-same) h.in_place;
          computing = rw (count, seen.samples-same) (computing-alike (samples_part deck) t n 0 is alike h.computing);
          no_rows = seen.rows_same ∙ h.no_rows;
          unmarked = rw seen.state-same h.unmarked;
        }

    -- and its run is what the host is handed back with the memory
    pub handed-with : length is ≤ 32
        → (host_with deck memory delay requests state marking).host ≡ host_of (seen_deck deck memory delay requests marking) requests state marking
    handed-with few =
        let many = computing-length (deck_samples deck) is h.computing in
        let size = samples-length (samples_part deck) (sample_count deck) 0 in
        let told = host-told deck memory delay requests state marking h.bytes m none-refused in
        as-without-memory deck memory delay requests state marking h.bytes m none-refused
        (rw told (few-samples deck memory delay requests marking (omega arith)))

  -- sums and differences: always 0, so many attempts and microcycles, and the state that demand 3 asks for
  pub sum-with-memory : (sign : Sign) (cut : Cut) → Fair cut → DeckReady (instructions_of sign false cut) deck requests state marking
      → HostSummed sign cut deck requests marking (host_with deck memory delay requests state marking).host
  sum-with-memory sign cut f h =
      let is = instructions_of sign false cut in
      let d = seen is h in
      let sum = host-sum sign cut (seen_deck deck memory delay requests marking) requests state marking f (seen-ready is h) in
      rw (handed-with is h (omega (arith, words-few sign cut f)))
      (record { handed = sum.handed; summed = rw (d.words_same, d.state-same) at sum.summed })

  -- subtracting after adding, by one deck with the words of both
  pub back-with-memory : (there back : Cut) → TwoCuts there back → DeckReady (there_and_back there back) deck requests state marking
      → HostBackInOneRun there back deck requests marking (host_with deck memory delay requests state marking).host
  back-with-memory there back two h =
      let is = there_and_back there back in
      let d = seen is h in
      let both = host-back-in-one-run there back (seen_deck deck memory delay requests marking) requests state marking two (seen-ready is h) in
      rw (handed-with is h (both-few there back two))
      (record {
        handed = both.handed;
        registers = rw d.state-same at both.registers;
        run = rw (d.words_same, d.state-same) at both.run;
      })

-- and by a deck with the words of the difference after one with those of the sum, each with a memory of its own
module _ (deck memory : List ℕ) (delay : ℕ) (requests state : List ℕ) (marking : ℕ) (m : Bytes memory)
    (small : memory_refusal_of (length memory) delay ≡ 0)
    (deck' memory' : List ℕ) (delay' : ℕ) (requests' state' : List ℕ) (marking' : ℕ) (m' : Bytes memory')
    (small' : memory_refusal_of (length memory') delay' ≡ 0) where
  pub back-after-memory : (there back : Cut) → TwoCuts there back
      → DeckReady (instructions_of plus false there) deck requests state marking
      → take 26 (state_part deck') ≡ take 26 (host_with deck memory delay requests state marking).host.state
      → DeckReady (instructions_of minus false back) deck' requests' state' marking'
      → HostBackInTwoRuns there back deck requests marking deck' requests' marking' (host_with deck' memory' delay' requests' state' marking').host
  back-after-memory there back two h e h' =
      let is = instructions_of plus false there in
      let is' = instructions_of minus false back in
      let d = seen deck memory delay requests state marking m small is h in
      let d' = seen deck' memory' delay' requests' state' marking' m' small' is' h' in
      let few : length is ≤ 32 = omega (arith, words-few plus there two.fair) in
      let few' : length is' ≤ 32 = omega (arith, words-few minus back (fair_back there back two)) in
      let told = handed-with deck memory delay requests state marking m small is h few in
      let both = host-back-in-two-runs there back (seen_deck deck memory delay requests marking) requests state marking
      (seen_deck deck' memory' delay' requests' marking') requests' state' marking' two
      (seen-ready deck memory delay requests state marking m small is h)
      (rw (d'.state-same, ← told) e)
      (seen-ready deck' memory' delay' requests' state' marking' m' small' is' h') in
      rw (handed-with deck' memory' delay' requests' state' marking' m' small' is' h' few')
      (record {
        handed = both.handed;
        registers = rw d.state-same at both.registers;
        run = rw (d'.words_same, d'.state-same, d.state-same) at both.run;
      })
