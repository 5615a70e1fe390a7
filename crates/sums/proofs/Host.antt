-- Demand 3 of what the bench host is handed back: `engine::run` is proved to give it `host_of`. Assumes nothing.
use Prim.Native.Nat.{ℕ, suc, ◌+◌, ◌*◌, ◌/◌, ◌≤◌}
use mathlib.Core.Path.{◌≡◌, refl, sym, ap, ◌∙◌}
use mathlib.Core.Bool.{false}
use mathlib.Core.List.{List, [], ◌∷◌}
use native.Mathlib.Omega.{arith}
use lib.ListN.{length, take}
use lib.Seq.{take-append-le}
use Rattle.deck.proofs.Laws.{accepted, section-bytes, word_below}
use Rattle.deck.specs.Ranges.{Accepted}
use Rattle.deck.specs.Sections.{layout_of, words_part, rows_part, state_part, samples_part}
use Rattle.engine.proofs.Hosts.{answers}
use Rattle.engine.proofs.Runs.{samples-length}
use Rattle.engine.specs.Host.{Hosted, hosted, reported, deck_run, host_of}
use Rattle.engine.specs.Run.{World, run_from}
use Rattle.rows.specs.Section.{rows_of}
use Rattle.run_laws.proofs.Marking.{run-marking}
use Rattle.state.specs.Marking.{marking_of}
use Rattle.state.specs.Range.{InRange}
use Rattle.state.specs.declared.Sample.{Sample}
use Rattle.state_bytes.proofs.Laws.{stored_bytes, bytes-length, bytes_back, file-back, core-back, file-length, state-in-range}
use Rattle.state_bytes.specs.Bytes.{state_bytes, file_of, core_of, bytes_of}
use Rattle.sums.specs.Host.{deck_samples, deck_start, DeckReady, handed_back, Handed, HostSummed, HostBackInOneRun, HostBackInTwoRuns}
use Rattle.sums.specs.Sums.{Cut, Sign, byte_count, instructions_of, Computing, Fair, Ready, Advanced}
use Rattle.sums.specs.Sums.{TwoCuts, there_and_back, BackInOneRun, BackInTwoRuns}
use Rattle.sums.specs.Sums.Sign.{plus, minus}
use Rattle.sums.proofs.Theorem.{sum-theorem, back-in-one-run, back-in-two-runs}

-- the deck's run, without rows
abbrev sum_run : List ℕ → List ℕ → ℕ → World
sum_run deck requests marking = run_from (words_part deck) [] (deck_samples deck) (deck_start deck requests marking)

run_is : (deck requests : List ℕ) (marking : ℕ) → rows_part deck ≡ [] → deck_run deck requests (marking_of marking) ≡ sum_run deck requests marking
unfolding deck_run rows_of
run_is deck requests marking e = rw e

pub computing-length : (ss : List Sample) (is : List ℕ) → Computing ss is → length ss ≡ length is
computing-length [] [] c = refl
computing-length [] (i ∷ is) c = absurd c
computing-length (s ∷ ss) [] c = absurd c
computing-length (s ∷ ss) (i ∷ is) c = ap suc (computing-length ss is c.2)

-- the registers are the first bytes
first-bytes : (s : List ℕ) → length s ≡ state_bytes → file_of s ≡ take 26 s
unfolding file_of
first-bytes s e = let enough : 26 ≤ length s = omega arith in rw take-append-le

module _ (is deck requests state : List ℕ) (marking : ℕ) (h : DeckReady is deck requests state marking) where
  let-in : Accepted deck (length requests) (length state) marking
  let-in = accepted deck (length requests) (length state) marking h.accepted

  inside : InRange (file_of (state_part deck)) (core_of (state_part deck) (marking_of marking))
  inside = state-in-range (state_part deck) (marking_of marking) (section-bytes deck (layout_of deck).state state_bytes h.bytes) let-in.state

  pub state-size : length (state_part deck) ≡ state_bytes
  state-size =
      let s = state_part deck in
      ap length (sym (bytes_back s (marking_of marking) (section-bytes deck (layout_of deck).state state_bytes h.bytes) let-in.state))
      ∙ bytes-length (file_of s) (core_of s (marking_of marking)) (file-length s)

  -- what is not refused is in range and has a place for each request
  pub ready : Ready is (words_part deck) (deck_samples deck) (deck_start deck requests marking)
  ready =
      let many = computing-length (deck_samples deck) is h.computing in
      record {
        words = word_below (words_part deck) let-in.words;
        file = inside.size;
        bytes = inside.bytes;
        lc = inside.lc;
        places = omega (arith, many, samples-length (samples_part deck) (length (samples_part deck) / 4) 0, let-in.places);
        in_place = h.in_place;
        computing = h.computing;
        unmarked = h.unmarked;
        unmodified = inside.unmarked h.unmarked;
      }

  -- all that is handed back is of that run
  pub handed : let w = sum_run deck requests marking in
      host_of deck requests state marking ≡ hosted (reported w.answer w.attempts w.microcycles) w.buffer (bytes_of w.file w.core)
  handed =
      let w = sum_run deck requests marking in
      sym (answers deck requests state marking h.accepted w (sym (run_is deck requests marking h.no_rows)))
      ∙ ap (hosted (reported w.answer w.attempts w.microcycles) w.buffer) (stored_bytes w.file w.core state let-in.buffer-length)

  same-marking : (sum_run deck requests marking).core.marking ≡ marking_of marking
  unfolding core_of
  same-marking = run-marking (words_part deck) [] (deck_samples deck) (deck_start deck requests marking)

  module _ (size : length (sum_run deck requests marking).file ≡ 26) where
    -- its bytes, read again, are that run's state
    pub handed-back : handed_back marking (host_of deck requests state marking) ≡ sum_run deck requests marking
    handed-back =
        let w = sum_run deck requests marking in
        rw (handed, file-back w.file w.core size, rw same-marking at (core-back w.file w.core size))

    pub handed-as : (n c : ℕ) → Advanced n c (words_part deck) (deck_start deck requests marking) (sum_run deck requests marking)
        → Handed n c marking (host_of deck requests state marking)
    handed-as n c a =
        let w = sum_run deck requests marking in
        let attempts : w.attempts ≡ n = omega (arith, a.attempts) in
        let spent : w.microcycles ≡ c = omega (arith, a.spent) in
        record {
          report = ap (λ (x : Hosted). x.report) handed ∙ rw (a.answer, attempts, spent);
          state = ap (λ (x : Hosted). x.state) handed ∙ sym (ap (λ (v : World). bytes_of v.file v.core) handed-back);
          size = ap (λ (x : Hosted). length x.state) handed ∙ bytes-length w.file w.core size;
        }

-- a deck of a sum or of a difference is not refused, its answer is 0, the attempts are the cut's, the microcycles k, and the state is the one that
-- demand 3 asks for: always refusing, a fixed answer, a state that is left, and idling after the first attempt all fail here
pub host-sum : (sign : Sign) (cut : Cut) (deck requests state : List ℕ) (marking : ℕ) → Fair cut
    → DeckReady (instructions_of sign false cut) deck requests state marking
    → HostSummed sign cut deck requests marking (host_of deck requests state marking)
host-sum sign cut deck requests state marking f h =
    let is = instructions_of sign false cut in
    let sum = sum-theorem sign cut (words_part deck) (deck_samples deck) (deck_start deck requests marking) f (ready is deck requests state marking h) in
    record {
      handed = handed-as is deck requests state marking h sum.file (length cut) (byte_count cut) sum.advanced;
      summed = rw (handed-back is deck requests state marking h sum.file) sum;
    }

-- ---- subtracting after adding

-- registers that are the deck's again as a state are so as bytes
same_bytes_lem : (s t : List ℕ) → length s ≡ state_bytes → length t ≡ state_bytes → file_of s ≡ file_of t → take 26 s ≡ take 26 t
same_bytes_lem s t l l' e = sym (first-bytes s l) ∙ e ∙ first-bytes t l'

-- one deck with the words of both
pub host-back-in-one-run : (there back : Cut) (deck requests state : List ℕ) (marking : ℕ) → TwoCuts there back
    → DeckReady (there_and_back there back) deck requests state marking
    → HostBackInOneRun there back deck requests marking (host_of deck requests state marking)
host-back-in-one-run there back deck requests state marking two h =
    let is = there_and_back there back in
    let start = deck_start deck requests marking in
    let both = back-in-one-run there back (words_part deck) (deck_samples deck) start two (ready is deck requests state marking h) in
    let size : length (sum_run deck requests marking).file ≡ 26 = ap length both.restored.registers ∙ file-length (state_part deck) in
    let over = handed-as is deck requests state marking h size (length there + length back) (2 * byte_count there) both.advanced in
    let run : BackInOneRun there back (words_part deck) start (handed_back marking (host_of deck requests state marking))
    = rw (handed-back is deck requests state marking h size) both in
    record {
      handed = over;
      registers = same_bytes_lem _ _ over.size (state-size is deck requests state marking h) run.restored.registers;
      run = run;
    }

-- a deck with the words of the sum; and the next, with those of the difference and with the registers that were handed back
pub host-back-in-two-runs : (there back : Cut) (deck requests state : List ℕ) (marking : ℕ) (deck' requests' state' : List ℕ) (marking' : ℕ)
    → TwoCuts there back
    → DeckReady (instructions_of plus false there) deck requests state marking
    → take 26 (state_part deck') ≡ take 26 (host_of deck requests state marking).state
    → DeckReady (instructions_of minus false back) deck' requests' state' marking'
    → HostBackInTwoRuns there back deck requests marking deck' requests' marking' (host_of deck' requests' state' marking')
host-back-in-two-runs there back deck requests state marking deck' requests' state' marking' two h e h' =
    let is = instructions_of plus false there in
    let is' = instructions_of minus false back in
    let start = deck_start deck requests marking in
    let start' = deck_start deck' requests' marking' in
    let sum = sum-theorem plus there (words_part deck) (deck_samples deck) start two.fair (ready is deck requests state marking h) in
    let first = handed-as is deck requests state marking h sum.file (length there) (byte_count there) sum.advanced in
    let again : file_of (state_part deck') ≡ (sum_run deck requests marking).file
    = first-bytes (state_part deck') (state-size is' deck' requests' state' marking' h')
    ∙ e
    ∙ sym (first-bytes (host_of deck requests state marking).state first.size)
    ∙ ap (λ (w : World). w.file) (handed-back is deck requests state marking h sum.file) in
    let both = back-in-two-runs there back (words_part deck) (deck_samples deck) start (words_part deck') (deck_samples deck') start' two
    (ready is deck requests state marking h) again (ready is' deck' requests' state' marking' h') in
    let size : length (sum_run deck' requests' marking').file ≡ 26 = ap length both.restored.registers ∙ file-length (state_part deck) in
    let over = handed-as is' deck' requests' state' marking' h' size (length back) (byte_count there) both.advanced in
    let run : BackInTwoRuns there back (words_part deck') start start' (handed_back marking' (host_of deck' requests' state' marking'))
    = rw (handed-back is' deck' requests' state' marking' h' size) both in
    record {
      handed = over;
      registers = same_bytes_lem _ _ over.size (state-size is deck requests state marking h) run.restored.registers;
      run = run;
    }
