-- The theorems of runs with a memory, of what the bench host is handed back: `memory::run_with_memory` is proved to give it `host_with`. The history is
-- read from
-- the request buffer alone. Assumes nothing.
use Prim.Native.Nat.{ℕ, ◌+◌, ◌*◌, ◌<◌, ◌≤◌}
use mathlib.Core.Path.{◌≡◌, refl, sym, ◌∙◌, ap, subst}
use mathlib.Core.Bool.{true}
use mathlib.Core.List.{List}
use native.Mathlib.Omega.{arith}
use lib.ListN.{length, get_or}
use borrow.Author.Tests.{eq-eqb, ne_eqb}
use Rattle.bus_memory.specs.Memory.{even_of, memory_refusal_of}
use Rattle.bus_memory.proofs.Laws.{accepts}
use Rattle.deck.specs.Elements.{sample_at}
use Rattle.deck.specs.Ranges.{deck_refusal_of}
use Rattle.deck.specs.Sections.{words_part, samples_part}
use Rattle.engine.proofs.Hosts.{places}
use Rattle.engine.specs.Host.{hosted, reported}
use Rattle.engine.specs.Run.{stopped_of}
use Rattle.memory.proofs.Hosts.{answers}
use Rattle.memory.specs.Host.{Remembered, remembered, refusal_with, deck_run_with, host_with}
use Rattle.memory.specs.Run.{Together, stopped_at}
use Rattle.numbers.specs.Numbers.{Bytes, quad_at}
use Rattle.run_laws.specs.Returned.{deck_rows, sample_count}
use Rattle.state_bytes.specs.Bytes.{stored_of}
use Rattle.state.specs.Marking.{marking_of}
use Rattle.memory_laws.specs.History.{kind, value, accessed_before, address_before, byte_before}
use Rattle.memory_laws.specs.Attempts.{together_after, request_at, Course, used, stopped, Passed, stuck_at}
use Rattle.memory_laws.specs.Decks.{deck_start}
use Rattle.memory_laws.proofs.History.{input-takes}
use Rattle.memory_laws.proofs.Kept.{bytes-are, size-stays}
use Rattle.memory_laws.proofs.Places.{placed, same-access, same_address, same_byte}
use Rattle.memory_laws.proofs.Ran.{attempts-after, ran, Stuck, seventeen-only, seventeen-there}
use Rattle.memory_laws.proofs.Range.{request-fair}
use Rattle.memory_laws.proofs.Seen.{both-accepted, rows-good, first-fair, samples-fair, run_is}

-- "16 .. after 4": what refuses the deck comes first, and then the memory is asked about
pub deck-first : (deck : List ℕ) (size delay requests state marking : ℕ) → (deck_refusal_of deck requests state marking ≡ 0 → ⊥)
    → refusal_with deck size delay requests state marking ≡ deck_refusal_of deck requests state marking
unfolding refusal_with
deck-first deck size delay requests state marking h = rw (ne_eqb _ 0 h)

pub then-memory : (deck : List ℕ) (size delay requests state marking : ℕ) → deck_refusal_of deck requests state marking ≡ 0
    → refusal_with deck size delay requests state marking ≡ memory_refusal_of size delay
unfolding refusal_with
then-memory deck size delay requests state marking h = rw (eq-eqb _ 0 h)

-- 9, 24, 1-4 and 16 "return no attempts and no microcycles and change nothing, the memory included"
pub untouched : (deck memory : List ℕ) (delay : ℕ) (requests state : List ℕ) (marking : ℕ)
    → let number = refusal_with deck (length memory) delay (length requests) (length state) marking in (number ≡ 0 → ⊥)
    → host_with deck memory delay requests state marking ≡ remembered (hosted (reported number 0 0) requests state) memory
unfolding host_with
untouched deck memory delay requests state marking h = rw (ne_eqb _ 0 h)

module _ (deck memory : List ℕ) (delay : ℕ) (requests state : List ℕ) (marking : ℕ) (b : Bytes deck) (m : Bytes memory)
    (h : refusal_with deck (length memory) delay (length requests) (length state) marking ≡ 0) where
  abbrev back : Remembered
  back = host_with deck memory delay requests state marking

  -- the history that the host reads in its buffer: the request of each attempt
  abbrev pub history : ℕ → ℕ
  history j = quad_at back.host.requests (j * 4)

  abbrev attempts : ℕ
  attempts = back.host.report.attempts

  abbrev first : Together
  first = deck_start deck memory requests marking

  abbrev after : ℕ → Together
  after = together_after (words_part deck) (deck_rows deck) delay (sample_at (samples_part deck)) first

  abbrev r : ℕ → ℕ
  r = request_at (words_part deck) (deck_rows deck) delay (sample_at (samples_part deck)) first

  abbrev run : Together
  run = deck_run_with deck memory delay requests (marking_of marking)

  -- what is handed back is of the run
  of-run : back
      ≡ remembered (hosted (reported run.world.answer run.world.attempts run.world.microcycles) run.world.buffer
      (stored_of run.world.file run.world.core state)) run.bytes
  of-run =
      sym (answers deck memory delay requests state marking (both-accepted deck memory delay requests state marking b m h).0
      (both-accepted deck memory delay requests state marking b m h).1 run refl)

  run-back : (back.memory ≡ run.bytes) × (back.host.requests ≡ run.world.buffer) × (attempts ≡ run.world.attempts)
  run-back =
      (ap (λ (x : Remembered). x.memory) of-run, ap (λ (x : Remembered). x.host.requests) of-run, ap (λ (x : Remembered). x.host.report.attempts) of-run)

  course : Course (words_part deck) (deck_rows deck) delay (sample_at (samples_part deck)) first (sample_count deck) run
  course =
      subst (Course (words_part deck) (deck_rows deck) delay (sample_at (samples_part deck)) first (sample_count deck))
      (sym (run_is deck memory delay requests state marking b m h))
      (ran (words_part deck) (deck_rows deck) delay (sample_at (samples_part deck)) first refl refl (sample_count deck))

  -- so many attempts were made, and what is handed back is what they left
  record Made (v : Together) : Type 0 where
    pub few : v.world.attempts ≤ sample_count deck
    pub bytes : v.bytes ≡ (after v.world.attempts).bytes
    pub buffer : v.world.buffer ≡ (after v.world.attempts).world.buffer

  counted : (i : ℕ) → (after i).world.attempts ≡ i
  counted i = attempts-after (words_part deck) (deck_rows deck) delay (sample_at (samples_part deck)) first refl i ∙ omega arith

  made_by : (v : Together) → Course (words_part deck) (deck_rows deck) delay (sample_at (samples_part deck)) first (sample_count deck) v → Made v
  unfolding stopped_at stopped_of
  made_by v (used passed is) =
      let e = counted (sample_count deck) in
      subst Made (sym is) (record {
        few = omega (arith, e);
        bytes = ap (λ (k : ℕ). (after k).bytes) (sym e);
        buffer = ap (λ (k : ℕ). (after k).world.buffer) (sym e);
      })
  made_by v (stopped i l passed refused is) =
      let e = counted i in
      subst Made (sym is) (record {
        few = omega (arith, e);
        bytes = ap (λ (k : ℕ). (after k).bytes) (sym e);
        buffer = ap (λ (k : ℕ). (after k).world.buffer) (sym e);
      })

  made : Made run
  made = made_by run course

  few : attempts ≤ sample_count deck
  few = rw run-back.2 made.few

  -- the buffer's history is that of the attempts
  agrees : (j : ℕ) → j < attempts → history j ≡ r j
  agrees j l =
      let room = (places deck (length requests) (length state) marking (both-accepted deck memory delay requests state marking b m h).0).1 in
      let small : (j : ℕ) → j < sample_count deck → r j < 4294967296 = λ k q.
      omega (
        arith,
        request-fair (words_part deck) (deck_rows deck) delay (sample_at (samples_part deck)) first
            (rows-good deck memory delay requests state marking b m h) (first-fair deck memory delay requests state marking b m h) (sample_count deck)
            (samples-fair deck memory delay requests state marking b m h) k q,
      ) in
      ap (λ (x : List ℕ). quad_at x (j * 4)) (run-back.1 ∙ made.buffer)
      ∙ placed (words_part deck) (deck_rows deck) delay (sample_at (samples_part deck)) first refl refl (sample_count deck) room small run.world.attempts j
      made.few (rw run-back.2 at l)

  -- "Each IB or IW returns the last bytes stored there in the history, or the starting ones, and bytes that no OB or OW went to stay as they were": the byte
  -- at an address
  pub host-bytes : (x : ℕ) → x < length memory → get_or back.memory x 0 ≡ byte_before history x (get_or memory x 0) attempts
  host-bytes x inside =
      rw (run-back.0, made.bytes, ← run-back.2)
      (bytes-are (words_part deck) (deck_rows deck) delay (sample_at (samples_part deck)) first refl x inside attempts
      ∙ sym (same_byte history r x (get_or memory x 0) attempts agrees))

  pub host-size : length back.memory ≡ length memory
  host-size = rw (run-back.0, made.bytes) (size-stays (words_part deck) (deck_rows deck) delay (sample_at (samples_part deck)) first run.world.attempts)

  -- and what each input takes: the word at the kept address, its lowest bit ignored, low byte at the even address
  pub host-inputs : (j : ℕ) → j < attempts → kind (history j) ≡ 5 → let a = address_before history j in
      (accessed_before history j ≡ true) × (a < length memory)
      × (value (history j)
      ≡ byte_before history (even_of a) (get_or memory (even_of a) 0) j + 256 * byte_before history (even_of a + 1) (get_or memory (even_of a + 1) 0) j)
  host-inputs j l five =
      let below : (k : ℕ) → k < j → history k ≡ r k = λ k q. agrees k (omega arith) in
      let a = address_before r j in
      let taken = input-takes (words_part deck) (deck_rows deck) delay (sample_at (samples_part deck)) first refl
      (rows-good deck memory delay requests state marking b m h) (first-fair deck memory delay requests state marking b m h)
      (accepts (length memory) delay (both-accepted deck memory delay requests state marking b m h).1).0 (sample_count deck)
      (samples-fair deck memory delay requests state marking b m h) j (omega (arith, few)) (sym (ap kind (agrees j l)) ∙ five) in
      rw (
        same-access history r j below,
        same_address history r j below,
        agrees j l,
        same_byte history r (even_of a) (get_or memory (even_of a) 0) j below,
        same_byte history r (even_of a + 1) (get_or memory (even_of a + 1) 0) j below,
      ) taken

  -- ---- 17 of what is handed back: exactly where the run is stuck, with the state, the counts and the places that the attempts before left
  abbrev StuckIn : Together → Type 0
  StuckIn = Stuck (words_part deck) (deck_rows deck) delay (sample_at (samples_part deck)) first refl refl (sample_count deck)

  pub host-seventeen : back.host.report.answer ≡ 17 → StuckIn run
  host-seventeen is =
      subst StuckIn (sym (run_is deck memory delay requests state marking b m h))
      (seventeen-only (words_part deck) (deck_rows deck) delay (sample_at (samples_part deck)) first refl refl (sample_count deck)
      (rw (run_is deck memory delay requests state marking b m h) at (sym (ap (λ (x : Remembered). x.host.report.answer) of-run) ∙ is)))

  pub host-seventeen-left : (s : StuckIn run)
      → (attempts ≡ s.i) × (back.memory ≡ (after s.i).bytes) × (back.host.requests ≡ (after s.i).world.buffer)
      × (back.host.state ≡ stored_of (after s.i).world.file (after s.i).world.core state)
  unfolding stopped_at stopped_of
  host-seventeen-left s = (
    run-back.2 ∙ ap (λ (t : Together). t.world.attempts) s.left ∙ counted s.i,
    run-back.0 ∙ ap (λ (t : Together). t.bytes) s.left,
    run-back.1 ∙ ap (λ (t : Together). t.world.buffer) s.left,
    ap (λ (x : Remembered). x.host.state) of-run ∙ ap (λ (t : Together). stored_of t.world.file t.world.core state) s.left,
  )

  pub host-seventeen-there : (i : ℕ) → i < sample_count deck → Passed (words_part deck) (deck_rows deck) delay (sample_at (samples_part deck)) first i
      → stuck_at (words_part deck) (deck_rows deck) delay (sample_at (samples_part deck)) first i ≡ true → back.host.report.answer ≡ 17
  unfolding stopped_at stopped_of
  host-seventeen-there i l passed stuck =
      ap (λ (x : Remembered). x.host.report.answer) of-run
      ∙ ap (λ (t : Together). t.world.answer) (run_is deck memory delay requests state marking b m h
      ∙ seventeen-there (words_part deck) (deck_rows deck) delay (sample_at (samples_part deck)) first refl refl (sample_count deck) i l passed stuck)
