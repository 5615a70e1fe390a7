-- A run with a memory, attempt by attempt; and it is the engine's run over the lines that the memory gave, until 17. Assumes nothing.
use Prim.Native.Nat.{ℕ, zero, suc, ◌+◌, ◌<◌}
use mathlib.Core.Path.{◌≡◌, refl, sym, ◌∙◌, ap, subst}
use mathlib.Core.Bool.{Bool, true, false, ◌&&◌}
use mathlib.Core.List.{List, [], ◌∷◌, ◌++◌}
use native.Mathlib.Omega.{arith}
use lib.Dec.{eqb, ltb, leb}
use lib.ListN.{length}
use borrow.Author.Tests.{eq-eqb, ne_eqb, eqb-true, eqb-false, ltb-true, ltb-false}
use Rattle.choose.specs.Ranged.{pick}
use Rattle.attempt.specs.Attempt.{attempt_of}
use Rattle.attempt.specs.Outcome.{Outcome}
use Rattle.bus_memory.specs.Memory.{nothing_kept}
use Rattle.engine.specs.Run.{World, stepped_of, stopped_of, run_from}
use Rattle.engine.proofs.Runs.{run-cons as engine-cons}
use Rattle.memory.specs.Run.{Together, Attempts, seen_by, taken_in, stopped_at, next_of, run_by, run_with}
use Rattle.memory.proofs.Loop.{left_by, run_none, run-cons}
use Rattle.rows.specs.declared.Row.{Row}
use Rattle.run_laws.specs.Laws.{further}
use Rattle.run_laws.proofs.Pieces.{run-pieces}
use Rattle.attempt_laws.proofs.Cases.{attempt-all}
use Rattle.attempt_laws.proofs.Refusal.{executes}
use Rattle.attempt_laws.proofs.Never.{attempt-never, from-seven}
use Rattle.state.specs.File.{Leaves}
use Rattle.state.specs.declared.Core.{Core}
use Rattle.state.specs.declared.Sample.{Sample}
use Rattle.memory_laws.specs.History.{kind, is_transfer, accessed_before, address_before, waits_before}
use Rattle.memory_laws.specs.Attempts.{samples_below, together_after, seen_at, attempt_at, stuck_at, number_at}
use Rattle.memory_laws.specs.Attempts.{Passed, Course, used, stopped, code_before, request_at}
use Rattle.memory_laws.proofs.Kept.{stuck-is}

-- a run over a part of the samples is the beginning of the run, and the rest goes on from there; none of it where the part was refused
module _ (attempt : Attempts) (ws : List ℕ) (delay : ℕ) where
  onward : (b : Bool) (ss ts : List Sample) (t : Together) → eqb t.world.answer 0 ≡ b
      → (t.world.answer ≡ 0 → run_by attempt ws delay (ss ++ ts) t ≡ left_by attempt ws delay ts (run_by attempt ws delay ss t))
      → pick b (run_by attempt ws delay (ss ++ ts) t) t ≡ left_by attempt ws delay ts (pick b (run_by attempt ws delay ss t) t)
  onward true ss ts t e rest = rest (eqb-true t.world.answer 0 e)
  onward false ss ts t e rest = sym (ap (λ (b : Bool). pick b (run_by attempt ws delay ts t) t) e)

  pub first_part : (ss ts : List Sample) (t : Together) → t.world.answer ≡ 0
      → run_by attempt ws delay (ss ++ ts) t ≡ left_by attempt ws delay ts (run_by attempt ws delay ss t)
  first_part [] ts t z =
      sym (ap (left_by attempt ws delay ts) (run_none attempt ws delay t) ∙ ap (λ (b : Bool). pick b (run_by attempt ws delay ts t) t) (eq-eqb _ 0 z))
  first_part (s ∷ ss) ts t z =
      let next = next_of ws delay t (attempt t.world.file t.world.core (seen_by ws t s)) in
      run-cons attempt ws delay s (ss ++ ts) t
      ∙ onward (eqb next.world.answer 0) ss ts next refl (first_part ss ts next)
      ∙ ap (left_by attempt ws delay ts) (sym (run-cons attempt ws delay s ss t))

  -- one sample alone
  one : (s : Sample) (t : Together) → run_by attempt ws delay (s ∷ []) t ≡ next_of ws delay t (attempt t.world.file t.world.core (seen_by ws t s))
  one s t =
      let next = next_of ws delay t (attempt t.world.file t.world.core (seen_by ws t s)) in
      run-cons attempt ws delay s [] t ∙ either (eqb next.world.answer 0) (run_none attempt ws delay next)
    where
      either : {x y : Together} (b : Bool) → x ≡ y → pick b x y ≡ y
      either true e = e
      either false e = refl

  -- where an attempt was refused nothing follows
  stays : (ss : List Sample) (t : Together) (n : ℕ) → (n ≡ 0 → ⊥) → left_by attempt ws delay ss (stopped_at t n) ≡ stopped_at t n
  unfolding stopped_at stopped_of
  stays ss t n h = rw (ne_eqb n 0 h)

-- the first of five tests that all hold
first_of : (a b c d e : Bool) → ((a && b) && c && d && e) ≡ true → a ≡ true
first_of true b c d e h = refl
first_of false b c d e h = h

-- an attempt that waits is not refused
waits-pass : (ws : List ℕ) (rs : List Row) (xs : List ℕ) (k : Core) (s : Sample) → kind (attempt_of ws rs xs k s).back.request ≡ 10
    → (attempt_of ws rs xs k s).back.refusal ≡ 0
waits-pass ws rs xs k s =
    attempt-all (λ (e : Leaves Outcome). kind e.back.request ≡ 10 → e.back.refusal ≡ 0) ws rs xs k s
    (record {
      refuses = λ n is. absurd (omega (arith, is));
      waits = λ is. refl;
      resets = λ is. refl;
      stops = λ is. refl;
      executes = λ w f is. executes xs k w s _;
    })

-- a number that an attempt is refused with, or 0
by_number : (a b : Bool) (t u : Together) (n : ℕ) → eqb n 0 ≡ a → (m : ℕ) → m ≡ pick a (pick b 17 0) n
    → pick a (pick b (stopped_at t 17) u) (stopped_at t n) ≡ pick (eqb m 0) u (stopped_at t m)
by_number true true t u n e m is = rw is
by_number true false t u n e m is = rw is
by_number false b t u n e m is = rw (is, e)

module _ (ws : List ℕ) (rs : List Row) (delay : ℕ) (at : ℕ → Sample) (first : Together) (z : first.world.answer ≡ 0) where
  abbrev after : ℕ → Together
  after = together_after ws rs delay at first

  abbrev number : ℕ → ℕ
  number = number_at ws rs delay at first

  abbrev made : ℕ → Leaves Outcome
  made = attempt_at ws rs delay at first

  pub answer-after : (i : ℕ) → (after i).world.answer ≡ 0
  unfolding together_after taken_in stepped_of
  answer-after zero = z
  answer-after (suc i) = refl

  pub attempts-after : (i : ℕ) → (after i).world.attempts ≡ first.world.attempts + i
  unfolding together_after taken_in stepped_of
  attempts-after zero = omega arith
  attempts-after (suc i) = omega (arith, attempts-after i)

  module _ (begins : first.kept ≡ nothing_kept) where
    next-is : (i : ℕ) → next_of ws delay (after i) (made i) ≡ pick (eqb (number i) 0) (after (suc i)) (stopped_at (after i) (number i))
    unfolding next_of together_after
    next-is i =
        rw (stuck-is ws rs delay at first begins i)
        (by_number (eqb (made i).back.refusal 0) (stuck_at ws rs delay at first i) (after i) (taken_in ws delay (after i) (made i)) (made i).back.refusal refl
        (number i) refl)

    -- one more sample
    more : (b : Bool) (n : ℕ) (v : Together) → eqb (number n) 0 ≡ b → Passed ws rs delay at first n
        → v ≡ pick b (after (suc n)) (stopped_at (after n) (number n)) → Course ws rs delay at first (suc n) v
    more true n v e passed is = used (λ j l. last j l (ltb j n) refl) is
      where
        last : (j : ℕ) → j < suc n → (t : Bool) → ltb j n ≡ t → number j ≡ 0
        last j l true s = passed j (ltb-true j n s)
        last j l false s = ap number (omega (arith, ltb-false j n s)) ∙ eqb-true (number n) 0 e
    more false n v e passed is = stopped n (omega arith) passed (eqb-false (number n) 0 e) is

    went_on : (n : ℕ) (v : Together) → Course ws rs delay at first n v
        → Course ws rs delay at first (suc n) (left_by (attempt_of ws rs) ws delay (at n ∷ []) v)
    went_on n v (used passed is) =
        let alone = ap (λ (b : Bool). pick b (run_by (attempt_of ws rs) ws delay (at n ∷ []) (after n)) (after n)) (eq-eqb _ 0 (answer-after n)) in
        more (eqb (number n) 0) n _ refl passed
        (ap (left_by (attempt_of ws rs) ws delay (at n ∷ [])) is ∙ alone ∙ one (attempt_of ws rs) ws delay (at n) (after n) ∙ next-is n)
    went_on n v (stopped i l passed refused is) =
        stopped i (omega arith) passed refused
        (ap (left_by (attempt_of ws rs) ws delay (at n ∷ [])) is ∙ stays (attempt_of ws rs) ws delay (at n ∷ []) (after i) (number i) refused)

    pub ran : (n : ℕ) → Course ws rs delay at first n (run_with ws rs delay (samples_below at n) first)
    unfolding samples_below together_after
    ran zero = used (λ j l. absurd (omega (arith, l))) (run_none (attempt_of ws rs) ws delay first)
    ran (suc n) =
        subst (Course ws rs delay at first (suc n)) (sym (first_part (attempt_of ws rs) ws delay (samples_below at n) (at n ∷ []) first z))
        (went_on n (run_with ws rs delay (samples_below at n) first) (ran n))

    -- "17 in place of a 33rd .. wait", exactly
    pub stuck-number : (i : ℕ) → number i ≡ 17 → ((made i).back.refusal ≡ 0) × (stuck_at ws rs delay at first i ≡ true)
    stuck-number i is = go (eqb (made i).back.refusal 0) (stuck_at ws rs delay at first i) refl refl is
      where
        go : (a b : Bool) → eqb (made i).back.refusal 0 ≡ a → stuck_at ws rs delay at first i ≡ b → pick a (pick b 17 0) (made i).back.refusal ≡ 17
            → ((made i).back.refusal ≡ 0) × (stuck_at ws rs delay at first i ≡ true)
        go true true e s h = (eqb-true _ 0 e, s)
        go true false e s h = absurd (omega (arith, h))
        go false b e s h = absurd (attempt-never 17 (from-seven 17 (omega arith) (λ n. omega (arith, n))) ws rs _ _ _ h)

    -- an attempt that is stuck waits, and so is not refused by 5-8
    stuck-waits : (i : ℕ) → stuck_at ws rs delay at first i ≡ true → (made i).back.refusal ≡ 0
    stuck-waits i stuck =
        let size = leb (length first.bytes) (address_before (request_at ws rs delay at first) i) in
        let long = leb 32 (waits_before (code_before ws rs delay at first) (request_at ws rs delay at first) i) in
        let waits = first_of (eqb (kind (made i).back.request) 10) (is_transfer (code_before ws rs delay at first i)) long
        (accessed_before (request_at ws rs delay at first) i) size stuck in
        waits-pass ws rs _ _ _ (eqb-true _ 10 waits)

    -- the number of an attempt that is stuck
    number-17 : (i : ℕ) → stuck_at ws rs delay at first i ≡ true → number i ≡ 17
    number-17 i stuck = rw (eq-eqb _ 0 (stuck-waits i stuck), stuck)

    -- where 17 comes: attempt i, all before it passed
    pub record Stuck (n : ℕ) (v : Together) : Type 0 where
      pub i : ℕ
      pub sample : i < n
      pub passed : Passed ws rs delay at first i
      pub stuck : stuck_at ws rs delay at first i ≡ true
      pub left : v ≡ stopped_at (after i) 17

    only : (n : ℕ) (v : Together) → Course ws rs delay at first n v → v.world.answer ≡ 17 → Stuck n v
    unfolding stopped_at stopped_of
    only n v (used passed is) h = absurd (omega (arith, sym h ∙ ap (λ (t : Together). t.world.answer) is ∙ answer-after n))
    only n v (stopped i l passed refused is) h =
        let e : number i ≡ 17 = sym (ap (λ (t : Together). t.world.answer) is) ∙ h in
        record { i = i; sample = l; passed = passed; stuck = (stuck-number i e).1; left = is ∙ ap (stopped_at (after i)) e }

    there : (n : ℕ) (v : Together) → Course ws rs delay at first n v → (i : ℕ) → i < n → Passed ws rs delay at first i → number i ≡ 17
        → v ≡ stopped_at (after i) 17
    there n v (used all is) i l passed e = absurd (omega (arith, sym (all i l) ∙ e))
    there n v (stopped j m before refused is) i l passed e = go (ltb j i) (ltb i j) refl refl
      where
        go : (a b : Bool) → ltb j i ≡ a → ltb i j ≡ b → v ≡ stopped_at (after i) 17
        go true b x y = absurd (refused (passed j (ltb-true j i x)))
        go false true x y = absurd (omega (arith, sym (before i (ltb-true i j y)) ∙ e))
        go false false x y =
            let same : j ≡ i = omega (arith, ltb-false j i x, ltb-false i j y) in
            is ∙ ap (λ (k : ℕ). stopped_at (after k) (number k)) same ∙ ap (stopped_at (after i)) e

    -- it comes only there, and wherever that is
    pub seventeen-only : (n : ℕ) → let v = run_with ws rs delay (samples_below at n) first in v.world.answer ≡ 17 → Stuck n v
    seventeen-only n = only n _ (ran n)

    pub seventeen-there : (n i : ℕ) → i < n → Passed ws rs delay at first i → stuck_at ws rs delay at first i ≡ true
        → run_with ws rs delay (samples_below at n) first ≡ stopped_at (after i) 17
    seventeen-there n i l passed stuck = there n _ (ran n) i l passed (number-17 i stuck)

    -- ---- without 17 it is the engine's run over the lines that the memory gave

    abbrev seen : ℕ → Sample
    seen = seen_at ws rs delay at first

    free_of : (i : ℕ) → number i ≡ 0 → (made i).back.refusal ≡ 0
    free_of i h = go (eqb (made i).back.refusal 0) refl
      where
        go : (a : Bool) → eqb (made i).back.refusal 0 ≡ a → (made i).back.refusal ≡ 0
        go true e = eqb-true _ 0 e
        go false e = rw e at h

    pub passed-run : (i : ℕ) → Passed ws rs delay at first i → run_from ws rs (samples_below seen i) first.world ≡ (after i).world
    unfolding samples_below run_from together_after taken_in
    passed-run zero passed = refl
    passed-run (suc i) passed =
        let e = free_of i (passed i (omega arith)) in
        run-pieces ws rs (samples_below seen i) (seen i ∷ []) first.world z
        ∙ ap (further ws rs (seen i ∷ [])) (passed-run i (λ j l. passed j (omega arith)))
        ∙ rw (eq-eqb _ 0 (answer-after i)) (engine-cons ws rs (seen i) [] (after i).world (made i) refl e)

    -- a refusal by 5-8 is the engine's own
    module _ (i : ℕ) (passed : Passed ws rs delay at first i) (h : (made i).back.refusal ≡ 0 → ⊥) where
      abbrev end : World
      end = stopped_of (after i).world (made i).back.refusal

      refused-there : run_from ws rs (samples_below seen (suc i)) first.world ≡ end
      unfolding samples_below run_from
      refused-there =
          run-pieces ws rs (samples_below seen i) (seen i ∷ []) first.world z
          ∙ ap (further ws rs (seen i ∷ [])) (passed-run i passed)
          ∙ rw (eq-eqb _ 0 (answer-after i), ne_eqb _ 0 h)

      ended : (s : Sample) → further ws rs (s ∷ []) end ≡ end
      unfolding stopped_of
      ended s = rw (ne_eqb _ 0 h)

      refused-run : (n : ℕ) → i < n → run_from ws rs (samples_below seen n) first.world ≡ end
      unfolding samples_below
      refused-run zero l = absurd (omega (arith, l))
      refused-run (suc n) l = go (ltb i n) refl (refused-run n)
        where
          go : (b : Bool) → ltb i n ≡ b → (i < n → run_from ws rs (samples_below seen n) first.world ≡ end)
              → run_from ws rs (samples_below seen (suc n)) first.world ≡ end
          go true e before =
              run-pieces ws rs (samples_below seen n) (seen n ∷ []) first.world z ∙ ap (further ws rs (seen n ∷ [])) (before
              (ltb-true i n e)) ∙ ended (seen n)
          go false e before =
              let same : n ≡ i = omega (arith, l, ltb-false i n e) in
              ap (λ (k : ℕ). run_from ws rs (samples_below seen (suc k)) first.world) same ∙ refused-there

    -- a number that is not 17 is the attempt's own
    own-number : (i : ℕ) → (number i ≡ 0 → ⊥) → (number i ≡ 17 → ⊥) → ((made i).back.refusal ≡ 0 → ⊥) × (number i ≡ (made i).back.refusal)
    own-number i h k = go (eqb (made i).back.refusal 0) (stuck_at ws rs delay at first i) refl h k
      where
        go : (a b : Bool) → eqb (made i).back.refusal 0 ≡ a → (pick a (pick b 17 0) (made i).back.refusal ≡ 0 → ⊥)
            → (pick a (pick b 17 0) (made i).back.refusal ≡ 17 → ⊥)
            → ((made i).back.refusal ≡ 0 → ⊥) × (pick a (pick b 17 0) (made i).back.refusal ≡ (made i).back.refusal)
        go true true e x y = absurd (y refl)
        go true false e x y = absurd (x refl)
        go false b e x y = (x, refl)

    engine : (n : ℕ) (v : Together) → Course ws rs delay at first n v → (v.world.answer ≡ 17 → ⊥)
        → v.world ≡ run_from ws rs (samples_below seen n) first.world
    unfolding stopped_at stopped_of
    engine n v (used passed is) h = ap (λ (t : Together). t.world) is ∙ sym (passed-run n passed)
    engine n v (stopped i l passed refused is) h =
        let own = own-number i refused (λ e. h (ap (λ (t : Together). t.world.answer) is ∙ e)) in
        ap (λ (t : Together). t.world) is ∙ ap (stopped_of (after i).world) own.1 ∙ sym (refused-run i passed own.0 n l)

    -- every answer but 17 is the engine's, with its state, counts and places
    pub engine-run : (n : ℕ) → let v = run_with ws rs delay (samples_below at n) first in (v.world.answer ≡ 17 → ⊥)
        → v.world ≡ run_from ws rs (samples_below seen n) first.world
    engine-run n = engine n _ (ran n)

    -- and 17 ends the engine's run over the lines up to there
    pub engine-until : (n : ℕ) (v : Together) (s : Stuck n v) → v.world ≡ stopped_of (run_from ws rs (samples_below seen s.i) first.world) 17
    unfolding stopped_at
    engine-until n v s = ap (λ (t : Together). t.world) s.left ∙ ap (λ (w : World). stopped_of w 17) (sym (passed-run s.i s.passed))
