-- What a run makes of its samples, attempt by attempt.
-- Assumes nothing.
use mathlib.Core.Path.{◌≡◌, refl, ap, ap₂, sym, ◌∙◌}
use mathlib.Core.Bool.{Bool, true, false}
use mathlib.Core.List.{List, [], ◌∷◌}
use Prim.Native.Nat.{ℕ, zero, suc, ◌+◌, ◌*◌, ◌<◌, ◌≤◌}
use native.Mathlib.Omega.{arith}
use borrow.Author.Tests.{eqb-true, eqb-false}
use lib.Dec.{eqb}
use lib.ListN.{length, get_or}
use Rattle.attempt.specs.Attempt.{attempt_of}
use Rattle.attempt.specs.Outcome.{Outcome}
use Rattle.choose.specs.Ranged.{pick}
use Rattle.engine.specs.Run.{World, put4_of, stepped_of, stopped_of, run_from}
use Rattle.engine.proofs.Places.{put-quad, put-length}
use Rattle.numbers.specs.Numbers.{quad_at}
use Rattle.numbers.proofs.Laws.{quad-same}
use Rattle.rows.specs.declared.Row.{Row}
use Rattle.state.specs.File.{Leaves}
use Rattle.state.specs.declared.Core.{Core}
use Rattle.state.specs.declared.Sample.{Sample}
use Rattle.run_laws.specs.Attempts.{sum_below, attempt_from, left_by, state_after, attempt_at, state_of, Ran}
use Rattle.run_laws.proofs.Places.{run-places}

abbrev cycles_of : Leaves Outcome → ℕ
cycles_of e = e.back.cycles

-- the first of a sum, and the others
sum_first : (n : ℕ) (f g : ℕ → ℕ) → ((j : ℕ) → f (suc j) ≡ g j) → sum_below (suc n) f ≡ f 0 + sum_below n g
sum_first zero f g e = omega arith
sum_first (suc n) f g e = omega (arith, sum_first n f g e, e n)

module _ (ws : List ℕ) (rs : List Row) where
  -- the attempts after the first are those from what it left
  state-shift : (at : ℕ → Sample) (x : Leaves Core) (i : ℕ) → state_after ws rs at x (suc i) ≡ state_after ws rs (λ j. at (suc j)) (state_after ws rs at x 1) i
  unfolding state_after
  state-shift at x zero = refl
  state-shift at x (suc i) = ap (λ (y : Leaves Core). left_by (attempt_from ws rs y (at (suc i)))) (state-shift at x i)

  attempt-shift : (at : ℕ → Sample) (x : Leaves Core) (i : ℕ) → attempt_at ws rs at x (suc i) ≡ attempt_at ws rs (λ j. at (suc j)) (state_after ws rs at x 1) i
  attempt-shift at x i = ap (λ (y : Leaves Core). attempt_from ws rs y (at (suc i))) (state-shift at x i)

  -- one attempt with its place, and what it leaves there whatever follows
  place-stays : (v : World) (e : Leaves Outcome) (ts : List Sample) → v.attempts * 4 + 4 ≤ length v.buffer → e.back.request < 0x1_0000_0000
      → quad_at (run_from ws rs ts (stepped_of v e)).buffer (v.attempts * 4) ≡ e.back.request
  unfolding stepped_of
  place-stays v e ts l h =
      quad-same (run_from ws rs ts (stepped_of v e)).buffer (put4_of v.buffer (v.attempts * 4) e.back.request) _
      (λ i u. (run-places ws rs ts (stepped_of v e)).before i 0 (omega arith))
      ∙ put-quad v.buffer (v.attempts * 4) e.back.request l h

  module _ (s : Sample) (ss : List Sample) (d : Sample) (w : World) where
    abbrev e : Leaves Outcome
    e = attempt_of ws rs w.file w.core s

    abbrev at : ℕ → Sample
    at j = get_or (s ∷ ss) j d

    abbrev first : Leaves Core
    first = state_of w

    abbrev v : World
    v = run_from ws rs ss (stepped_of w e)

    goes_on : e.back.refusal ≡ 0 → Ran ws rs (λ j. get_or ss j d) (length ss) (stepped_of w e) v → Ran ws rs at (suc (length ss)) w v
    unfolding state_after stepped_of
    goes_on z r = record {
      made = suc r.made;
      passed = passed;
      used = λ a. omega (arith, r.used a);
      refused = λ a. (omega (arith, (r.refused a).0), rw (attempt-shift at first r.made) (r.refused a).1);
      state = r.state ∙ sym (state-shift at first r.made);
      attempts = omega (arith, r.attempts);
      microcycles =
          omega (
            arith,
            r.microcycles,
            sum_first r.made (λ j. (attempt_at ws rs at first j).back.cycles) _ (λ j. ap cycles_of (attempt-shift at first j)),
          );
      places = places;
    }
      where
        passed : (j : ℕ) → j < suc r.made → (attempt_at ws rs at first j).back.refusal ≡ 0
        passed zero l = z
        passed (suc j) l = rw (attempt-shift at first j) (r.passed j (omega arith))

        places : (j : ℕ) → j < suc r.made → (w.attempts + j) * 4 + 4 ≤ length w.buffer → (attempt_at ws rs at first j).back.request < 0x1_0000_0000
            → quad_at v.buffer ((w.attempts + j) * 4) ≡ (attempt_at ws rs at first j).back.request
        places zero l m h =
            let here : w.attempts + 0 ≡ w.attempts = omega arith in
            rw here (place-stays w e ss (omega arith) h)
        places (suc j) l m h =
            let here : w.attempts + suc j ≡ w.attempts + 1 + j = omega arith in
            let size = put-length w.buffer (w.attempts * 4) e.back.request in
            rw (here, attempt-shift at first j) (r.places j (omega arith) (omega arith) (rw (attempt-shift at first j) at h))

    stops : (e.back.refusal ≡ 0 → ⊥) → Ran ws rs at (suc (length ss)) w (stopped_of w e.back.refusal)
    unfolding state_after stopped_of
    stops z = record {
      made = 0;
      passed = λ j l. absurd (omega arith);
      used = λ a. absurd (z a);
      refused = λ a. (omega arith, refl);
      state = refl;
      attempts = omega arith;
      microcycles = omega arith;
      places = λ j l. absurd (omega arith);
    }

    one_more : Ran ws rs (λ j. get_or ss j d) (length ss) (stepped_of w e) v → (t : Bool) → eqb e.back.refusal 0 ≡ t
        → Ran ws rs at (suc (length ss)) w (pick t v (stopped_of w e.back.refusal))
    one_more r true q = goes_on (eqb-true _ _ q) r
    one_more r false q = stops (eqb-false _ 0 q)

  -- 0 is "all samples used"; "Numbers 5-8 return the state before the refused attempt and the counts up to it; the places of earlier attempts are written"
  pub run_ran : (ss : List Sample) (d : Sample) (w : World) → w.answer ≡ 0 → Ran ws rs (λ j. get_or ss j d) (length ss) w (run_from ws rs ss w)
  unfolding run_from state_after stepped_of
  run_ran [] d w z = record {
    made = 0;
    passed = λ j l. absurd (omega arith);
    used = λ a. refl;
    refused = λ a. absurd (a z);
    state = refl;
    attempts = omega arith;
    microcycles = omega arith;
    places = λ j l. absurd (omega arith);
  }
  run_ran (s ∷ ss) d w z =
      let x = attempt_of ws rs w.file w.core s in
      one_more s ss d w (run_ran ss d (stepped_of w x) refl) (eqb x.back.refusal 0) refl

  module _ (ss : List Sample) (d : Sample) (w : World) (z : w.answer ≡ 0) where
    -- of a run that made i attempts and was refused: attempt i is refused with its answer, and its state is the one before that
    pub run-refused : ((run_from ws rs ss w).answer ≡ 0 → ⊥) → (i : ℕ) → (run_from ws rs ss w).attempts ≡ w.attempts + i
        → ((attempt_at ws rs (λ j. get_or ss j d) (state_of w) i).back.refusal ≡ (run_from ws rs ss w).answer)
        × (state_of (run_from ws rs ss w) ≡ state_after ws rs (λ j. get_or ss j d) (state_of w) i)
    run-refused a i e =
        let r = run_ran ss d w z in
        let made : r.made ≡ i = omega (arith, r.attempts) in
        (rw made at (r.refused a).1, rw made at r.state)

    -- however it ends, its microcycles are those of the attempts made, added up
    pub run-cycles : (i : ℕ) → (run_from ws rs ss w).attempts ≡ w.attempts + i
        → (run_from ws rs ss w).microcycles ≡ w.microcycles + sum_below i (λ j. (attempt_at ws rs (λ k. get_or ss k d) (state_of w) j).back.cycles)
    run-cycles i e =
        let r = run_ran ss d w z in
        let made : r.made ≡ i = omega (arith, r.attempts) in
        rw made at r.microcycles

-- ---- the same samples, told otherwise
pub sum_same : (n : ℕ) (f g : ℕ → ℕ) → ((j : ℕ) → j < n → f j ≡ g j) → sum_below n f ≡ sum_below n g
sum_same zero f g e = refl
sum_same (suc n) f g e = omega (arith, sum_same n f g (λ j l. e j (omega arith)), e n (omega arith))

module _ (ws : List ℕ) (rs : List Row) (at at' : ℕ → Sample) (x : Leaves Core) where
  pub state-same : (i : ℕ) → ((j : ℕ) → j < i → at j ≡ at' j) → state_after ws rs at x i ≡ state_after ws rs at' x i
  unfolding state_after
  state-same zero e = refl
  state-same (suc i) e =
      ap₂ (λ (y : Leaves Core) (s : Sample). left_by (attempt_from ws rs y s)) (state-same i (λ j l. e j (omega arith))) (e i (omega arith))

  attempt-same : (i : ℕ) → ((j : ℕ) → j < suc i → at j ≡ at' j) → attempt_at ws rs at x i ≡ attempt_at ws rs at' x i
  attempt-same i e = ap₂ (attempt_from ws rs) (state-same i (λ j l. e j (omega arith))) (e i (omega arith))

module _ (ws : List ℕ) (rs : List Row) (at at' : ℕ → Sample) (n : ℕ) (w v : World) (r : Ran ws rs at n w v) where
  few : r.made ≤ n
  few = go (eqb v.answer 0) refl
    where
      go : (t : Bool) → eqb v.answer 0 ≡ t → r.made ≤ n
      go true q = omega (arith, r.used (eqb-true _ _ q))
      go false q = omega (arith, (r.refused (eqb-false _ 0 q)).0)

  pub ran-same : ((j : ℕ) → j < n → at j ≡ at' j) → Ran ws rs at' n w v
  ran-same e = record {
    made = r.made;
    passed = λ j l. rw (← one j (omega (arith, few))) (r.passed j l);
    used = r.used;
    refused = λ a. ((r.refused a).0, rw (← one r.made (r.refused a).0) (r.refused a).1);
    state = r.state ∙ state-same ws rs at at' first r.made (λ j l. e j (omega (arith, few)));
    attempts = r.attempts;
    microcycles =
        omega (
          arith,
          r.microcycles,
          sum_same r.made (λ j. (attempt_at ws rs at first j).back.cycles) _ (λ j l. ap cycles_of (one j (omega (arith, few)))),
        );
    places = λ j l. rw (← one j (omega (arith, few))) (r.places j l);
  }
    where
      first : Leaves Core
      first = state_of w

      one : (j : ℕ) → j < n → attempt_at ws rs at first j ≡ attempt_at ws rs at' first j
      one j l = attempt-same ws rs at at' first j (λ k m. e k (omega arith))
