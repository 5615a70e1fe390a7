-- What the steps leave beside registers and flags: counts, address, bus, latches, outputs, request buffer. Each by induction over them. Assumes nothing.
use Prim.Native.Nat.{ℕ, ◌+◌, ◌*◌, ◌%◌, ◌<◌, ◌≤◌}
use mathlib.Core.Path.{◌≡◌, refl, sym, ap, ◌∙◌}
use mathlib.Core.Bool.{Bool, true, false}
use mathlib.Core.List.{List, [], ◌∷◌}
use native.Mathlib.Omega.{arith}
use lib.Dec.{eqb, ltb}
use lib.ListN.{length, get_or, set, length-set}
use lib.Seq.{get_or-set_same, get_or-set_other}
use borrow.Author.Tests.{eqb-true, eqb-false, ltb-true, ltb-false}
use Rattle.attempt_laws.specs.Fate.{user_bits}
use Rattle.control.specs.Latches.{used}
use Rattle.engine.proofs.Places.{put-length, put_other}
use Rattle.engine.specs.Run.{World, put4_of}
use Rattle.numbers.specs.Numbers.{word_at}
use Rattle.state.specs.declared.Core.{Core}
use Rattle.state.specs.declared.Latches.{Latches}
use Rattle.sums.specs.Sums.{Step, Cut, Sign, byte_count, rr_after, last_outputs}
use Rattle.sums.specs.Sums.Step.{byte, pair}
use Rattle.sums.proofs.Run.{step_on, after}

-- no modification to use up
none-used : (l : Latches) → l.marked ≡ false → l.modification ≡ 0 → used l ≡ l
none-used l e h =
    λ i. record { g = l.g; tr = l.tr; ics = l.ics; interrupts = l.interrupts; marked = sym e i; modification = sym h i }

-- ---- one place of the request buffer

-- a 0 that is set here, or stood there
zero-set : (l : List ℕ) (at i d : ℕ) → i < length l → ((i ≡ at → ⊥) → get_or l i d ≡ 0) → get_or (set l at 0) i d ≡ 0
zero-set l at i d h f = go (eqb i at) refl
  where
    go : (t : Bool) → eqb i at ≡ t → get_or (set l at 0) i d ≡ 0
    go true e = let same : i ≡ at = eqb-true i at e in rw (← same) (get_or-set_same l i 0 d h)
    go false e = get_or-set_other l at i 0 d (eqb-false i at e) ∙ f (eqb-false i at e)

put-there : (b : List ℕ) (at i d : ℕ) → at ≤ i → i < at + 4 → at + 4 ≤ length b → get_or (put4_of b at 0) i d ≡ 0
unfolding put4_of
put-there b at i d lo hi h =
    let one = set b at 0 in
    let two = set one (at + 1) 0 in
    let three = set two (at + 2) 0 in
    zero-set three (at + 3) i d (simp length-set (omega arith))
    (λ n3. zero-set two (at + 2) i d (simp length-set (omega arith))
    (λ n2. zero-set one (at + 1) i d (simp length-set (omega arith))
    (λ n1. zero-set b at i d (omega arith) (λ n0. absurd (omega arith)))))

-- ---- all steps

module _ (sign : Sign) (ws : List ℕ) where
  answer-kept : (later : Bool) (cut : Cut) (w : World) → w.answer ≡ 0 → (after sign later cut ws w).answer ≡ 0
  answer-kept later [] w e = e
  answer-kept later (t ∷ ts) w e = answer-kept true ts (step_on sign later t ws w) refl

  pub answer-is : (later : Bool) (cut : Cut) (w : World) → 1 ≤ length cut → (after sign later cut ws w).answer ≡ 0
  answer-is later [] w h = absurd (omega arith)
  answer-is later (t ∷ ts) w h = answer-kept true ts (step_on sign later t ws w) refl

  pub attempts-are : (later : Bool) (cut : Cut) (w : World) → (after sign later cut ws w).attempts ≡ w.attempts + length cut
  attempts-are later [] w = omega arith
  attempts-are later (t ∷ ts) w = attempts-are true ts (step_on sign later t ws w) ∙ omega arith

  pub microcycles-are : (later : Bool) (cut : Cut) (w : World)
      → (after sign later cut ws w).microcycles ≡ w.microcycles + byte_count cut
  microcycles-are later [] w = omega arith
  microcycles-are later (byte a b ∷ ts) w = microcycles-are true ts (step_on sign later (byte a b) ws w) ∙ omega arith
  microcycles-are later (pair a b ∷ ts) w = microcycles-are true ts (step_on sign later (pair a b) ws w) ∙ omega arith

  pub lc-is : (later : Bool) (cut : Cut) (w : World) → w.core.address.lc < 2048
      → (after sign later cut ws w).core.address.lc ≡ (w.core.address.lc + length cut) % 2048
  lc-is later [] w h = omega arith
  lc-is later (t ∷ ts) w h = lc-is true ts (step_on sign later t ws w) (omega arith) ∙ omega arith

  pub rr-is : (later : Bool) (cut : Cut) (w : World)
      → (after sign later cut ws w).core.address.rr ≡ rr_after ws w.core.address.lc (length cut) w.core.address.rr
  rr-is later [] w = refl
  rr-is later (t ∷ ts) w = rr-is true ts (step_on sign later t ws w)

  pub outputs-are : (later : Bool) (cut : Cut) (w : World) → w.core.address.lc < 2048 → 1 ≤ length cut
      → (after sign later cut ws w).core.outputs ≡ last_outputs ws w.core.address.lc (length cut)
  outputs-are later [] w h some = absurd (omega arith)
  outputs-are later (t ∷ []) w h some = ap (λ (at : ℕ). user_bits (word_at ws at)) (omega arith)
  outputs-are later (t ∷ u ∷ ts) w h some =
      outputs-are true (u ∷ ts) (step_on sign later t ws w) (omega arith) (omega arith) ∙ ap (λ (at : ℕ). user_bits (word_at ws at)) (omega arith)

  -- what no step touches
  pub kept-is : {A : Type 0} (part : Core → A) → ((later : Bool) (t : Step) (w : World) → part (step_on sign later t ws w).core ≡ part w.core)
      → (later : Bool) (cut : Cut) (w : World) → part (after sign later cut ws w).core ≡ part w.core
  kept-is part e later [] w = refl
  kept-is part e later (t ∷ ts) w = kept-is part e true ts (step_on sign later t ws w) ∙ e later t w

  pub latches-are : (later : Bool) (cut : Cut) (w : World) → w.core.latches.marked ≡ false
      → w.core.latches.modification ≡ 0 → (after sign later cut ws w).core.latches ≡ w.core.latches
  latches-are later [] w e h = refl
  latches-are later (t ∷ ts) w e h = latches-are true ts (step_on sign later t ws w) refl refl ∙ none-used w.core.latches e h

  -- the places are those of the attempts
  pub room-is : (later : Bool) (cut : Cut) (w : World) → length (after sign later cut ws w).buffer ≡ length w.buffer
  room-is later [] w = refl
  room-is later (t ∷ ts) w = room-is true ts (step_on sign later t ws w) ∙ put-length w.buffer (w.attempts * 4) 0

  pub requests-other : (later : Bool) (cut : Cut) (w : World) (i d : ℕ)
      → (w.attempts * 4 ≤ i → i < w.attempts * 4 + length cut * 4 → ⊥) → get_or (after sign later cut ws w).buffer i d ≡ get_or w.buffer i d
  requests-other later [] w i d n = refl
  requests-other later (t ∷ ts) w i d n =
      requests-other true ts (step_on sign later t ws w) i d (λ lo hi. n (omega arith) (omega arith))
      ∙ put_other w.buffer (w.attempts * 4) 0 i d (λ lo hi. n lo (omega arith))

  pub requests-there : (later : Bool) (cut : Cut) (w : World) (i d : ℕ)
      → w.attempts * 4 ≤ i → i < w.attempts * 4 + length cut * 4 → w.attempts * 4 + length cut * 4 ≤ length w.buffer
      → get_or (after sign later cut ws w).buffer i d ≡ 0
  requests-there later [] w i d lo hi h = absurd (omega arith)
  requests-there later (t ∷ ts) w i d lo hi h =
      go (ltb i (w.attempts * 4 + 4)) refl
      (λ l. requests-there true ts (step_on sign later t ws w) i d (omega arith) (omega arith) (omega (arith, put-length w.buffer (w.attempts * 4) 0)))
    where
      go : (b : Bool) → ltb i (w.attempts * 4 + 4) ≡ b → (w.attempts * 4 + 4 ≤ i → get_or (after sign later (t ∷ ts) ws w).buffer i d ≡ 0)
          → get_or (after sign later (t ∷ ts) ws w).buffer i d ≡ 0
      go true e f =
          let first = ltb-true i (w.attempts * 4 + 4) e in
          requests-other true ts (step_on sign later t ws w) i d (λ l u. absurd (omega arith))
          ∙ put-there w.buffer (w.attempts * 4) i d lo first (omega arith)
      go false e f = f (ltb-false i (w.attempts * 4 + 4) e)
