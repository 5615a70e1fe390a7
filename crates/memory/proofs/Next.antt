-- Laws of one attempt with a memory: by what it left it is refused, by 17 too, or counts. Assumes nothing.
use Prim.Native.Nat.{ℕ, ◌+◌, ◌*◌, ◌<◌}
use mathlib.Core.Path.{◌≡◌, ◌∙◌, ap, refl, sym}
use mathlib.Core.Bool.{Bool, true, false, ◌&&◌, and-eq-true_iff}
use mathlib.Core.List.{List}
use native.Mathlib.Omega.{arith}
use lib.Dec.{eqb}
use lib.ListN.{length}
use Rattle.choose.specs.Ranged.{pick}
use borrow.Author.Tests.{eq-eqb, ne_eqb, eqb-true, eqb-false}
use Rattle.attempt.specs.Lent.{attempt_by}
use Rattle.attempt.specs.Outcome.{Outcome}
use Rattle.attempt.proofs.Lent.{refused-keeps}
use Rattle.bus_memory.specs.Memory.{kind_in, transfers, transfer_waits, waits_after, stuck_of, stored_in, kept_after}
use Rattle.bus_memory.specs.declared.Kept.{Kept}
use Rattle.engine.specs.Run.{World, world, put4_of, stepped_of, stopped_of}
use Rattle.rows.specs.declared.Outputs.{Outputs}
use Rattle.state.specs.File.{Leaves}
use Rattle.state.specs.declared.Core.{Core}
use Rattle.state.specs.declared.Sample.{Sample}
use Rattle.memory.specs.Run.{Together, together, code_at, seen_by, taken_in, stopped_at, next_of}
use Rattle.memory.specs.Lent.{transfer_of, by_17, with_17, next_by}
use Rattle.memory.proofs.Waits.{wait-keeps}

-- what 17 asks first: a wait of IB, IW, OB or OW
stuck-waits : (w x y z : Bool) → (w && x && y && z) ≡ true → w ≡ true
stuck-waits true x y z h = refl
stuck-waits false x y z h = h

-- of what is no wait it does not matter whether its code transfers
module _ (ws : List ℕ) (k : Core) (request : ℕ) where
  waits-alike : transfer_waits (transfer_of ws k request) request ≡ transfer_waits (transfers (code_at ws k)) request
  unfolding transfer_waits transfer_of
  waits-alike = go (eqb (kind_in request) 10)
    where
      go : (t : Bool) → t && pick t (transfers (code_at ws k)) false ≡ t && transfers (code_at ws k)
      go true = refl
      go false = refl

  pub stuck-alike : (size : ℕ) (kept : Kept) → stuck_of size kept (transfer_of ws k request) request ≡ stuck_of size kept (transfers (code_at ws k)) request
  unfolding stuck_of
  stuck-alike size kept = rw waits-alike

  pub kept-alike : (delay : ℕ) (kept : Kept) → kept_after delay kept (transfer_of ws k request) request
      ≡ kept_after delay kept (transfers (code_at ws k)) request
  unfolding kept_after waits_after
  kept-alike delay kept = rw waits-alike

-- what an attempt left that 17 does not replace
module _ (ws : List ℕ) (size : ℕ) (kept : Kept) (k : Core) (xs : List ℕ) (e d : Leaves Outcome) (made : e ≡ d) where
  pub refused-too : (e.back.refusal ≡ 0 → ⊥) → e ≡ with_17 ws size kept k xs d
  unfolding with_17
  refused-too h = rw (← made, ne_eqb e.back.refusal 0 h)

  pub counts-too : e.back.refusal ≡ 0 → stuck_of size kept (transfers (code_at ws k)) e.back.request ≡ false → e ≡ with_17 ws size kept k xs d
  unfolding with_17
  counts-too h free = rw (← made, eq-eqb e.back.refusal 0 h, free)

-- "17 in place of a 33rd .. wait, .. the state being that after the 32nd": an attempt that waits left the registers as they were
pub sticks : (codes ws : List ℕ) (o : Outputs) (size : ℕ) (kept : Kept) (k : Core) (xs : List ℕ) (s : Sample) (e : Leaves Outcome)
    → e ≡ attempt_by codes ws o xs k s → s.dal < 0x1_0000 → e.back.refusal ≡ 0
    → stuck_of size kept (transfers (code_at ws k)) e.back.request ≡ true
    → by_17 k e.file ≡ with_17 ws size kept k xs (attempt_by codes ws o xs k s)
unfolding with_17 stuck_of transfer_waits
sticks codes ws o size kept k xs s e made small passed stuck =
    let waits = (and-eq-true_iff _ _).0 (stuck-waits (transfer_waits (transfers (code_at ws k)) e.back.request) _ _ _ stuck) in
    let asked : (attempt_by codes ws o xs k s).back.request ≡ e.back.request = ap (λ (x : Leaves Outcome). x.back.request) (sym made) in
    let same : e.file ≡ xs = ap (λ (x : Leaves Outcome). x.file) made
    ∙ wait-keeps xs k s small codes ws o waits.1 (ap kind_in asked ∙ eqb-true _ _ waits.0) in
    rw (same, ← made, eq-eqb e.back.refusal 0 passed, stuck)

module _ (codes ws : List ℕ) (o : Outputs) (delay : ℕ) (s : Sample) (t : Together) where
  abbrev w : World
  w = t.world

  abbrev stuck : Leaves Outcome → Bool
  stuck d = stuck_of (length t.bytes) t.kept (transfers (code_at ws w.core)) d.back.request

  abbrev attempt : Leaves Outcome
  attempt = attempt_by codes ws o w.file w.core (seen_by ws t s)

  abbrev chosen : Bool → Bool → Leaves Outcome
  chosen a b = pick (a && b) (by_17 w.core w.file) attempt

  next-is : (a b : Bool) → eqb attempt.back.refusal 0 ≡ a → stuck attempt ≡ b
      → next_by codes ws o delay s t
      ≡ pick a (pick b (stopped_at t (by_17 w.core w.file).back.refusal) (taken_in ws delay t attempt)) (stopped_at t attempt.back.refusal)
  unfolding next_by next_of
  next-is a b p q = rw (p, q)

  -- so the world after the 32nd wait is the one that is left
  pub next-sticks : (e : Leaves Outcome) → e ≡ attempt → e.back.refusal ≡ 0 → (seen_by ws t s).dal < 0x1_0000 → stuck e ≡ true
      → together (world e.file w.core 17 w.attempts w.microcycles w.buffer) t.bytes t.kept ≡ next_by codes ws o delay s t
  unfolding next_by next_of stopped_at stopped_of stuck_of transfer_waits
  next-sticks e made passed small sticky =
      let waits = (and-eq-true_iff _ _).0 (stuck-waits (transfer_waits (transfers (code_at ws w.core)) e.back.request) _ _ _ sticky) in
      let asked : attempt.back.request ≡ e.back.request = ap (λ (x : Leaves Outcome). x.back.request) (sym made) in
      let kept : e.file ≡ w.file = ap (λ (x : Leaves Outcome). x.file) made
      ∙ wait-keeps w.file w.core (seen_by ws t s) small codes ws o waits.1 (ap kind_in asked ∙ eqb-true _ _ waits.0) in
      rw (kept, ← made, eq-eqb e.back.refusal 0 passed, sticky)

  module _ (e : Leaves Outcome) (made : e ≡ with_17 ws (length t.bytes) t.kept w.core w.file attempt) where
    made-is : (a b : Bool) → eqb attempt.back.refusal 0 ≡ a → stuck attempt ≡ b → e ≡ chosen a b
    unfolding with_17
    made-is a b p q = made ∙ rw (p, q)

    -- "return the state before the refused attempt": the registers were left as they were
    pub next-stops : (e.back.refusal ≡ 0 → ⊥)
        → together (world e.file w.core e.back.refusal w.attempts w.microcycles w.buffer) t.bytes t.kept ≡ next_by codes ws o delay s t
    unfolding stopped_at stopped_of
    next-stops h = go (eqb attempt.back.refusal 0) (stuck attempt) refl refl
      where
        go : (a b : Bool) → eqb attempt.back.refusal 0 ≡ a → stuck attempt ≡ b
            → together (world e.file w.core e.back.refusal w.attempts w.microcycles w.buffer) t.bytes t.kept ≡ next_by codes ws o delay s t
        go true true p q = rw (next-is true true p q, made-is true true p q)
        go true false p q = absurd (h (ap (λ (x : Leaves Outcome). x.back.refusal) (made-is true false p q) ∙ eqb-true _ _ p))
        go false b p q =
            let same : attempt.file ≡ w.file = refused-keeps w.file w.core (seen_by ws t s) codes ws o (eqb-false _ _ p) in
            rw (next-is false b p q, made-is false b p q, same)

    pub next-takes : e.back.refusal ≡ 0
        → together
        (world e.file e.back.core 0 (w.attempts + 1) (w.microcycles + e.back.cycles) (put4_of w.buffer (w.attempts * 4) e.back.request))
        (stored_in t.bytes t.kept e.back.request)
        (kept_after delay t.kept (transfers (code_at ws w.core)) e.back.request)
        ≡ next_by codes ws o delay s t
    unfolding taken_in stepped_of
    next-takes h = go (eqb attempt.back.refusal 0) (stuck attempt) refl refl
      where
        go : (a b : Bool) → eqb attempt.back.refusal 0 ≡ a → stuck attempt ≡ b
            → together
            (world e.file e.back.core 0 (w.attempts + 1) (w.microcycles + e.back.cycles) (put4_of w.buffer (w.attempts * 4) e.back.request))
            (stored_in t.bytes t.kept e.back.request)
            (kept_after delay t.kept (transfers (code_at ws w.core)) e.back.request)
            ≡ next_by codes ws o delay s t
        go true true p q = absurd (omega (arith, sym (ap (λ (x : Leaves Outcome). x.back.refusal) (made-is true true p q)) ∙ h))
        go true false p q = rw (next-is true false p q, made-is true false p q)
        go false b p q = absurd (eqb-false _ _ p (sym (ap (λ (x : Leaves Outcome). x.back.refusal) (made-is false b p q)) ∙ h))
