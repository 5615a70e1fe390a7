-- A number that is given neither before the first attempt nor by the deck's run is not handed back; so no answer is other than 0, 1 to 6, 8, 9 and 24.
-- Assumes nothing.
use mathlib.Core.Path.{◌≡◌, refl, sym}
use mathlib.Core.Bool.{Bool, true, false, ◌&&◌}
use mathlib.Core.List.{List, [], ◌∷◌}
use mathlib.Core.Logic.{◌⊎◌, inl, inr, ⊎_elim}
use Prim.Native.Nat.{ℕ, ◌≤◌}
use native.Mathlib.Omega.{arith}
use borrow.Author.Tests.{eqb-true, eqb-false}
use lib.Dec.{eqb}
use lib.ListN.{length}
use Rattle.attempt.specs.Attempt.{attempt_of}
use Rattle.attempt_laws.proofs.Never.{from-seven, attempt-never}
use Rattle.attempt_laws.specs.Fate.{OtherNumber}
use Rattle.choose.proofs.Choice.{pick_all}
use Rattle.deck.specs.Ranges.{words_in_range, rows_part_in_range, samples_in_range, places_enough, deck_refusal_of}
use Rattle.deck.specs.Slip.{BeforeAttempts}
use Rattle.deck.specs.Sections.{whole_of, words_part, rows_part, state_part, samples_part}
use Rattle.engine.proofs.Hosts.{answers, refuses}
use Rattle.engine.specs.Host.{deck_run, host_of}
use Rattle.engine.specs.Run.{World, stepped_of, stopped_of, run_from}
use Rattle.rows.specs.declared.Row.{Row}
use Rattle.state.specs.declared.Sample.{Sample}
use Rattle.state.specs.Marking.{is_marking, marking_of}
use Rattle.state_bytes.specs.Bytes.{state_bytes}
use Rattle.state_bytes.specs.Range.{state_in_range}

-- numbers from 5 on, but 9 and 24, are later ones
pub not-before : (n : ℕ) → 5 ≤ n → (n ≡ 9 → ⊥) → (n ≡ 24 → ⊥) → BeforeAttempts n → ⊥
not-before n least nine known = ⊎_elim nine (⊎_elim known (λ (h : (1 ≤ n) × (n ≤ 4)). omega arith))

module _ (n : ℕ) (some : n ≡ 0 → ⊥) (later : BeforeAttempts n → ⊥) where
  abbrev Not : ℕ → Type 0
  Not m = m ≡ n → ⊥

  deck-not : (deck : List ℕ) (requests state marking : ℕ) → Not (deck_refusal_of deck requests state marking)
  unfolding deck_refusal_of
  deck-not deck requests state marking =
      pick_all Not (whole_of deck && eqb state state_bytes) _ _
      (pick_all Not (is_marking marking) _ _
      (pick_all Not (state_in_range (state_part deck)) _ _
      (pick_all Not (words_in_range (words_part deck)) _ _
      (pick_all Not (rows_part_in_range (rows_part deck)) _ _
      (pick_all Not (samples_in_range (samples_part deck) && places_enough (samples_part deck) requests) _ _ (λ e. some (sym e)) (λ e. early (omega arith)))
      (λ e. early (omega arith)))
      (λ e. early (omega arith)))
      (λ e. early (omega arith)))
      (λ e. later (inr (inl (sym e)))))
      (λ e. later (inl (sym e)))
    where
      early : (1 ≤ n) × (n ≤ 4) → ⊥
      early h = later (inr (inr h))

  module _ (deck requests state : List ℕ) (marking : ℕ) where
    pub host-not : Not (deck_run deck requests (marking_of marking)).answer → (host_of deck requests state marking).report.answer ≡ n → ⊥
    host-not h = go (eqb (deck_refusal_of deck (length requests) (length state) marking) 0) refl
      where
        go : (t : Bool) → eqb (deck_refusal_of deck (length requests) (length state) marking) 0 ≡ t → Not (host_of deck requests state marking).report.answer
        go true q = rw (← answers deck requests state marking (eqb-true _ _ q) (deck_run deck requests (marking_of marking)) refl) h
        go false q = rw (← refuses deck requests state marking (eqb-false _ 0 q)) (deck-not deck (length requests) (length state) marking)

-- ---- a number of no refusal

module _ (n : ℕ) (other : OtherNumber n) where
  pub run-never : (ws : List ℕ) (rs : List Row) (ss : List Sample) (w : World) → (w.answer ≡ n → ⊥) → (run_from ws rs ss w).answer ≡ n → ⊥
  unfolding run_from stepped_of stopped_of
  run-never ws rs [] w h = h
  run-never ws rs (s ∷ ss) w h =
      let x = attempt_of ws rs w.file w.core s in
      pick_all (λ (v : World). v.answer ≡ n → ⊥) (eqb x.back.refusal 0) _ _
      (run-never ws rs ss (stepped_of w x) (λ e. other.none (sym e)))
      (attempt-never n other ws rs w.file w.core s)

  pub host-never : (BeforeAttempts n → ⊥) → (deck requests state : List ℕ) (marking : ℕ) → (host_of deck requests state marking).report.answer ≡ n → ⊥
  unfolding deck_run
  host-never later deck requests state marking = host-not n other.none later deck requests state marking (run-never _ _ _ _ (λ e. other.none (sym e)))

-- 02, L14: "25 profile broken, .. only from the profile check"
pub host-not-25 : (deck requests state : List ℕ) (marking : ℕ) → (host_of deck requests state marking).report.answer ≡ 25 → ⊥
host-not-25 =
    host-never 25 (from-seven 25 (omega arith) (λ e. omega arith))
    (not-before 25 (omega arith) (λ e. omega arith) (λ e. omega arith))
