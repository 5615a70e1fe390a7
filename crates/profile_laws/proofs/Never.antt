-- 02, L14: "A run of accepted microcode that starts without a waiting modification is never refused by 6; prove that once for both markings": no
-- modification waits before any attempt, since no MI is executed, so each word is taken as it stands, and it is listed. Assumes nothing.
use Prim.Native.Nat.{ℕ, ◌/◌}
use mathlib.Core.Path.{◌≡◌, refl, sym, ap, ◌∙◌}
use mathlib.Core.Bool.{Bool, true, false}
use mathlib.Core.List.{List, [], ◌∷◌}
use native.Mathlib.Omega.{arith}
use borrow.Author.Tests.{ltb-true}
use lib.Dec.{eqb, ltb}
use lib.ListN.{length}
use Rattle.attempt.specs.Attempt.{modified_of, outputs_of, attempt_of}
use Rattle.attempt.specs.Outcome.{Outcome}
use Rattle.attempt_laws.proofs.After.{completed-there, attempt-latches}
use Rattle.attempt_laws.proofs.Fate.{attempt-fate}
use Rattle.attempt_laws.proofs.Never.{Not, attempt-not}
use Rattle.attempt_laws.specs.Fate.{Fate, refused, waited, reset, compute-low, completed, no_option, must_wait, top_in, b_in}
use Rattle.attempt_laws.specs.Fate.{word_fate, taken_word, fate_of, EndsAs}
use Rattle.choose.proofs.Choice.{pick_all}
use Rattle.choose.specs.Ranged.{pick}
use Rattle.deck.specs.Sections.{words_part}
use Rattle.engine.specs.Host.{deck_run, host_of}
use Rattle.engine.specs.Run.{World, stepped_of, stopped_of, run_from}
use Rattle.numbers.specs.Numbers.{word_at}
use Rattle.profile.specs.Profile.{profile_of}
use Rattle.rows.specs.declared.Row.{Row}
use Rattle.run_laws.proofs.Never.{not-before, host-not}
use Rattle.run_laws.proofs.NoSeven.{run-not-7, host-not-7}
use Rattle.state.specs.File.{Leaves}
use Rattle.state.specs.declared.Core.{Core}
use Rattle.state.specs.declared.Sample.{Sample}
use Rattle.state_bytes.specs.Bytes.{latches_of, core_of}
use Rattle.profile_laws.specs.Rules.{rules, Kept, Starts, NoneWaits}
use Rattle.profile_laws.proofs.Told.{accepted-keeps}

module _ (ws : List ℕ) (accepted : (profile_of ws).answer ≡ 0) where
  -- ---- one attempt
  module _ (rs : List Row) (xs : List ℕ) (k : Core) (s : Sample) (unmarked : k.latches.marked ≡ false) where
    abbrev lc : ℕ
    lc = k.address.lc

    -- the word is taken as it stands
    as-it-stands : taken_word ws k ≡ word_at ws lc
    unfolding modified_of
    as-it-stands = rw unmarked

    there-keeps : ltb lc (length ws / 4) ≡ true → Kept (rules lc (taken_word ws k))
    there-keeps t = rw as-it-stands (accepted-keeps ws accepted lc (ltb-true lc (length ws / 4) t))

    fate-not-6 : Not 6 (fate_of ws k s)
    unfolding fate_of word_fate
    fate-not-6 = pick_all (Not 6) s.reset _ _ tt (pick_all (Not 6) s.compute _ _ (go (ltb lc (length ws / 4)) refl) tt)
      where
        word : ℕ
        word = taken_word ws k

        listed : Not 6 (pick (no_option (top_in word) (b_in word)) (refused 8) (pick (must_wait (top_in word) s.reply s.busy) waited completed))
        listed =
            pick_all (Not 6) (no_option (top_in word) (b_in word)) _ _ (λ e. omega arith)
            (pick_all (Not 6) (must_wait (top_in word) s.reply s.busy) _ _ tt tt)

        go : (t : Bool) → ltb lc (length ws / 4) ≡ t → Not 6 (pick t (word_fate word s) (refused 5))
        go true t = rw (there-keeps t).1.1.1.0 (pick_all (Not 6) (ltb word 0x40_0000) _ _ listed (λ e. omega arith))
        go false t = λ e. omega arith

    pub attempt-not-6 : (attempt_of ws rs xs k s).back.refusal ≡ 6 → ⊥
    attempt-not-6 = attempt-not 6 (λ e. omega arith) ws rs xs k s fate-not-6

    -- and it leaves no modification
    pub stays-unmarked : (attempt_of ws rs xs k s).back.core.latches.marked ≡ false
    stays-unmarked = go (attempt_of ws rs xs k s) (fate_of ws k s) refl refl (attempt-fate ws rs xs k s)
      where
        go : (e : Leaves Outcome) (f : Fate) → e ≡ attempt_of ws rs xs k s → f ≡ fate_of ws k s → EndsAs (taken_word ws k) xs k s (outputs_of ws rs k s) e f
            → e.back.core.latches.marked ≡ false
        go e (refused n) a b (z, q) = rw q unmarked
        go e waited a b q = rw q unmarked
        go e reset a b q = rw q
        go e compute-low a b q = rw q unmarked
        go e completed a b q =
            ap (λ (d : Leaves Outcome). d.back.core.latches.marked) a
            ∙ (attempt-latches ws rs xs k s (sym b)).marked
            ∙ (there-keeps (completed-there ws k s (sym b)).0).0

  -- ---- a run: whatever rows, samples and marking
  pub never-6 : (rs : List Row) (ss : List Sample) (w : World) → w.core.latches.marked ≡ false → (w.answer ≡ 6 → ⊥)
      → ((run_from ws rs ss w).answer ≡ 6 → ⊥) × ((run_from ws rs ss w).core.latches.marked ≡ false)
  unfolding run_from stepped_of stopped_of
  never-6 rs [] w unmarked h = (h, unmarked)
  never-6 rs (s ∷ ss) w unmarked h =
      let x = attempt_of ws rs w.file w.core s in
      pick_all (λ (v : World). (v.answer ≡ 6 → ⊥) × (v.core.latches.marked ≡ false)) (eqb x.back.refusal 0) _ _
      (never-6 rs ss (stepped_of w x) (stays-unmarked rs w.file w.core s unmarked) (λ e. omega arith))
      (attempt-not-6 rs w.file w.core s unmarked, unmarked)

  -- neither 6 nor 7
  pub never-refused : (rs : List Row) (ss : List Sample) (w : World) → Starts w
      → ((run_from ws rs ss w).answer ≡ 6 → ⊥) × ((run_from ws rs ss w).answer ≡ 7 → ⊥)
  never-refused rs ss w start = (
    (never-6 rs ss w start.unmarked (λ e. omega (arith, start.unrefused))).0,
    run-not-7 ws rs ss w (λ e. omega (arith, start.unrefused)),
  )

-- ---- what the host is handed back: of a deck with accepted words, in whose state no modification waits
pub host-never-refused : (deck requests state : List ℕ) (marking : ℕ) → (profile_of (words_part deck)).answer ≡ 0 → NoneWaits deck
    → let answer = (host_of deck requests state marking).report.answer in (answer ≡ 6 → ⊥) × (answer ≡ 7 → ⊥)
unfolding deck_run core_of latches_of
host-never-refused deck requests state marking accepted unmarked = (
  host-not 6 (λ e. omega arith) (not-before 6 (omega arith) (λ e. omega arith) (λ e. omega arith)) deck requests state marking
      (never-6 (words_part deck) accepted _ _ _ unmarked (λ e. omega arith)).0,
  host-not-7 deck requests state marking,
)
