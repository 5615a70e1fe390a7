-- A number that no fate gives is given by no attempt; so no attempt is refused with another number than 2, 5, 6 and 8. Assumes nothing.
use Prim.Native.Nat.{ℕ, ◌/◌, ◌≤◌}
use mathlib.Core.Path.{◌≡◌, sym, ap, ◌∙◌}
use mathlib.Core.List.{List}
use native.Mathlib.Omega.{arith}
use lib.Dec.{ltb}
use lib.ListN.{length}
use Rattle.attempt.specs.Attempt.{executed_of, outputs_of, attempt_of}
use Rattle.attempt.specs.Outcome.{Outcome}
use Rattle.choose.proofs.Choice.{pick_all}
use Rattle.rows.specs.declared.Outputs.{Outputs}
use Rattle.rows.specs.declared.Row.{Row}
use Rattle.state.specs.File.{Leaves}
use Rattle.state.specs.declared.Core.{Core}
use Rattle.state.specs.declared.Sample.{Sample}
use Rattle.attempt_laws.specs.Fate.{Fate, refused, waited, reset, compute-low, completed, no_code, no_option, must_wait, top_in, b_in}
use Rattle.attempt_laws.specs.Fate.{word_fate, taken_word, fate_of, EndsAs, OtherNumber}
use Rattle.attempt_laws.proofs.Fate.{attempt-fate}

-- a fate that is no refusal with n
abbrev pub Not : ℕ → Fate → Type 0
Not n (refused m) = m ≡ n → ⊥
Not n waited = Unit {0}
Not n reset = Unit {0}
Not n compute-low = Unit {0}
Not n completed = Unit {0}

same-refusal : {e d : Leaves Outcome} → e ≡ d → e.back.refusal ≡ d.back.refusal
same-refusal = ap (λ (m : Leaves Outcome). m.back.refusal)

module _ (n : ℕ) (some : n ≡ 0 → ⊥) where
  ends-not : (word : ℕ) (xs : List ℕ) (k : Core) (s : Sample) (o : Outputs) (e : Leaves Outcome) (f : Fate) → Not n f → EndsAs word xs k s o e f
      → e.back.refusal ≡ n → ⊥
  unfolding executed_of
  ends-not word xs k s o e (refused m) h (z, q) is = h (sym (same-refusal q) ∙ is)
  ends-not word xs k s o e waited h q is = some (sym is ∙ same-refusal q)
  ends-not word xs k s o e reset h q is = some (sym is ∙ same-refusal q)
  ends-not word xs k s o e compute-low h q is = some (sym is ∙ same-refusal q)
  ends-not word xs k s o e completed h (w, p, q) is = some (sym is ∙ same-refusal q)

  pub attempt-not : (ws : List ℕ) (rs : List Row) (xs : List ℕ) (k : Core) (s : Sample) → Not n (fate_of ws k s)
      → (attempt_of ws rs xs k s).back.refusal ≡ n → ⊥
  attempt-not ws rs xs k s h =
      ends-not (taken_word ws k) xs k s (outputs_of ws rs k s) (attempt_of ws rs xs k s) (fate_of ws k s) h (attempt-fate ws rs xs k s)

pub from-seven : (n : ℕ) → 7 ≤ n → (n ≡ 8 → ⊥) → OtherNumber n
from-seven n least eight = record { none = λ e. omega arith; two = λ e. omega arith; five = λ e. omega arith; six = λ e. omega arith; eight = eight }

module _ (n : ℕ) (other : OtherNumber n) where
  word-not : (word : ℕ) (s : Sample) → Not n (word_fate word s)
  unfolding word_fate
  word-not word s =
      pick_all (Not n) (ltb word 0x40_0000) _ _
      (pick_all (Not n) (no_code (top_in word)) _ _ (λ e. other.six (sym e))
      (pick_all (Not n) (no_option (top_in word) (b_in word)) _ _ (λ e. other.eight (sym e))
      (pick_all (Not n) (must_wait (top_in word) s.reply s.busy) _ _ tt tt)))
      (λ e. other.two (sym e))

  fate-not : (ws : List ℕ) (k : Core) (s : Sample) → Not n (fate_of ws k s)
  unfolding fate_of
  fate-not ws k s =
      pick_all (Not n) s.reset _ _ tt
      (pick_all (Not n) s.compute _ _
      (pick_all (Not n) (ltb k.address.lc (length ws / 4)) _ _ (word-not (taken_word ws k) s) (λ e. other.five (sym e)))
      tt)

  pub attempt-never : (ws : List ℕ) (rs : List Row) (xs : List ℕ) (k : Core) (s : Sample) → (attempt_of ws rs xs k s).back.refusal ≡ n → ⊥
  attempt-never ws rs xs k s = attempt-not n other.none ws rs xs k s (fate-not ws k s)
