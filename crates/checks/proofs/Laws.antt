-- By the row of a listed code, refusals and waiting are what Checks says: the code's ranges leave out what never waits.
use Prim.Native.Nat.{ℕ, ◌<◌}
use mathlib.Core.Path.{◌≡◌, refl, ◌∙◌, sym}
use mathlib.Core.Bool.{Bool, true, false}
use native.Mathlib.Omega.{arith}
use lib.Dec.{ltb}
use borrow.Author.Tests.{ltb-true, ltb-false}
use Rattle.choose.proofs.Ranged.{in-arm, in_rest}
use Rattle.code.specs.CodeRows.{class_of, listed, row_of, waits_of}
use Rattle.code.proofs.Digits.{listed-row}
use Rattle.state.specs.declared.Sample.{Sample}
use Rattle.checks.specs.Asked.{refusal_by, waiting_by}
use Rattle.checks.specs.Checks.{designator_refusal_of, waiting_of}

pub refusal-by-row : (code b : ℕ) → listed (class_of code) ≡ true → refusal_by (row_of code) code b ≡ designator_refusal_of code b
unfolding refusal_by designator_refusal_of
refusal-by-row code b e = rw (listed-row code e)

-- jumps, literals and operations never wait
pub no-waiting : (code : ℕ) (s : Sample) → code < 0xE0 → waiting_of code s ≡ false
unfolding waiting_of waits_of
no-waiting code s h = rw (in-arm code _ _ 0 0 tt (omega arith) h)

pub waiting-by-row : (code : ℕ) (s : Sample) → listed (class_of code) ≡ true → waiting_by (row_of code) code s ≡ waiting_of code s
unfolding waiting_by waiting_of
waiting-by-row code s e = go (ltb code 0xE0) refl
  where
    go : (x : Bool) → ltb code 0xE0 ≡ x → waiting_by (row_of code) code s ≡ waiting_of code s
    go true t = in-arm _ _ _ 0 0 tt (omega arith) (ltb-true _ _ t) ∙ sym (no-waiting code s (ltb-true _ _ t))
    go false t = in_rest _ _ _ 0xE0 tt (ltb-false _ _ t) ∙ rw (listed-row code e)
