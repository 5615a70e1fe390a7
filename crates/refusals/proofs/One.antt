-- A number is that of one refusal, so a contract that gives the number permits one refusal. Assumes nothing.
use Prim.Native.Nat.{ℕ}
use mathlib.Core.Path.{◌≡◌, refl, sym, ap, ◌∙◌}
use mathlib.Core.Bool.{Bool, true, false}
use lib.Dec.{eqb}
use Rattle.std.specs.Prelude.{Option, Some, None, Result, Ok, Err}
use Rattle.refusals.specs.Refusals.{number_of, answer_of, refused_by}
use Rattle.refusals.specs.declared.Refusal.{Refusal}

either : Bool → Refusal → Refusal → Refusal
either true a b = a
either false a b = b

-- the refusal with a number
pub refusal_in : ℕ → Refusal
refusal_in n =
    either (eqb n 1) Refusal.StateRange
    (either (eqb n 2) Refusal.WordRange
    (either (eqb n 3) Refusal.RowRange
    (either (eqb n 4) Refusal.SampleRange
    (either (eqb n 5) Refusal.NoWord
    (either (eqb n 6) Refusal.Unlisted
    (either (eqb n 8) Refusal.NotAnOption
    (either (eqb n 9) Refusal.NoDeck
    (either (eqb n 10) Refusal.Mnemonic
    (either (eqb n 11) Refusal.Operand
    (either (eqb n 12) Refusal.Address
    (either (eqb n 16) Refusal.Memory
    (either (eqb n 17) Refusal.NoReply Refusal.NoMarking))))))))))))

pub refusal_back : (r : Refusal) → refusal_in (number_of r) ≡ r
unfolding refusal_in either
refusal_back Refusal.StateRange = refl
refusal_back Refusal.WordRange = refl
refusal_back Refusal.RowRange = refl
refusal_back Refusal.SampleRange = refl
refusal_back Refusal.NoWord = refl
refusal_back Refusal.Unlisted = refl
refusal_back Refusal.NotAnOption = refl
refusal_back Refusal.NoDeck = refl
refusal_back Refusal.Mnemonic = refl
refusal_back Refusal.Operand = refl
refusal_back Refusal.Address = refl
refusal_back Refusal.Memory = refl
refusal_back Refusal.NoReply = refl
refusal_back Refusal.NoMarking = refl

-- for a contract with `number_of`
pub one-refusal : (r q : Refusal) → number_of r ≡ number_of q → r ≡ q
one-refusal r q e = sym (refusal_back r) ∙ ap refusal_in e ∙ refusal_back q

-- none has the number of an answer where nothing is refused
pub numbered : (r : Refusal) → eqb (number_of r) 0 ≡ false
numbered Refusal.StateRange = refl
numbered Refusal.WordRange = refl
numbered Refusal.RowRange = refl
numbered Refusal.SampleRange = refl
numbered Refusal.NoWord = refl
numbered Refusal.Unlisted = refl
numbered Refusal.NotAnOption = refl
numbered Refusal.NoDeck = refl
numbered Refusal.Mnemonic = refl
numbered Refusal.Operand = refl
numbered Refusal.Address = refl
numbered Refusal.Memory = refl
numbered Refusal.NoReply = refl
numbered Refusal.NoMarking = refl

some_but : Bool → Refusal → Option Refusal
some_but true r = None
some_but false r = Some r

answer_in : ℕ → Option Refusal
answer_in n = some_but (eqb n 0) (refusal_in n)

answer_back : (x : Option Refusal) → answer_in (answer_of x) ≡ x
unfolding answer_in some_but
answer_back None = refl
answer_back (Some r) = rw (numbered r) (ap Some (refusal_back r))

-- for one with `answer_of`
pub one-answer : (x y : Option Refusal) → answer_of x ≡ answer_of y → x ≡ y
one-answer x y e = sym (answer_back x) ∙ ap answer_in e ∙ answer_back y

module _ {A : Type 0} where
  abbrev pub error_of : Result A Refusal → Option Refusal
  error_of (Ok a) = None
  error_of (Err r) = Some r

  answered : (x : Result A Refusal) → answer_of (error_of x) ≡ refused_by x
  answered (Ok a) = refl
  answered (Err r) = refl

  -- and for one with `refused_by`, what is refused
  pub one-refused : (x y : Result A Refusal) → refused_by x ≡ refused_by y → error_of x ≡ error_of y
  one-refused x y e = one-answer (error_of x) (error_of y) (answered x ∙ e ∙ sym (answered y))
