-- What the agreement asks for can be met: SLWC of R5:R4 to R3:R2 with C, beside AWC of R3:R2 after MW. Assumes nothing.
use Prim.Native.Nat.{ℕ}
use mathlib.Core.Path.{refl}
use mathlib.Core.Bool.{true}
use mathlib.Core.List.{List, [], ◌∷◌}
use native.Mathlib.Omega.{arith}
use Rattle.attempt.specs.Attempt.{attempt_of, modified_of}
use Rattle.attempt_laws.specs.Starred.{holding, core, computing}
use Rattle.numbers.specs.Numbers.{word_at}
use Rattle.rows.specs.Range.{rows_in_range}
use Rattle.state.specs.declared.Core.{Core}
use Rattle.state.specs.declared.Marking.{Marking}
use Rattle.state.specs.Range.{InRange, SampleInRange}
use Rattle.state.specs.Registers.{R}
use Rattle.shifts.specs.Shifts.{Takes, Doubling, Agrees}
use Rattle.shifts.proofs.Theorem.{left-shift-agrees, moved-already}

abbrev before : List ℕ
before = holding ((R 4, 0x80) ∷ (R 5, 0x40) ∷ [])

-- the words 8B42, AB22 and 8242, each alone
abbrev shift : List ℕ
shift = 0x42 ∷ 0x8B ∷ 0 ∷ 0 ∷ []

abbrev add : List ℕ
add = 0x22 ∷ 0xAB ∷ 0 ∷ 0 ∷ []

abbrev move : List ℕ
move = 0x42 ∷ 0x82 ∷ 0 ∷ 0 ∷ []

-- C is set
abbrev carrying : Core
carrying = core Marking.CP1621B 0 true

abbrev after : List ℕ
after = (attempt_of move [] before carrying computing).file

takes-shift : Takes 0x8B 4 2 shift carrying computing
unfolding word_at modified_of
takes-shift = record { reset = refl; compute = refl; lc = omega arith; word = omega arith; top = refl; source = refl; target = refl }

takes-add : Takes 0xAB 2 2 add carrying computing
unfolding word_at modified_of
takes-add = record { reset = refl; compute = refl; lc = omega arith; word = omega arith; top = refl; source = refl; target = refl }

takes-move : Takes 0x82 4 2 move carrying computing
unfolding word_at modified_of
takes-move = record { reset = refl; compute = refl; lc = omega arith; word = omega arith; top = refl; source = refl; target = refl }

state-in-range : InRange before carrying
state-in-range =
    record {
      size = refl;
      bytes = omega arith;
      g = omega arith;
      lc = omega arith;
      rr = omega arith;
      tr = omega arith;
      m = omega arith;
      tsr = omega arith;
      interrupts = omega arith;
      modification = omega arith;
      unmarked = λ e. refl;
      outputs = omega arith;
    }

sample-in-range : SampleInRange computing
sample-in-range = record { dal = omega arith; interrupts = omega arith }

asked : Doubling 0x8B 4 2 shift add [] before after carrying computing
unfolding rows_in_range
asked =
    let (same, in-range) = moved-already true 4 2 move [] before carrying computing refl state-in-range sample-in-range (λ e. (refl, refl)) takes-move in
    record {
      shift = refl;
      even = λ e. (refl, refl);
      shifts = takes-shift;
      adds = takes-add;
      rows = refl;
      state = state-in-range;
      already = in-range;
      sample = sample-in-range;
      same = same;
    }

pub example-agrees : Agrees (attempt_of shift [] before carrying computing) (attempt_of add [] after carrying computing)
example-agrees = left-shift-agrees 0x8B 4 2 shift add [] before after carrying computing asked
