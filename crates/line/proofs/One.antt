-- Any two results that the contract of `line_of` permits are equal. Assumes nothing.
use mathlib.Core.Path.{◌≡◌, refl, sym, ap, ◌∙◌}
use Rattle.std.specs.Prelude.{Result, Ok, Err}
use Rattle.line.specs.Coded.{line_as}
use Rattle.line.specs.Line.{Line}
use Rattle.line.specs.declared.Placed.{Placed}
use Rattle.refusals.proofs.One.{refusal_in, refusal_back}
use Rattle.refusals.specs.declared.Refusal.{Refusal}

result_in : Line → Result Placed Refusal
result_in (Line.Word address word) = Ok (record { address = address; word = word })
result_in (Line.Bad n) = Err (refusal_in n)

result_back : (x : Result Placed Refusal) → result_in (line_as x) ≡ x
unfolding result_in
result_back (Ok p) = refl
result_back (Err r) = ap Err (refusal_back r)

pub one-line : (x y : Result Placed Refusal) → line_as x ≡ line_as y → x ≡ y
one-line x y e = sym (result_back x) ∙ ap result_in e ∙ result_back y
