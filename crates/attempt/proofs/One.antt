-- Any two results that the contract of an attempt permits are equal: what it leaves tells whether it was refused, and by what. Assumes nothing.
use mathlib.Core.Path.{◌≡◌, refl, sym, ap, ◌∙◌}
use mathlib.Core.Bool.{Bool, true, false}
use lib.Dec.{eqb}
use Rattle.std.specs.Prelude.{Result, Ok, Err}
use Rattle.attempt.specs.Outcome.{Outcome, unrefused, outcome}
use Rattle.attempt.specs.declared.Done.{Done}
use Rattle.refusals.proofs.One.{refusal_in, refusal_back, numbered}
use Rattle.refusals.specs.declared.Refusal.{Refusal}
use Rattle.state.specs.declared.Core.{Core}

done_in : Outcome → Done
done_in o = record { core = o.core; request = o.request; cycles = o.cycles }

-- for a contract with `unrefused`
pub one-done : (d e : Done) → unrefused d ≡ unrefused e → d ≡ e
unfolding done_in
one-done d e h = ap done_in h

told : Bool → Outcome → Result Done Refusal
told true o = Ok (done_in o)
told false o = Err (refusal_in o.refusal)

result_in : Outcome → Result Done Refusal
result_in o = told (eqb o.refusal 0) o

result_back : (k : Core) (x : Result Done Refusal) → result_in (outcome k x) ≡ x
unfolding result_in told done_in
result_back k (Ok d) = refl
result_back k (Err r) = rw (numbered r) (ap Err (refusal_back r))

-- and for one with `outcome`, as `attempt` itself
pub one-attempt : (k : Core) (x y : Result Done Refusal) → outcome k x ≡ outcome k y → x ≡ y
one-attempt k x y e = sym (result_back k x) ∙ ap result_in e ∙ result_back k y
