-- A name that stands among the mnemonics names its first place there.
use mathlib.Core.Path.{sym, ◌∙◌}
use Rattle.std.proofs.Common.{arith}
use Rattle.forms.proofs.Place.{named_at, unnamed}
use Rattle.forms.proofs.top_named.Goals as goal

pub returns-in_err-top : goal.returns-in_err-top
returns-in_err-top c = rw c.from_residual.ensures (unnamed _ (sym c.place_of.ensures ∙ c.in_err-top.was))

pub overflow_cast-result : goal.overflow_cast-result
overflow_cast-result c = omega (arith, (named_at _ _ c.if-name-eq-BLANK.false (sym c.place_of.ensures ∙ c.in_ok-top.was)).0)

pub returns : goal.returns
returns c =
    let (inside, first) = named_at _ _ c.if-name-eq-BLANK.false (sym c.place_of.ensures ∙ c.in_ok-top.was) in
    (omega arith, first)
