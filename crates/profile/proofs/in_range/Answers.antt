-- The lister's answer is its 2 or another.
use mathlib.Core.Path.{sym, ◌∙◌}
use borrow.Author.Tests.{eqb-true}
use Rattle.profile.proofs.in_range.Goals as goal

pub returns-in-Ok-clause-told : goal.returns-in-Ok-clause-told
returns-in-Ok-clause-told c = rw (← c.in-Ok.ensures.told.0)

pub returns-then-is_range-clause-told : goal.returns-then-is_range-clause-told
returns-then-is_range-clause-told c = rw (← c.in-Err.ensures.told.0, sym c.is_range.ensures ∙ c.if-is_range.true)

pub returns-then-is_range-clause-among : goal.returns-then-is_range-clause-among
returns-then-is_range-clause-among c = (eqb-true _ 2 (sym c.is_range.ensures ∙ c.if-is_range.true), c.in-Err.ensures.among)

pub returns-else-is_range-clause-told : goal.returns-else-is_range-clause-told
returns-else-is_range-clause-told c = rw (← c.in-Err.ensures.told.0, sym c.is_range.ensures ∙ c.if-is_range.false)
