-- A text has no line only where it has no byte; else its first line ends at the first newline.
use mathlib.Core.Path.{sym, ◌∙◌}
use Rattle.std.proofs.Common.{rules}
use Rattle.pieces.proofs.Firsts.{line_first, line-last, no_lines, rest}
use Rattle.pieces.proofs.first_line.Goals as goal

pub returns-then-is_empty-clause-first : goal.returns-then-is_empty-clause-first
returns-then-is_empty-clause-first c = no_lines _ (search rules)

pub returns-in-Some-clause-first : goal.returns-in-Some-clause-first
returns-in-Some-clause-first c = rw rest (line_first _ _ (sym c.place_of.ensures ∙ c.in-Some.is))

pub returns-in-None-clause-first : goal.returns-in-None-clause-first
returns-in-None-clause-first c = line-last _ (search rules) (sym c.place_of.ensures ∙ c.in-None.is)
