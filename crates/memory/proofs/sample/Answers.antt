use Rattle.std.proofs.Common.{◌∙◌}
use Rattle.deck.proofs.Laws.{sample-of}
use Rattle.memory.proofs.sample.Goals as goal

pub returns : goal.returns
returns c = c.sample.ensures ∙ sample-of _ _
