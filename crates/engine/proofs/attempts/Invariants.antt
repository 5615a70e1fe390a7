use Rattle.engine.specs.Run.{world}
use Rattle.engine.proofs.Loop.{Good}
use Rattle.engine.proofs.attempts.Given as goal

-- what is left to run after i attempts gives the whole run
abbrev pub invariant-loop-i : goal.invariant-loop-i
invariant-loop-i l =
    Good l.codes l.words l.part l.samples l.n (world l.initial.file l.fn.first 0 0 0 l.initial.requests) l.i l.core l.microcycles l.file l.requests
