use Rattle.bus_memory.specs.Memory.{nothing_kept}
use Rattle.engine.specs.Run.{world}
use Rattle.memory.specs.Run.{together}
use Rattle.memory.proofs.Loop.{Good}
use Rattle.memory.proofs.attempts.Given as goal

-- what is left to run after i attempts gives the whole run
abbrev pub invariant-loop-i : goal.invariant-loop-i
invariant-loop-i l =
    Good l.codes l.words l.part l.samples l.n l.delay (together (world l.initial.file l.fn.first 0 0 0 l.initial.requests) l.initial.memory nothing_kept)
    l.i l.core l.microcycles l.kept l.file l.requests l.memory
