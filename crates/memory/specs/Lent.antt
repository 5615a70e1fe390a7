-- What the code's loop has so far, as a run with a memory has it, and an attempt by the tables that are lent. This is the code's way only; `same-run` says that
-- by THE table and rows in range it is the run of 01 and 02.
use Rattle.std.specs.Prelude.{ℕ, Bool, false, ◌&&◌, List, eqb}
use Rattle.choose.specs.Ranged.{pick}
use Rattle.attempt.specs.Lent.{attempt_by, inputs_by}
use Rattle.attempt.specs.Outcome.{Outcome, outcome_of}
use Rattle.bus_memory.specs.Memory.{kind_in, transfers, stuck_of}
use Rattle.bus_memory.specs.declared.Kept.{Kept}
use Rattle.engine.specs.RunEnds.{world_of}
use Rattle.rows.specs.Packing.{scan_in}
use Rattle.rows.specs.declared.Outputs.{Outputs}
use Rattle.rows.specs.declared.Packed.{Packed}
use Rattle.state.specs.File.{Leaves, leaves}
use Rattle.state.specs.declared.Core.{Core}
use Rattle.state.specs.declared.Sample.{Sample}
use Rattle.memory.specs.Run.{Together, together, Attempts, code_at, next_of, seen_by}
use Rattle.memory.specs.declared.Ran.{Ran}

-- of a wait (10), whether its code transfers: only then is the code looked at
unfoldable pub transfer_of : List ℕ → Core → ℕ → Bool
transfer_of ws k request = pick (eqb (kind_in request) 10) (transfers (code_at ws k)) false

-- an attempt that is refused by 17, and one that left e: so is it "in place of a 33rd IB, IW, OB or OW wait in a row"
abbrev pub by_17 : Core → List ℕ → Leaves Outcome
by_17 k xs = leaves xs (outcome_of k 0 0 17)

unfoldable pub with_17 : List ℕ → ℕ → Kept → Core → List ℕ → Leaves Outcome → Leaves Outcome
with_17 ws size kept k xs e = pick (eqb e.back.refusal 0 && stuck_of size kept (transfers (code_at ws k)) e.back.request) (by_17 k xs) e

-- with the registers, the places and the memory's bytes
abbrev pub together_of : Ran → List ℕ → List ℕ → List ℕ → Together
together_of r xs requests bytes = together (world_of r.end xs requests) bytes r.kept

-- one more attempt, by what the rows put out
unfoldable pub next_by : List ℕ → List ℕ → Outputs → ℕ → Sample → Together → Together
next_by codes ws o delay s t = next_of ws delay t (attempt_by codes ws o t.world.file t.world.core (seen_by ws t s))

-- an attempt by the tables that are lent
abbrev pub attempts_by : List ℕ → List ℕ → List Packed → Attempts
attempts_by codes ws ps xs k s = attempt_by codes ws (scan_in ps (inputs_by ws k s)) xs k s
