-- What the code's loop has so far, as a world of the run, and the loop by the tables that are lent. This is the code's way only; `run-as` says that by THE
-- table and rows in range it is the run of 01.
use Rattle.std.specs.Prelude.{ℕ, List, [], ◌∷◌, eqb, take}
use Rattle.choose.specs.Ranged.{pick}
use Rattle.attempt.specs.Lent.{attempt_by, inputs_by}
use Rattle.attempt.specs.Outcome.{Outcome}
use Rattle.refusals.specs.Refusals.{answer_of}
use Rattle.rows.specs.Packing.{scan_in}
use Rattle.rows.specs.Table.{whole_rows, table_of}
use Rattle.rows.specs.declared.Inputs.{Inputs}
use Rattle.rows.specs.declared.Outputs.{Outputs}
use Rattle.rows.specs.declared.Packed.{Packed}
use Rattle.state.specs.File.{Leaves}
use Rattle.state.specs.declared.Core.{Core}
use Rattle.state.specs.declared.Sample.{Sample}
use Rattle.engine.specs.declared.RunEnd.{RunEnd}
use Rattle.engine.specs.Run.{World, world, stepped_of, stopped_of}

-- what a run leaves, with the registers and the places
abbrev pub world_of : RunEnd → List ℕ → List ℕ → World
world_of r xs b = world xs r.core (answer_of r.answer) r.attempts r.microcycles b

-- the rows of the table that are lent
abbrev pub lent_rows : List ℕ → List Packed
lent_rows part = take (whole_rows part) (table_of part)

abbrev pub unseen : Inputs
unseen = record { lc = 0; rni = 0; tr = 0; tsr = 0; interrupts = 0 }

-- what m rows are matched against; without rows nothing is looked at
unfoldable pub inputs_for : ℕ → List ℕ → Core → Sample → Inputs
inputs_for m ws k s = pick (eqb m 0) unseen (inputs_by ws k s)

-- the run after an attempt that left e
abbrev pub after_of : World → Leaves Outcome → World
after_of w e = pick (eqb e.back.refusal 0) (stepped_of w e) (stopped_of w e.back.refusal)

-- one more attempt, by what the rows put out
unfoldable pub next_by : List ℕ → List ℕ → Outputs → Sample → World → World
next_by codes ws o s w = after_of w (attempt_by codes ws o w.file w.core s)

-- the samples that are left, until an attempt is refused
unfoldable pub run_by : List ℕ → List ℕ → List Packed → List Sample → World → World
run_by codes ws ps [] w = w
run_by codes ws ps (s ∷ ss) w =
    let next = next_by codes ws (scan_in ps (inputs_by ws w.core s)) s w in
    pick (eqb next.answer 0) (run_by codes ws ps ss next) next
