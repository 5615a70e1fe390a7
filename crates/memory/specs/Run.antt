-- A run with a memory: each attempt sees the memory's lines, and the memory its request. 02, L7, "Run engine and memory together from a program".
use Rattle.std.specs.Prelude.{ℕ, List, [], ◌∷◌, eqb, length}
use Rattle.choose.specs.Ranged.{pick}
use Rattle.attempt.specs.Attempt.{attempt_of, modified_of}
use Rattle.attempt.specs.Outcome.{Outcome}
use Rattle.bus_memory.specs.Memory.{transfers, seen_of, stored_in, kept_after, stuck_of}
use Rattle.bus_memory.specs.declared.Kept.{Kept}
use Rattle.code.specs.Word.{top_of}
use Rattle.engine.specs.Run.{World, stepped_of, stopped_of}
use Rattle.numbers.specs.Numbers.{word_at}
use Rattle.rows.specs.declared.Row.{Row}
use Rattle.state.specs.File.{Leaves}
use Rattle.state.specs.declared.Core.{Core}
use Rattle.state.specs.declared.Sample.{Sample}

-- all that a run with a memory has so far: what a run has, the memory's bytes, and what it keeps
pub record Together : Type 0 where
  pub world : World
  pub bytes : List ℕ
  pub kept : Kept

abbrev pub together : World → List ℕ → Kept → Together
together w bytes k = record { world = w; bytes = bytes; kept = k }

-- the code of the word at LC, a waiting modification ORed in
unfoldable pub code_at : List ℕ → Core → ℕ
code_at ws k = top_of (modified_of (word_at ws k.address.lc) k.latches)

-- the lines that the next attempt sees
unfoldable pub seen_by : List ℕ → Together → Sample → Sample
seen_by ws t s = seen_of t.bytes t.kept t.world.core.bus.sync (code_at ws t.world.core) s

-- an attempt that was not refused: the memory takes its request too
unfoldable pub taken_in : List ℕ → ℕ → Together → Leaves Outcome → Together
taken_in ws delay t e =
    let request = e.back.request in
    together (stepped_of t.world e) (stored_in t.bytes t.kept request) (kept_after delay t.kept (transfers (code_at ws t.world.core)) request)

-- "17 .., the state being that after the 32nd, counts and places as for 5-8"
unfoldable pub stopped_at : Together → ℕ → Together
stopped_at t number = together (stopped_of t.world number) t.bytes t.kept

-- after an attempt that left e: it was refused, or is refused by 17 in the place of a wait, or counts
unfoldable pub next_of : List ℕ → ℕ → Together → Leaves Outcome → Together
next_of ws delay t e =
    pick (eqb e.back.refusal 0)
    (pick (stuck_of (length t.bytes) t.kept (transfers (code_at ws t.world.core)) e.back.request) (stopped_at t 17) (taken_in ws delay t e))
    (stopped_at t e.back.refusal)

-- what an attempt leaves, by its registers, the rest of the state and its sample
abbrev pub Attempts : Type 0
Attempts = List ℕ → Core → Sample → Leaves Outcome

-- the samples that are left, by whatever attempts there are
unfoldable pub run_by : Attempts → List ℕ → ℕ → List Sample → Together → Together
run_by attempt ws delay [] t = t
run_by attempt ws delay (s ∷ ss) t =
    let next = next_of ws delay t (attempt t.world.file t.world.core (seen_by ws t s)) in
    pick (eqb next.world.answer 0) (run_by attempt ws delay ss next) next

-- and by those of 01
abbrev pub run_with : List ℕ → List Row → ℕ → List Sample → Together → Together
run_with ws rs delay ss t = run_by (attempt_of ws rs) ws delay ss t
