-- 02, L12: "for any cut of the samples, running the first part and then the rest from the state reached gives the same final state, requests, answer and
-- summed attempts and microcycles as one run". Here the runs of a deck's sections.
use Rattle.std.specs.Prelude.{ℕ, ◌+◌, ◌*◌, List, [], ◌∷◌, ◌++◌, eqb, take, drop}
use Rattle.choose.specs.Ranged.{pick}
use Rattle.engine.specs.Run.{World, world, run_from}
use Rattle.rows.specs.declared.Row.{Row}
use Rattle.run_laws.specs.Attempts.{state_of}
use Rattle.state.specs.File.{Leaves}
use Rattle.state.specs.declared.Core.{Core}
use Rattle.state.specs.declared.Sample.{Sample}

-- before the first attempt of a run that has this state and this request buffer
abbrev pub begun : Leaves Core → List ℕ → World
begun x buffer = world x.file x.back 0 0 0 buffer

-- the request buffer up to the end of a run's own places, and the rest of it
abbrev pub places_of : World → List ℕ
places_of v = take (v.attempts * 4) v.buffer

abbrev pub places_left : World → List ℕ
places_left v = drop (v.attempts * 4) v.buffer

-- two runs as one: the later one's state and answer, the "summed attempts and microcycles", and the later one's requests after the earlier one's
abbrev pub joined : World → World → World
joined v u = world u.file u.core u.answer (v.attempts + u.attempts) (v.microcycles + u.microcycles) (places_of v ++ u.buffer)

-- the samples in parts: each part starts "from the state reached" by the one before, with the places that it left, until one is refused
unfoldable pub run_in_parts : List ℕ → List Row → List (List Sample) → Leaves Core → List ℕ → World
run_in_parts ws rs [] x buffer = begun x buffer
run_in_parts ws rs (ss ∷ parts) x buffer =
    let v = run_from ws rs ss (begun x buffer) in
    pick (eqb v.answer 0) (joined v (run_in_parts ws rs parts (state_of v) (places_left v))) v
