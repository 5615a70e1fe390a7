-- A run is the same however its samples are cut: of the runs of a deck's sections. Assumes nothing.
use Prim.Native.Nat.{ℕ, suc, ◌+◌, ◌*◌, ◌/◌, ◌%◌, ◌-◌, ◌≤◌}
use mathlib.Core.Path.{◌≡◌, refl, sym, ap, ◌∙◌}
use mathlib.Core.Bool.{Bool, true, false}
use mathlib.Core.List.{List, [], ◌∷◌, ◌++◌, flatten}
use native.Mathlib.Nat.{add-zero}
use native.Mathlib.Omega.{arith}
use borrow.Author.Tests.{eqb-true, eqb-false, eq-eqb, ne_eqb}
use lib.Dec.{eqb}
use lib.ListN.{length, set, take-append-drop, length-append, length-drop}
use lib.Seq.{length-take-le}
use Rattle.attempt.specs.Attempt.{attempt_of}
use Rattle.attempt.specs.Outcome.{Outcome}
use Rattle.choose.proofs.Choice.{pick-both}
use Rattle.choose.specs.Ranged.{pick}
use Rattle.engine.specs.Run.{World, world, put4_of, stepped_of, stopped_of, run_from}
use Rattle.rows.specs.declared.Row.{Row}
use Rattle.run_laws.proofs.Answer.{run-counts}
use Rattle.run_laws.proofs.Pieces.{run-pieces}
use Rattle.run_laws.proofs.Places.{run-places}
use Rattle.run_laws.specs.Attempts.{state_of}
use Rattle.state.specs.File.{Leaves}
use Rattle.state.specs.declared.Core.{Core}
use Rattle.state.specs.declared.Sample.{Sample}
use Rattle.cuts.specs.Runs.{begun, places_of, places_left, joined, run_in_parts}

-- ---- a run that comes after another
-- bytes before a buffer move its places on
set-later : (a b : List ℕ) (i x : ℕ) → set (a ++ b) (length a + i) x ≡ a ++ set b i x
set-later [] b i x = ap (λ (j : ℕ). set b j x) (omega arith)
set-later (y ∷ a) b i x =
    let next : length (y ∷ a) + i ≡ suc (length a + i) = omega arith in
    rw next (ap (λ (l : List ℕ). y ∷ l) (set-later a b i x))

put-later : (a b : List ℕ) (at x : ℕ) → put4_of (a ++ b) (length a + at) x ≡ a ++ put4_of b at x
unfolding put4_of
put-later a b at x =
    let one : length a + at + 1 ≡ length a + (at + 1) = omega arith in
    let two : length a + at + 2 ≡ length a + (at + 2) = omega arith in
    let three : length a + at + 3 ≡ length a + (at + 3) = omega arith in
    rw (one, two, three)
    (rw (set-later a b at (x % 256), set-later a _ (at + 1) (x / 256 % 256))
    (rw (set-later a _ (at + 2) (x / 65536 % 256), set-later a _ (at + 3) (x / 16777216 % 256))))

-- a run u, told as one that comes after n attempts of c microcycles, whose places are the bytes a
abbrev later : ℕ → ℕ → List ℕ → World → World
later n c a u = world u.file u.core u.answer (n + u.attempts) (c + u.microcycles) (a ++ u.buffer)

module _ (ws : List ℕ) (rs : List Row) (n c : ℕ) (a : List ℕ) (places : length a ≡ n * 4) where
  stepped-later : (u : World) (e : Leaves Outcome) → stepped_of (later n c a u) e ≡ later n c a (stepped_of u e)
  unfolding stepped_of
  stepped-later u e =
      let attempts : n + u.attempts + 1 ≡ n + (u.attempts + 1) = omega arith in
      let microcycles : c + u.microcycles + e.back.cycles ≡ c + (u.microcycles + e.back.cycles) = omega arith in
      let at : (n + u.attempts) * 4 ≡ length a + u.attempts * 4 = omega arith in
      rw (attempts, microcycles, at, put-later a u.buffer (u.attempts * 4) e.back.request)

  -- an attempt looks at the state and its sample alone
  run-later : (ss : List Sample) (u : World) → run_from ws rs ss (later n c a u) ≡ later n c a (run_from ws rs ss u)
  unfolding run_from stopped_of
  run-later [] u = refl
  run-later (s ∷ ss) u =
      let x = attempt_of ws rs u.file u.core s in
      pick-both (λ (v v' : World). v ≡ later n c a v') (eqb x.back.refusal 0) _ _ _ _
      (ap (run_from ws rs ss) (stepped-later u x) ∙ run-later ss (stepped_of u x)) refl

-- a run that ended with 0 is one that begins anew where it stands, told as coming after itself
begins-anew : (v : World) → v.answer ≡ 0 → v ≡ later v.attempts v.microcycles (places_of v) (begun (state_of v) (places_left v))
begins-anew v z =
    rw (add-zero v.attempts, add-zero v.microcycles, take-append-drop (v.attempts * 4) v.buffer)
    (ap (λ (answer : ℕ). world v.file v.core answer v.attempts v.microcycles v.buffer) z)

-- ---- two parts
module _ (ws : List ℕ) (rs : List Row) (ss ts : List Sample) (x : Leaves Core) (buffer : List ℕ) where
  abbrev first : World
  first = run_from ws rs ss (begun x buffer)

  abbrev rest : World
  rest = run_from ws rs ts (begun (state_of first) (places_left first))

  -- "if the first part ended with 0 and the request buffer covers all samples", of which those of the first part are asked for
  pub then-the-rest : first.answer ≡ 0 → length ss * 4 ≤ length buffer → run_from ws rs (ss ++ ts) (begun x buffer) ≡ joined first rest
  then-the-rest z covers =
      let size : length (places_of first) ≡ first.attempts * 4 =
      length-take-le (first.attempts * 4) first.buffer
      (omega (arith, (run-counts ws rs ss (begun x buffer) refl).full z, (run-places ws rs ss (begun x buffer)).size)) in
      run-pieces ws rs ss ts (begun x buffer) refl
      ∙ rw (eq-eqb _ 0 z)
      (ap (run_from ws rs ts) (begins-anew first z) ∙ run-later ws rs first.attempts first.microcycles (places_of first) size ts _)

  -- "Where the first part is refused by 5 to 8, one run stops at the same attempt with the same number"
  pub no_more : (first.answer ≡ 0 → ⊥) → run_from ws rs (ss ++ ts) (begun x buffer) ≡ first
  no_more z = run-pieces ws rs ss ts (begun x buffer) refl ∙ rw (ne_eqb _ 0 z)

-- ---- any number of parts
-- what is chosen by an answer, 0 or another
pub by_answer : {A : Type 0} (answer : ℕ) (a b c : A) → (answer ≡ 0 → a ≡ c) → ((answer ≡ 0 → ⊥) → b ≡ c) → pick (eqb answer 0) a b ≡ c
by_answer {A} answer a b c zero other = go (eqb answer 0) refl
  where
    go : (t : Bool) → eqb answer 0 ≡ t → pick t a b ≡ c
    go true q = zero (eqb-true _ _ q)
    go false q = other (eqb-false _ 0 q)

-- a run is the same however it is cut, if "the request buffer covers all samples"
pub run-in-parts : (ws : List ℕ) (rs : List Row) (parts : List (List Sample)) (x : Leaves Core) (buffer : List ℕ)
    → length (flatten parts) * 4 ≤ length buffer → run_in_parts ws rs parts x buffer ≡ run_from ws rs (flatten parts) (begun x buffer)
unfolding run_in_parts flatten run_from
run-in-parts ws rs [] x buffer covers = refl
run-in-parts ws rs (ss ∷ parts) x buffer covers =
    let v = run_from ws rs ss (begun x buffer) in
    let both : length (ss ++ flatten parts) ≡ length ss + length (flatten parts) = length-append ss (flatten parts) in
    by_answer v.answer _ _ _
    (λ z.
    let left : length (places_left v) ≡ length v.buffer - v.attempts * 4 = length-drop (v.attempts * 4) v.buffer in
    ap (joined v)
    (run-in-parts ws rs parts (state_of v) (places_left v)
    (omega (arith, (run-counts ws rs ss (begun x buffer) refl).full z, (run-places ws rs ss (begun x buffer)).size)))
    ∙ sym (then-the-rest ws rs ss (flatten parts) x buffer z (omega arith)))
    (λ z. sym (no_more ws rs ss (flatten parts) x buffer z))
