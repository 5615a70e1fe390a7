-- Demand 3: sums and differences of any number of bytes, cut into byte and pair steps, and subtracting after adding. Assumes nothing.
use Prim.Native.Nat.{ℕ, ◌+◌, ◌*◌, ◌/◌, ◌<◌, ◌≤◌}
use native.Mathlib.Omega.{arith}
use mathlib.Core.Path.{◌≡◌, refl, ap, sym, ◌∙◌}
use mathlib.Core.Bool.{false}
use mathlib.Core.List.{List, [], ◌∷◌, ◌++◌, append-nil}
use lib.ListN.{length, drop}
use Rattle.engine.specs.Run.{World, world, run_from}
use Rattle.numbers.specs.Numbers.{word_at}
use Rattle.state.specs.declared.Latches.{Latches}
use Rattle.state.specs.declared.Sample.{Sample}
use Rattle.sums.specs.Sums.{Cut, Sign, byte_count, instructions_of, InPlace, Computing, Fair, Ready, Summed}
use Rattle.sums.specs.Sums.{TwoCuts, there_and_back, BackInOneRun, BackInTwoRuns}
use Rattle.sums.specs.Sums.Sign.{plus, minus}
use Rattle.sums.proofs.Back.{restored}
use Rattle.sums.proofs.Further.{further}
use Rattle.sums.proofs.Given.{some-steps}
use Rattle.sums.proofs.Run.{after}
use Rattle.sums.proofs.Summed.{summed-after, goes_on, ready-after}

-- ---- sums and differences

none_left : (ss : List Sample) → Computing ss [] → ss ≡ []
none_left [] c = refl
none_left (s ∷ ss) c = absurd c

run_none : (ws : List ℕ) (ss : List Sample) (v : World) → Computing ss [] → run_from ws [] ss v ≡ v
unfolding run_from
run_none ws ss v c = rw (none_left ss c)

module _ (sign : Sign) (cut : Cut) (ws : List ℕ) (ss : List Sample) (v : World) (f : Fair cut) (h : Ready (instructions_of sign false cut) ws ss v) where
  -- with nothing after the cut's words
  alone : Ready (instructions_of sign false cut ++ []) ws ss v
  alone = rw (append-nil (instructions_of sign false cut)) h

  pub run-steps : run_from ws [] ss v ≡ after sign false cut ws v
  run-steps =
      goes_on sign cut [] ws ss v alone f
      ∙ run_none ws (drop (length cut) ss) (after sign false cut ws v) (ready-after sign cut [] ws ss v alone f).computing

  pub sum-theorem : Summed sign cut ws v (run_from ws [] ss v)
  sum-theorem = rw run-steps (summed-after sign cut [] ws ss v alone f)

-- ---- back again, with the same registers cut in any two ways

-- what is known of the first cut's registers is known of the second's
pub fair_back : (there back : Cut) → TwoCuts there back → Fair back
fair_back there back two =
    record {
      some = rw two.same-targets at two.fair.some;
      different = rw (two.same-targets, two.same-sources) at two.fair.different;
      even = two.even;
    }

same_count : (there back : Cut) → TwoCuts there back → byte_count back ≡ byte_count there
same_count there back two = ap length (sym two.same-targets)

-- in one run: the words of the difference follow those of the sum
module _ (there back : Cut) (ws : List ℕ) (ss : List Sample) (v : World) (two : TwoCuts there back) (h : Ready (there_and_back there back) ws ss v) where
  abbrev between : World
  between = after plus false there ws v

  abbrev rest : List Sample
  rest = drop (length there) ss

  abbrev end : World
  end = run_from ws [] ss v

  sum : Summed plus there ws v between
  sum = summed-after plus there (instructions_of minus false back) ws ss v h two.fair

  joined : end ≡ run_from ws [] rest between
  joined = goes_on plus there (instructions_of minus false back) ws ss v h two.fair

  difference : Summed minus back ws between end
  difference =
      rw joined
      (sum-theorem minus back ws rest between (fair_back there back two)
      (ready-after plus there (instructions_of minus false back) ws ss v h two.fair))

  pub back-in-one-run : BackInOneRun there back ws v (run_from ws [] ss v)
  back-in-one-run =
      let k = byte_count there in
      let twice : k + byte_count back ≡ 2 * k = omega (arith, same_count there back two) in
      record {
        restored = restored there back ws ws v between between end two h.file h.bytes sum refl difference;
        advanced = rw twice at
            (further (length there) k (length back) (byte_count back) ws v between end sum.advanced difference.advanced h.lc
            (some-steps back (fair_back there back two).some));
      }

-- in two: the second begins, with words, samples and a buffer of its own, from the registers that the first left
pub back-in-two-runs : (there back : Cut) (ws : List ℕ) (ss : List Sample) (v : World) (ws' : List ℕ) (ss' : List Sample) (u : World)
    → TwoCuts there back → Ready (instructions_of plus false there) ws ss v
    → u.file ≡ (run_from ws [] ss v).file → Ready (instructions_of minus false back) ws' ss' u
    → BackInTwoRuns there back ws' v u (run_from ws' [] ss' u)
back-in-two-runs there back ws ss v ws' ss' u two h registers h' =
    let m = run_from ws [] ss v in
    let w = run_from ws' [] ss' u in
    let sum = sum-theorem plus there ws ss v two.fair h in
    let difference = sum-theorem minus back ws' ss' u (fair_back there back two) h' in
    record {
      restored = restored there back ws ws' v m u w two h.file h.bytes sum registers difference;
      advanced = rw (same_count there back two) at difference.advanced;
    }

-- and it can always begin so: of the state that a run left only its own words, samples and places are asked
pub ready-again : (sign : Sign) (cut : Cut) (ws : List ℕ) (ss : List Sample) (v : World) (is ws' : List ℕ) (ss' : List Sample) (buffer : List ℕ) →
    let m = run_from ws [] ss v in
    Fair cut
    → Ready (instructions_of sign false cut) ws ss v
    → ((i : ℕ) → i < length ws' / 4 → word_at ws' i < 0x40_0000)
    → InPlace ws' m.core.address.lc is
    → Computing ss' is
    → length is * 4 ≤ length buffer
    → Ready is ws' ss' (world m.file m.core 0 0 0 buffer)
ready-again sign cut ws ss v is ws' ss' buffer f h below p c room =
    let sum = sum-theorem sign cut ws ss v f h in
    record {
      words = below;
      file = sum.file;
      bytes = sum.bytes;
      lc = omega (arith, sum.advanced.lc);
      places = omega arith;
      in_place = p;
      computing = c;
      unmarked = ap (λ (l : Latches). l.marked) sum.advanced.latches ∙ h.unmarked;
      unmodified = ap (λ (l : Latches). l.modification) sum.advanced.latches ∙ h.unmodified;
    }
