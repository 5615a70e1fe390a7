-- The place among the words that are left is the place among all.
use Rattle.std.proofs.Common.{ℕ, ◌-◌, ◌≡◌}
use Rattle.std.specs.Prelude.{Err}
use Rattle.choose.specs.Below.{firsts}
use Rattle.code.specs.Word.{number_of}
use Rattle.numbers.specs.Numbers.{word_at}
use Rattle.listing.specs.Listed.{first_with}
use Rattle.listing.proofs.first_with.Given as goal

abbrev pub invariant-loop-i : goal.invariant-loop-i
invariant-loop-i l =
    let k : ℕ = number_of (Err l.why) in
    first_with k 0 (firsts (word_at l.words) 0 l.n) ≡ first_with k l.i (firsts (word_at l.words) l.i (l.n - l.i))
