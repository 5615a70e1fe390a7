-- The first broken rule among the words that are left is the first among all.
use Rattle.std.proofs.Common.{◌-◌, ◌≡◌}
use Rattle.choose.specs.Below.{firsts}
use Rattle.numbers.specs.Numbers.{word_at}
use Rattle.profile.specs.Profile.{broken_from}
use Rattle.profile.proofs.first_broken.Given as goal

abbrev pub invariant-loop-address : goal.invariant-loop-address
invariant-loop-address l =
    broken_from 0 (firsts (word_at l.words) 0 l.n) ≡ broken_from l.address (firsts (word_at l.words) l.address (l.n - l.address))
