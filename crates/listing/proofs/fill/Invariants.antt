-- What is left of the gap makes of the words what the whole gap was to make of them.
use Rattle.std.proofs.Common.{◌*◌, ◌-◌, ◌≡◌, replicate}
use Rattle.std.proofs.lemmas.List.Edits.{sets}
use Rattle.listing.specs.Assembled.{bytes_of}
use Rattle.listing.proofs.fill.Given as goal

abbrev pub invariant-loop-at : goal.invariant-loop-at
invariant-loop-at l =
    sets l.words (4 * l.at) (bytes_of (replicate (l.address - l.at) 0xFF00))
    ≡ sets l.initial.words (4 * l.next) (bytes_of (replicate (l.address - l.next) 0xFF00))
