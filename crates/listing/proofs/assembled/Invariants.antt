-- The lines that are left give the report of all lines, and make of the words what all lines were to make of them.
use Rattle.std.proofs.Common.{length, ◌+◌, ◌*◌, ◌≤◌, ◌≡◌}
use Rattle.std.proofs.lemmas.List.Edits.{sets}
use Rattle.pieces.specs.Parts.{lines_of}
use Rattle.listing.specs.Assembled.{bytes_of, words_from, refusal_from}
use Rattle.listing.proofs.assembled.Given as goal

abbrev pub invariant-loop-line : goal.invariant-loop-line
invariant-loop-line l =
    record {
      low : l.next ≤ 2048;
      counted : l.number ≤ l.next + 1;
      report : refusal_from 1 0 (lines_of l.text) ≡ refusal_from l.number l.next (lines_of l.left);
      written :
          sets l.initial.words 0 (bytes_of (words_from 0 (lines_of l.text)))
          ≡ sets l.words (4 * l.next) (bytes_of (words_from l.next (lines_of l.left)));
    }

abbrev pub decreases-loop-line : goal.decreases-loop-line
decreases-loop-line l = length l.left
