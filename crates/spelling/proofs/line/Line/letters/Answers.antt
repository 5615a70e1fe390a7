-- One after the other.
use Rattle.spelling.specs.Spelling.{letters_of}
use Rattle.spelling.proofs.Laws.{◌then◌}
use Rattle.spelling.proofs.line.Line.letters.Goals as goal

pub returns : goal.returns
unfolding letters_of
returns c = c.letter.ensures then c.letter-2.ensures then c.letter-3.ensures then c.letter-4.ensures
