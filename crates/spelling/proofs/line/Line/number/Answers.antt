-- One after the other.
use Rattle.spelling.specs.Spelling.{digits_of}
use Rattle.spelling.proofs.Laws.{digit-given, ◌then◌}
use Rattle.spelling.proofs.line.Line.number.Goals as goal

pub returns : goal.returns
unfolding digits_of
returns c =
    let second = rw (c.then_some.ensures, digit-given) at c.digit.ensures in
    let third = rw (c.then_some-2.ensures, digit-given) at c.digit-2.ensures in
    let last = rw (c.then_some-3.ensures, digit-given) at c.digit-3.ensures in
    second then third then last
