-- One after the other.
use Rattle.spelling.specs.Spelling.{marks_of}
use Rattle.spelling.proofs.Laws.{mark-given, ◌then◌}
use Rattle.spelling.proofs.line.Line.marks.Goals as goal

pub returns : goal.returns
unfolding marks_of
returns c =
    let odd = rw (c.then_some.ensures, mark-given) at c.mark.ensures in
    let rr = rw (c.then_some-2.ensures, mark-given) at c.mark-2.ensures in
    let rni = rw (c.then_some-3.ensures, mark-given) at c.mark-3.ensures in
    let user = rw (c.then_some-4.ensures, mark-given) at c.mark-4.ensures in
    rw (← c.is_odd.ensures, ← c.user_name.ensures) (odd then rr then rni then user)
