-- The attempt with the memory's lines counts, or is refused by 17.
use Rattle.std.proofs.Common.{rules, refl, ◌∙◌}
use Rattle.attempt.specs.Outcome.{unrefused}
use Rattle.memory.proofs.Next.{stuck-alike, counts-too, sticks}
use Rattle.memory.proofs.attempted.Goals as goal
use Rattle.state.specs.File.{leaves}

pub returns-then-stuck : goal.returns-then-stuck
returns-then-stuck c =
    let a = c.args in
    rw (← c.seen-seen.ensures)
    (sticks a.codes.now a.words.now a.o _ a.kept a.core a.file.now c.seen-seen.result (leaves c.attempt.new.file (unrefused c.in-Ok.done)) c.in-Ok.ensures
    (search rules) refl
    (rw (← stuck-alike a.words.now a.core c.in-Ok.done.request _ _, ← c.transfer-transfer.ensures, ← c.stuck.ensures) c.if-stuck.true))

pub returns : goal.returns
returns c =
    let a = c.args in
    rw (← c.seen-seen.ensures)
    (counts-too a.words.now _ a.kept a.core a.file.now (leaves c.attempt.new.file (unrefused c.in-Ok.done)) _ c.in-Ok.ensures refl
    (rw (← stuck-alike a.words.now a.core c.in-Ok.done.request _ _, ← c.transfer-transfer.ensures, ← c.stuck.ensures) c.if-stuck.false))
