-- A refusal, or the deck's run, by what each part ensures.
use Rattle.std.proofs.Common.{arith, sym, ◌∙◌}
use Rattle.refusals.proofs.Laws.{not-0}
use Rattle.engine.specs.RunEnds.{world_of}
use Rattle.engine.proofs.Hosts.{places, refuses, answers, same-run}
use Rattle.engine.proofs.run.Goals as goal

pub returns-in-Err : goal.returns-in-Err
returns-in-Err c =
    let number = c.in-Err.ensures.refusal in
    rw (c.from.ensures, number) (refuses _ _ _ _ (λ z. not-0 c.in-Err.refusal (number ∙ z)))

pub attempts-ran-requires : goal.attempts-ran-requires
attempts-ran-requires c =
    let room = places _ _ _ _ (sym c.in-Ok.ensures.refusal) in
    rw c.in-Ok.ensures.opened.0.samples (room.0, room.1, omega arith)

pub returns : goal.returns
returns c =
    let a = c.args in
    let (parts, chip) = c.in-Ok.ensures.opened in
    let accepted = sym c.in-Ok.ensures.refusal in
    let state = rw (parts.state, chip) at c.load-core.ensures in
    let ran = c.attempts-ran in
    rw (c.store.ensures, c.from-2.ensures)
    (answers a.deck.now a.requests.now a.state.now a.marking accepted (world_of ran.result ran.new.file ran.new.requests)
    (ran.ensures
    ∙ same-run a.deck.now a.requests.now a.state.now a.marking accepted _ _ _ _ _ _ c.rows-codes.ensures parts.words parts.samples parts.rows state))
