-- A refusal, or the deck's run with the memory, by what each part ensures.
use Rattle.std.proofs.Common.{arith, sym, ◌∙◌}
use Rattle.bus_memory.proofs.Laws.{accepts}
use Rattle.refusals.proofs.Laws.{not-0}
use Rattle.engine.proofs.Hosts.{places}
use Rattle.memory.specs.Lent.{together_of}
use Rattle.memory.proofs.Hosts.{refuses-deck, refuses-memory, answers, same-run}
use Rattle.memory.proofs.run_with_memory.Goals as goal

pub returns-in-Err : goal.returns-in-Err
returns-in-Err c =
    let number = c.in-Err.ensures.refusal in
    rw (c.from.ensures, number) (refuses-deck _ _ _ _ _ _ (λ z. not-0 c.in-Err.refusal (number ∙ z)))

pub returns-in-Some : goal.returns-in-Some
returns-in-Some c =
    let refusal = c.in-Some.refusal in
    rw (c.from-in-Some.ensures, c.in-Some.ensures)
    (refuses-memory _ _ _ _ _ _ (sym c.in-Ok.ensures.refusal) (λ z. not-0 refusal (c.in-Some.ensures ∙ z)))

pub overflow_cast-delay : goal.overflow_cast-delay
overflow_cast-delay c = omega (arith, (accepts _ _ (sym c.in_default.ensures)).2)

pub attempts-ran-requires : goal.attempts-ran-requires
attempts-ran-requires c =
    let room = places _ _ _ _ (sym c.in-Ok.ensures.refusal) in
    rw c.in-Ok.ensures.opened.0.samples (room.0, room.1, omega arith)

pub returns : goal.returns
returns c =
    let a = c.args in
    let (parts, chip) = c.in-Ok.ensures.opened in
    let accepted = sym c.in-Ok.ensures.refusal in
    let state = rw (parts.state, chip) at c.load-core.ensures in
    let ran = c.attempts-ran in
    rw (c.store.ensures, c.from-2.ensures)
    (answers a.deck.now a.memory.now a.delay a.requests.now a.state.now a.marking accepted (sym c.in_default.ensures)
    (together_of ran.result ran.new.file ran.new.requests ran.new.memory)
    (ran.ensures
    ∙ same-run a.deck.now a.memory.now a.delay a.requests.now a.state.now a.marking accepted _ _ _ _ _ _
    c.rows-codes.ensures parts.words parts.samples parts.rows state))
