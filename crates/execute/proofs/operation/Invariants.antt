-- The loop runs the cycles one after the other.
use Rattle.std.proofs.Common.{◌≡◌}
use Rattle.execute.proofs.Cycled.{cycled_to, cycled}
use Rattle.execute.proofs.operation.Given as goal

abbrev pub invariant-loop : goal.invariant-loop
invariant-loop l =
    let i = l.initial in
    cycled l.g l.f l.code l.at.b l.at.a l.counter (cycled_to i.file i.y i.carry i.zero i.high) ≡ cycled_to l.file l.y l.carry l.zero l.high
