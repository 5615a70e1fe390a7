-- What `add` takes from the nets by shifts and masks are the carries that its contract speaks of.
use Rattle.std.proofs.Common.{rules}
use Rattle.alu.specs.Cycle.{add_of}
use Rattle.alu.proofs.Nets.{net-law, masked-net, c8-net, v-net}
use Rattle.alu.proofs.add.Goals as goal

pub returns : goal.returns
unfolding add_of
returns c =
    let a = c.args in
    let into-4 = masked-net 4 a.p a.q a.carry in
    let into-7 = masked-net 7 a.p a.q a.carry in
    let into-8 = masked-net 8 a.p a.q a.carry in
    let c4 = net-law 4 a.p a.q a.carry in
    let c8 = c8-net a.p a.q a.carry (search rules) (search rules) in
    let v = v-net a.p a.q a.carry (search rules) (search rules) in
    rw (c.bit_of.ensures.0, into-4, into-7, into-8, c4, c8, v)
