-- What an executed instruction does, but for the next address: registers and flags, bus, latches, request, and whether it jumps.
use Rattle.std.specs.Prelude.{ℕ, List}
use Rattle.code.specs.declared.Operands.{Operands}
use Rattle.control.specs.Bus.{rmw_of, bus_after, request_of}
use Rattle.control.specs.Latches.{used, latches_after}
use Rattle.control.specs.Next.{way_of}
use Rattle.control.specs.declared.Way.{Way}
use Rattle.execute.specs.Execute.{literal_of, registers_of}
use Rattle.numbers.specs.Numbers.{pair_of}
use Rattle.state.specs.File.{Leaves, leaves, register_of}
use Rattle.state.specs.declared.Core.{Core}
use Rattle.state.specs.declared.Sample.{Sample}
use Rattle.attempt.specs.declared.Effect.{Effect}

-- "execution .. uses the modification up", and all else stays
abbrev pub used_up : Core → Effect
used_up core = record { flags = core.flags; bus = core.bus; latches = used core.latches; way = Way.Onward; request = 0 }

-- JMP, RFS and the conditional jumps leave registers, flags and bus; "execution .. uses the modification up"
unfoldable pub jumped_of : Core → ℕ → ℕ → Effect
jumped_of core code n =
    record {
      flags = core.flags;
      bus = core.bus;
      latches = used core.latches;
      way = way_of core.address.lc code n core.flags core.latches.ics;
      request = 0;
    }

-- literals leave the bus
unfoldable pub literal_effect : List ℕ → Core → ℕ → ℕ → ℕ → Leaves Effect
literal_effect xs core code v a =
    let m = literal_of xs core.latches.g core.flags code v a in
    leaves m.file (record { flags = m.back; bus = core.bus; latches = used core.latches; way = Way.Onward; request = 0 })

-- requests, M, TR and the modification take "Rb:Ra before any change", Rb high, by "G before the attempt"
unfoldable pub register_effect : List ℕ → Core → ℕ → ℕ → ℕ → Sample → Leaves Effect
register_effect xs core code b a sample =
    let ra = register_of xs core.latches.g a in
    let pair = pair_of ra (register_of xs core.latches.g b) in
    let m = registers_of xs core sample.dal code b a in
    leaves m.file
    (record {
      flags = m.back;
      bus = bus_after core.bus code (rmw_of core.marking core.latches.tr b) pair;
      latches = latches_after core.latches code b ra pair sample;
      way = Way.Onward;
      request = request_of code pair sample.dal;
    })

unfoldable pub effect_of : List ℕ → Core → ℕ → Operands → Sample → Leaves Effect
effect_of xs core code (Operands.Jump n) sample = leaves xs (jumped_of core code n)
effect_of xs core code (Operands.Literal v a) sample = literal_effect xs core code v a
effect_of xs core code (Operands.Two b a) sample = register_effect xs core code b a sample
