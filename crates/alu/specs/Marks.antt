-- The flags that one byte cycle, or the two of a word, leave. 01, "Codes, cycles and flags".
use Rattle.std.specs.Prelude.{Bool, ◌&&◌, leb, eqb}
use Rattle.choose.specs.Ranged.{pick}
use Rattle.alu.specs.declared.Cycle.{Cycle}
use Rattle.alu.specs.declared.Flags.{Flags}

-- "Status (NB ZB C4 C8) is always set ..; condition flags (N Z V C) only by .. odd codes"
unfoldable pub after_of : Flags → Cycle → Bool → Bool → Flags
after_of f y zero odd =
    let negative = leb 128 y.result in
    pick odd
    (record { n = negative; z = zero; v = y.v; c = y.c; nb = negative; zb = zero; c4 = y.c4; c8 = y.c8 })
    (record { n = f.n; z = f.z; v = f.v; c = f.c; nb = negative; zb = zero; c4 = y.c4; c8 = y.c8 })

unfoldable pub after_byte_of : Flags → Cycle → Bool → Flags
after_byte_of f y odd = after_of f y (eqb y.result 0) odd

-- "ZB and Z see both bytes, other bits the second cycle"
unfoldable pub after_word_of : Flags → Cycle → Cycle → Bool → Flags
after_word_of f first second odd = after_of f second (eqb first.result 0 && eqb second.result 0) odd
