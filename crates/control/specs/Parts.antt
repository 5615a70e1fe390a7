-- Latches after an instruction, for each range of codes that can change them. This is the code's way only: each is what `latches_after` says there.
use Rattle.std.specs.Prelude.{ℕ, ◌-◌, ◌%◌, [], ◌∷◌}
use Rattle.std.specs.Int.Bits.{bit_and, bit_or}
use Rattle.choose.specs.Ranged.{ranged}
use Rattle.control.specs.Latches.{used, with_interrupts, with_loaded, with_modification, input_latches_of}
use Rattle.state.specs.declared.Latches.{Latches}
use Rattle.state.specs.declared.Sample.{Sample}

-- 70-77
unfoldable pub latches_after70_to77 : Latches → ℕ → ℕ → ℕ → Latches
latches_after70_to77 l code b ra =
    ranged code
    ((0x70, used l) ∷
    (0x71, with_interrupts l (bit_and l.interrupts (7 - b % 8))) ∷  -- RI
    (0x72, with_interrupts l (bit_or l.interrupts (b % 8))) ∷  -- SI
    (0x75, used l) ∷
    (0x76, with_loaded l (ra % 8) l.tr l.ics) ∷  -- LGL
    [])
    (used l)

-- E0-E7
unfoldable pub latches_after_input : Latches → ℕ → ℕ → Sample → Latches
latches_after_input l code b sample =
    ranged code ((0xE2, used l) ∷ (0xE4, input_latches_of l b sample.dal sample.ics) ∷ []) (used l)

-- E8-EF
unfoldable pub latches_after_load : Latches → ℕ → ℕ → Latches
latches_after_load l code pair =
    ranged code ((0xEC, used l) ∷ (0xEE, with_modification l pair) ∷ (0xF0, with_loaded l l.g pair l.ics) ∷ []) (used l)
