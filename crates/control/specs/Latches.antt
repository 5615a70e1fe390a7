-- G, TR, ICS, the internal interrupts and the waiting modification after an executed instruction. 01, "One attempt" and "Codes, cycles and flags".
use Rattle.std.specs.Prelude.{ℕ, ◌-◌, ◌/◌, ◌%◌, Bool, true, false, [], ◌∷◌}
use Rattle.std.specs.Int.Bits.{bit_and, bit_or}
use Rattle.choose.specs.Ranged.{ranged}
use Rattle.state.specs.declared.Latches.{Latches}
use Rattle.state.specs.declared.Sample.{Sample}

-- "execution, which uses the modification up"
abbrev pub used : Latches → Latches
used l = record { g = l.g; tr = l.tr; ics = l.ics; interrupts = l.interrupts; marked = false; modification = 0 }

abbrev pub with_interrupts : Latches → ℕ → Latches
with_interrupts l i = record { g = l.g; tr = l.tr; ics = l.ics; interrupts = i; marked = false; modification = 0 }

abbrev pub with_loaded : Latches → ℕ → ℕ → Bool → Latches
with_loaded l g tr ics = record { g = g; tr = tr; ics = ics; interrupts = l.interrupts; marked = false; modification = 0 }

-- "MI sets the next": marked, also where the bits are 0
abbrev pub with_modification : Latches → ℕ → Latches
with_modification l n = record { g = l.g; tr = l.tr; ics = l.ics; interrupts = l.interrupts; marked = true; modification = n }

-- "IW b mod 4: 1, 2, 3 load TR; 1 also loads G from DAL 6-4, 2 from DAL 8-6"; "ICS is loaded from the sample by IW with b mod 4 not 0"
unfoldable pub input_latches_of : Latches → ℕ → ℕ → Bool → Latches
input_latches_of l b dal ics =
    ranged (b % 4) ((1, used l) ∷ (2, with_loaded l (dal / 16 % 8) dal ics) ∷ (3, with_loaded l (dal / 64 % 8) dal ics) ∷ []) (with_loaded l l.g dal ics)

-- "RI and SI clear and set I4-I6 by b bits 0-2; bit 3 does nothing. LGL loads G with Ra modulo 8. LTR loads TR, MI the modification, with Rb:Ra."
unfoldable pub latches_after : Latches → ℕ → ℕ → ℕ → ℕ → Sample → Latches
latches_after l code b ra pair sample =
    ranged code
    ((0x70, used l) ∷
    (0x71, with_interrupts l (bit_and l.interrupts (7 - b % 8))) ∷  -- RI
    (0x72, with_interrupts l (bit_or l.interrupts (b % 8))) ∷  -- SI
    (0x75, used l) ∷
    (0x76, with_loaded l (ra % 8) l.tr l.ics) ∷  -- LGL
    (0xE2, used l) ∷
    (0xE4, input_latches_of l b sample.dal sample.ics) ∷  -- IW
    (0xEC, used l) ∷
    (0xEE, with_modification l pair) ∷  -- MI
    (0xF0, with_loaded l l.g pair l.ics) ∷  -- LTR
    [])
    (used l)
