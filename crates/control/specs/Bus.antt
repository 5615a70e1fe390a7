-- The bus after an executed instruction, and its request. 01, "One attempt" and "Codes, cycles and flags".
use Rattle.std.specs.Prelude.{ℕ, ◌+◌, ◌-◌, ◌*◌, ◌/◌, ◌%◌, ◌^◌, Bool, true, false, not, ◌&&◌, ◌||◌, [], ◌∷◌, eqb}
use Rattle.choose.specs.Ranged.{pick, ranged}
use Rattle.state.specs.declared.Bus.{Bus}
use Rattle.state.specs.declared.Marking.{Marking}

abbrev pub bus_with : ℕ → Bool → Bool → Bus
bus_with m s i = record { m = m; sync = s; iack = i }

-- TR14 is bit 14 of TR
abbrev pub tr_bit : ℕ → ℕ → Bool
tr_bit i tr = eqb (tr / 2 ^ i % 2) 1

-- 02, L14: "Q1 is (not TR14 and TR13) or (not TR14, not TR12, TR11, not TR10, TR9, TR8, TR7 and TR6 together)"
unfoldable pub q1_of : ℕ → Bool
q1_of tr =
    (not (tr_bit 14 tr) && tr_bit 13 tr) ||
    (not (tr_bit 14 tr) && not (tr_bit 12 tr) && tr_bit 11 tr && not (tr_bit 10 tr) && tr_bit 9 tr && tr_bit 8 tr && tr_bit 7 tr && tr_bit 6 tr)

-- IB and IW with "b .. 4-7 (RMW)"; 02, L14: "With Q1, RMW happens only if Q1 is false, read from TR before the instruction"
unfoldable pub rmw_of : Marking → ℕ → ℕ → Bool
rmw_of Marking.CP1661B tr b = eqb (b / 4 % 2) 1
rmw_of Marking.CP1621B tr b = eqb (b / 4 % 2) 1 && not (q1_of tr)

-- "IB, IW drop SYNC and IACK unless .. RMW"
unfoldable pub after_input : Bus → Bool → Bus
after_input h rmw = pick rmw h (bus_with h.m false false)

-- "Reads and writes set M and SYNC; RA, WA also IACK. OB, OW, OS set M. .. OB and OW drop them." The pair is Rb:Ra before any change
unfoldable pub bus_after : Bus → ℕ → Bool → ℕ → Bus
bus_after h code rmw pair =
    ranged code
    ((0xE0, h) ∷
    (0xE4, after_input h rmw) ∷  -- IB, IW
    (0xF0, h) ∷
    (0xFA, bus_with pair true h.iack) ∷  -- F0-F7, R, W
    (0xFC, bus_with pair true true) ∷  -- RA, WA
    (0xFE, bus_with pair false false) ∷  -- OB, OW
    (0xFF, bus_with pair h.sync h.iack) ∷  -- OS
    [])
    h

-- "A request is kind times 65,536 plus a value"
abbrev pub placed : ℕ → ℕ → ℕ
placed kind value = kind * 65536 + value

-- "0 none, 1 read, 2 write, 3 read acknowledge, 4 write acknowledge (value Rb:Ra before any change), 5 data in (the sample's data),
-- 6 word out, 7 byte out, 8 status out (Rb:Ra), 9 status in (data)"
unfoldable pub request_of : ℕ → ℕ → ℕ → ℕ
request_of code pair dal =
    ranged code
    ((0xE0, 0) ∷
    (0xE4, placed 5 dal) ∷  -- IB, IW
    (0xE8, placed 9 dal) ∷  -- ISB, ISW
    (0xF0, 0) ∷
    (0xFA, placed (1 + code % 2) pair) ∷  -- even codes read, odd ones write
    (0xFC, placed (3 + code % 2) pair) ∷  -- RA, WA
    (0xFE, placed (7 - code % 2) pair) ∷  -- OB, OW
    (0xFF, placed 8 pair) ∷  -- OS
    [])
    0
