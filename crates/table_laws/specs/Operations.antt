-- What each operation of manual 5.3.2 gives, a line for its byte and word forms together, with the codes that have it: 01's "Codes, cycles and
-- flags". Nothing here uses the engine's plans, cycles or tables.
use Rattle.std.specs.Prelude.{ℕ, ◌+◌, ◌-◌, ◌*◌, ◌/◌, ◌%◌, Bool, true, false, not, ◌||◌, List, [], ◌∷◌, leb, ltb}
use Rattle.std.specs.Bool.{beq}
use Rattle.std.specs.Int.Bits.{bit_and, bit_or, bit_xor}
use Rattle.alu.specs.declared.Flags.{Flags}
use Rattle.attempt_laws.specs.Fate.{within, odd}
use Rattle.choose.specs.Ranged.{bit, pick}

-- the number, what NB and N show of it, and C4, C8, V and C after it
pub record Result : Type 0 where
  pub number : ℕ
  pub negative : Bool
  pub c4 : Bool
  pub c8 : Bool
  pub v : Bool
  pub c : Bool

-- ---- the operations, on numbers below h: 256 for a byte, 65536 for a word. "A word operation is the low byte, then the high byte with C8 as its
-- carry .. ZB and Z see both bytes, other bits the second cycle": so C8, V and C of a word are those of the whole numbers, and C4 is the carry into
-- the highest digit

-- "V says the signed sum is outside -128 to 127": a number of h/2 or more stands for itself less h
abbrev pub less_of : ℕ → ℕ → ℕ
less_of half x = pick (leb half x) (2 * half) 0

abbrev pub signed_outside : ℕ → ℕ → ℕ → Bool → Bool
signed_outside half p q c =
    ltb (p + q + bit c + half) (less_of half p + less_of half q) ||
    leb (less_of half p + less_of half q + half) (p + q + bit c)

-- "result is the sum modulo 256; C8 says the sum is 256 or more; C4 the same of the low digits and 16; ..; C equals C8"
unfoldable pub sum_of : ℕ → ℕ → ℕ → Bool → Result
sum_of h p q c =
    record {
      number = (p + q + bit c) % h;
      negative = leb (h / 2) ((p + q + bit c) % h);
      c4 = leb (h / 16) (p % (h / 16) + q % (h / 16) + bit c);
      c8 = leb h (p + q + bit c);
      v = signed_outside (h / 2) p q c;
      c = leb h (p + q + bit c);
    }

-- "Subtract Ra-Rb: adds Ra, 255-Rb and 1. C8 is that carry, C the borrow", where more is taken than there is; the 1 is the carry in here
unfoldable pub difference_of : ℕ → ℕ → ℕ → Bool → Result
difference_of h p q c =
    let y = sum_of h p (h - 1 - q) c in
    record { number = y.number; negative = y.negative; c4 = y.c4; c8 = y.c8; v = y.v; c = ltb p (q + bit (not c)) }

-- moves, logic and inputs: "Logical V is 0, C kept", and C4 and C8 as 5.3.2 marks them
unfoldable pub logical_of : ℕ → ℕ → Flags → Result
logical_of h x f = record { number = x; negative = leb (h / 2) x; c4 = f.c4; c8 = f.c8; v = false; c = f.c }

-- "OCB sets C, clears C4 and C8"
unfoldable pub complement_of : ℕ → ℕ → Result
complement_of h q = record { number = h - 1 - q; negative = leb (h / 2) (h - 1 - q); c4 = false; c8 = false; v = false; c = true }

-- "Shift left: C8 and C are bit 7, C4 bit 3"; 02, L2: "V is now the carry into the top position differing from the carry out of it"
unfoldable pub shift_left_of : ℕ → ℕ → Bool → Result
shift_left_of h q c =
    let into = leb (h / 2) (q % (h / 2) * 2 + bit c) in
    let out = leb h (q * 2 + bit c) in
    record {
      number = (q * 2 + bit c) % h;
      negative = leb (h / 2) ((q * 2 + bit c) % h);
      c4 = odd (q / (h / 32));
      c8 = leb (h / 2) q;
      v = not (beq into out);
      c = leb (h / 2) q;
    }

-- "Shift right: C4 and V cleared, C8 and C bit 0"; "NB and N are bit 7 of the low byte"
unfoldable pub shift_right_of : ℕ → ℕ → Bool → Result
shift_right_of h q c =
    record {
      number = q / 2 + h / 2 * bit c;
      negative = odd ((q / 2 + h / 2 * bit c) / 128);
      c4 = false;
      c8 = odd q;
      v = false;
      c = odd q;
    }

-- ---- the lines

-- codes from first to last, whether Ra is written, and what comes of Ra's number, the other operand and the flags before
pub record Line : Type 0 where
  pub first : ℕ
  pub last : ℕ
  pub writes : Bool
  pub gives : ℕ → ℕ → ℕ → Flags → Result

abbrev pub written : ℕ → ℕ → (ℕ → ℕ → ℕ → Flags → Result) → Line
written first last gives = record { first = first; last = last; writes = true; gives = gives }

-- "Compare and test write no register"
abbrev pub unwritten : ℕ → ℕ → (ℕ → ℕ → ℕ → Flags → Result) → Line
unwritten first last gives = record { first = first; last = last; writes = false; gives = gives }

-- P of each line
infixr 5 ◌also◌
pub data Each (P : Line → Type 0) : List Line → Type 0 where
  end : Each P []
  ◌also◌ : {l : Line} {ls : List Line} → P l → Each P ls → Each P (l ∷ ls)

-- p is Ra; q is Rb, the literal, or what the data lines hold. "ABC and shifts with carry take the C flag"; "SBC adds 1-C in place of 1. TCB is 0-Rb,
-- decrement Rb-1"; "CIB adds C8; CDB adds 255 and C8"; "F0-F7: Ra gains 1 or 2", whose word forms stand apart
abbrev pub operations : List Line
operations =
    written 0x20 0x2F (λ h p q f. sum_of h p q false) ∷  -- AL
    unwritten 0x30 0x3F (λ h p q f. logical_of h (difference_of h p q true).number f) ∷  -- CL: "CL leaves C4 and C8"
    written 0x40 0x4F (λ h p q f. logical_of h (bit_and p q) f) ∷  -- NL
    unwritten 0x50 0x5F (λ h p q f. logical_of h (bit_and p q) f) ∷  -- TL
    written 0x60 0x6F (λ h p q f. logical_of h q f) ∷  -- LL
    written 0x76 0x76 (λ h p q f. sum_of h p 0 f.c8) ∷  -- CIB
    written 0x77 0x77 (λ h p q f. sum_of h p 255 f.c8) ∷  -- CDB
    written 0x80 0x87 (λ h p q f. logical_of h q f) ∷  -- MB MW CMB CMW
    written 0x88 0x8B (λ h p q f. shift_left_of h q f.c) ∷  -- SLBC SLWC
    written 0x8C 0x8F (λ h p q f. shift_left_of h q false) ∷  -- SLB SLW
    written 0x90 0x93 (λ h p q f. sum_of h q 1 false) ∷  -- ICB1 ICW1
    written 0x94 0x97 (λ h p q f. sum_of h q 2 false) ∷  -- ICB2 ICW2
    written 0x98 0x9B (λ h p q f. difference_of h 0 q true) ∷  -- TCB TCW
    written 0x9C 0x9F (λ h p q f. complement_of h q) ∷  -- OCB OCW
    written 0xA0 0xA7 (λ h p q f. sum_of h p q false) ∷  -- AB AW CAB CAW
    written 0xA8 0xAB (λ h p q f. sum_of h p q f.c) ∷  -- ABC AWC
    written 0xAE 0xAF (λ h p q f. sum_of h p q false) ∷  -- CAWI
    written 0xB0 0xB3 (λ h p q f. difference_of h p q true) ∷  -- SB SW
    unwritten 0xB4 0xB7 (λ h p q f. difference_of h p q true) ∷  -- CB CW
    written 0xB8 0xBB (λ h p q f. difference_of h p q (not f.c)) ∷  -- SBC SWC
    written 0xBC 0xBF (λ h p q f. difference_of h q 1 true) ∷  -- DB1 DW1
    written 0xC0 0xC3 (λ h p q f. logical_of h (bit_and p q) f) ∷  -- NB NW
    unwritten 0xC4 0xC7 (λ h p q f. logical_of h (bit_and p q) f) ∷  -- TB TW
    written 0xC8 0xCB (λ h p q f. logical_of h (bit_or p q) f) ∷  -- ORB ORW
    written 0xCC 0xCF (λ h p q f. logical_of h (bit_xor p q) f) ∷  -- XB XW
    written 0xD0 0xD3 (λ h p q f. logical_of h (bit_and p (h - 1 - q)) f) ∷  -- NCB NCW: "NCB is Ra and not Rb"
    written 0xD8 0xDB (λ h p q f. shift_right_of h q f.c) ∷  -- SRBC SRWC
    written 0xDC 0xDF (λ h p q f. shift_right_of h q false) ∷  -- SRB SRW
    written 0xE0 0xE7 (λ h p q f. logical_of h q f) ∷  -- IB IW ISB ISW
    written 0xF0 0xF1 (λ h p q f. sum_of h p 1 false) ∷  -- RIB1 WIB1
    written 0xF4 0xF5 (λ h p q f. sum_of h p 2 false) ∷  -- RIB2 WIB2
    []

-- how many lines have a code
abbrev pub lines_with : ℕ → List Line → ℕ
lines_with code [] = 0
lines_with code (l ∷ ls) = bit (within l.first l.last code) + lines_with code ls
