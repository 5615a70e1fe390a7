-- One byte cycle: operands p (Ra) and q (Rb), a carry in, and what comes out. 01, "Codes, cycles and flags".
use Rattle.std.specs.Prelude.{ℕ, ◌+◌, ◌-◌, ◌*◌, ◌/◌, ◌%◌, Bool, true, false, not, ◌||◌, ltb, leb, eqb}
use Rattle.std.specs.Bool.{beq}
use Rattle.std.specs.Int.Bits.{bit_and, bit_or, bit_xor}
use Rattle.choose.specs.Ranged.{bit, pick}
use Rattle.alu.specs.declared.Cycle.{Cycle}
use Rattle.alu.specs.declared.Flags.{Flags}
use Rattle.alu.specs.declared.Kind.{Kind}
use Rattle.alu.specs.declared.Kind.TheVariants.{Add, Subtract, And, AndNot, Or, Exclusive, Move, Ones, Left, Right}

-- the signed number that x stands for, with h added: h is half the range, 128 for a byte
abbrev pub biased : ℕ → ℕ → ℕ
biased h x = pick (ltb x h) (x + h) (x - h)

-- "V says the signed sum is outside -128 to 127": outside -h to h - 1, each number with h added
abbrev pub sum_outside : ℕ → ℕ → ℕ → Bool → Bool
sum_outside h x y c = ltb (biased h x + biased h y + bit c) h || leb (3 * h) (biased h x + biased h y + bit c)

-- "result is the sum modulo 256; C8 says the sum is 256 or more; C4 the same of the low digits and 16; .. C equals C8"
unfoldable pub add_of : ℕ → ℕ → Bool → Cycle
add_of p q c =
    record {
      result = (p + q + bit c) % 256;
      c4 = leb 16 (p % 16 + q % 16 + bit c);
      c8 = leb 256 (p + q + bit c);
      v = sum_outside 128 p q c;
      c = leb 256 (p + q + bit c);
    }

-- "adds Ra, 255-Rb and 1. C8 is that carry, C the borrow": the 1 is the carry in here
unfoldable pub subtract_of : ℕ → ℕ → Bool → Cycle
subtract_of p q c =
    let y = add_of p (255 - q) c in
    record { result = y.result; c4 = y.c4; c8 = y.c8; v = y.v; c = not y.c8 }

-- moves, logic and inputs: "Logical V is 0, C kept", and so are C4 and C8
unfoldable pub kept_of : ℕ → Flags → Cycle
kept_of r f = record { result = r; c4 = f.c4; c8 = f.c8; v = false; c = f.c }

-- "OCB sets C, clears C4 and C8"
unfoldable pub ones_of : ℕ → Cycle
ones_of q = record { result = 255 - q; c4 = false; c8 = false; v = false; c = true }

-- "Shift left: C8 and C are bit 7, C4 bit 3": the carry comes in at bit 0. 02, L2: "V is now the carry into the top position differing from the carry
-- out of it", which are bits 6 and 7
unfoldable pub left_of : ℕ → Bool → Cycle
left_of q c =
    let into = leb 64 (q % 128) in
    let out = leb 128 q in
    record { result = q * 2 % 256 + bit c; c4 = eqb (q / 8 % 2) 1; c8 = out; v = not (beq into out); c = out }

-- "Shift right: C4 and V cleared, C8 and C bit 0": the carry comes in at bit 7
unfoldable pub right_of : ℕ → Bool → Cycle
right_of q c =
    record { result = q / 2 + 128 * bit c; c4 = false; c8 = eqb (q % 2) 1; v = false; c = eqb (q % 2) 1 }

-- what each kind of cycle does; "NCB is Ra and not Rb"
unfoldable pub cycle_of : Kind → ℕ → ℕ → Bool → Flags → Cycle
cycle_of Add p q c f = add_of p q c
cycle_of Subtract p q c f = subtract_of p q c
cycle_of And p q c f = kept_of (bit_and p q) f
cycle_of AndNot p q c f = kept_of (bit_and p (255 - q)) f
cycle_of Or p q c f = kept_of (bit_or p q) f
cycle_of Exclusive p q c f = kept_of (bit_xor p q) f
cycle_of Move p q c f = kept_of q f
cycle_of Ones p q c f = ones_of q
cycle_of Left p q c f = left_of q c
cycle_of Right p q c f = right_of q c

-- "A word operation is the low byte, then the high byte .. Right shifts go high byte first"
abbrev pub high_first_of : Kind → Bool
high_first_of Add = false
high_first_of Subtract = false
high_first_of And = false
high_first_of AndNot = false
high_first_of Or = false
high_first_of Exclusive = false
high_first_of Move = false
high_first_of Ones = false
high_first_of Left = false
high_first_of Right = true
