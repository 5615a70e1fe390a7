-- "Flag byte, high to low: N Z V C NB ZB C4 C8."
use Rattle.std.specs.Prelude.{ℕ, ◌+◌, ◌*◌, ◌/◌, ◌%◌, Bool, eqb}
use Rattle.choose.specs.Ranged.{bit}
use Rattle.alu.specs.declared.Flags.{Flags}

unfoldable pub nibble_of : Bool → Bool → Bool → Bool → ℕ
nibble_of a b c d = bit a * 8 + bit b * 4 + bit c * 2 + bit d

unfoldable pub flag_byte_of : Flags → ℕ
flag_byte_of f = nibble_of f.n f.z f.v f.c * 16 + nibble_of f.nb f.zb f.c4 f.c8

unfoldable pub flags_of : ℕ → Flags
flags_of x =
    record {
      n = eqb (x / 128) 1;
      z = eqb (x / 64 % 2) 1;
      v = eqb (x / 32 % 2) 1;
      c = eqb (x / 16 % 2) 1;
      nb = eqb (x / 8 % 2) 1;
      zb = eqb (x / 4 % 2) 1;
      c4 = eqb (x / 2 % 2) 1;
      c8 = eqb (x % 2) 1;
    }
