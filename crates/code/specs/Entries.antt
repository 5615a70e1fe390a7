-- How the constant table holds the rows: a number for each top byte. This is the code's way only; `row_at` says that nothing is lost by it.
use Rattle.std.specs.Prelude.{ℕ, ◌+◌, ◌*◌, ◌/◌, ◌%◌, List, [], ◌∷◌}
use Rattle.choose.specs.Ranged.{ranged}
use Rattle.choose.specs.Below.{firsts}
use Rattle.code.specs.CodeRows.{class_number, waits_number, stores_number, row_of}
use Rattle.code.specs.declared.Class.{Class}
use Rattle.code.specs.declared.CodeRow.{CodeRow}
use Rattle.code.specs.declared.Stores.{Stores}
use Rattle.code.specs.declared.Waits.{Waits}

-- the class of a number
unfoldable pub class_at : ℕ → Class
class_at n = ranged n ((1, Class.Unlisted) ∷ (2, Class.Jump) ∷ (3, Class.Conditional) ∷ (4, Class.Literal) ∷ []) Class.Register

-- the way to wait of a number
unfoldable pub waits_at : ℕ → Waits
waits_at n = ranged n ((1, Waits.Never) ∷ (2, Waits.ReplyOrBusyHigh) ∷ []) Waits.ReplyLow

-- the registers of a number
unfoldable pub stores_at : ℕ → Stores
stores_at n = ranged n ((1, Stores.Nothing) ∷ (2, Stores.Ra) ∷ (3, Stores.RaPair) ∷ []) Stores.RaAndRb

-- a row as one number, a hexadecimal digit for each field and two for the flags
abbrev pub entry_of : CodeRow → ℕ
entry_of r =
    class_number r.class + 0x10 * r.cycles + 0x100 * waits_number r.waits + 0x1000 * r.options + 0x1_0000 * r.flags +
    0x100_0000 * stores_number r.stores

-- the rows of all 256 top bytes as numbers
unfoldable pub entries : List ℕ
entries = firsts (λ top. entry_of (row_of top)) 0 0x100

-- the row that such a number says
unfoldable pub row_of_entry : ℕ → CodeRow
row_of_entry n =
    record {
      class = class_at (n % 0x10);
      cycles = n / 0x10 % 0x10;
      waits = waits_at (n / 0x100 % 0x10);
      options = n / 0x1000 % 0x10;
      flags = n / 0x1_0000 % 0x100;
      stores = stores_at (n / 0x100_0000 % 0x10);
    }
