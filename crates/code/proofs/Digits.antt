-- The entry of each top byte says its row: one test that antt computes over all 256, digit by digit, and the law that makes it rows.
use Prim.Native.Nat.{ℕ, ◌+◌, ◌/◌, ◌%◌, ◌<◌}
use mathlib.Core.Path.{◌≡◌, refl, ◌∙◌, ap, sym}
use mathlib.Core.Bool.{true}
use mathlib.Core.List.{List, [], ◌∷◌}
use lib.Dec.{T}
use lib.ListN.{get_or}
use Rattle.choose.specs.Ranged.{pick, ranged}
use Rattle.choose.specs.Below.{all_equal}
use Rattle.choose.proofs.Table.{all-equal, at}
use Rattle.code.specs.CodeRows.{class_number, waits_number, stores_number, listed, blank, row_of, class_of, cycles_of, waits_of, options_of}
use Rattle.code.specs.CodeRows.{status_flags_of, condition_flags_of, stores_of}
use Rattle.code.specs.Entries.{class_at, waits_at, stores_at, row_of_entry, entries}
use Rattle.code.specs.Word.{code_of}
use Rattle.code.specs.declared.Class.{Class}
use Rattle.code.specs.declared.CodeRow.{CodeRow}
use Rattle.code.specs.declared.Stores.{Stores}
use Rattle.code.specs.declared.Waits.{Waits}

-- each digit of an entry, beside the field that it has to be
abbrev digits : CodeRow → ℕ → List (ℕ × ℕ)
digits r n =
    (n % 0x10, class_number r.class) ∷
    (n / 0x10 % 0x10, r.cycles) ∷
    (n / 0x100 % 0x10, waits_number r.waits) ∷
    (n / 0x1000 % 0x10, r.options) ∷
    (n / 0x1_0000 % 0x100, r.flags) ∷
    (n / 0x100_0000 % 0x10, stores_number r.stores) ∷
    []

pub numbered : (k : Class) → class_at (class_number k) ≡ k
unfolding class_at ranged
numbered Class.Unlisted = refl
numbered Class.Jump = refl
numbered Class.Conditional = refl
numbered Class.Literal = refl
numbered Class.Register = refl

waits-numbered : (w : Waits) → waits_at (waits_number w) ≡ w
unfolding waits_at ranged
waits-numbered Waits.Never = refl
waits-numbered Waits.ReplyOrBusyHigh = refl
waits-numbered Waits.ReplyLow = refl

stores-numbered : (s : Stores) → stores_at (stores_number s) ≡ s
unfolding stores_at ranged
stores-numbered Stores.Nothing = refl
stores-numbered Stores.Ra = refl
stores-numbered Stores.RaPair = refl
stores-numbered Stores.RaAndRb = refl

pub same-stores : (s t : Stores) → stores_number s ≡ stores_number t → s ≡ t
same-stores s t e = sym (stores-numbered s) ∙ ap stores_at e ∙ stores-numbered t

by_digits : (r : CodeRow) (n : ℕ) → T (all_equal (digits r n)) → row_of_entry n ≡ r
unfolding row_of_entry
by_digits r n t =
    let e = all-equal (digits r n) t in
    rw (e.0, numbered, e.1.0, e.1.1.0, waits-numbered, e.1.1.1.0, e.1.1.1.1.0, e.1.1.1.1.1.0, stores-numbered)

-- what a reader of the table gets
pub row_at : (top : ℕ) → top < 0x100 → row_of_entry (get_or entries top 0) ≡ row_of top
unfolding entries row_of class_of ranged cycles_of waits_of options_of status_flags_of condition_flags_of stores_of
row_at top h = by_digits (row_of top) (get_or entries top 0) (at (λ k n. all_equal (digits (row_of k) n)) entries tt top h)

-- an unlisted row has that class too
class-kept : (k : Class) (r : CodeRow) → r.class ≡ k → (pick (listed k) r blank).class ≡ k
class-kept Class.Unlisted r e = refl
class-kept Class.Jump r e = e
class-kept Class.Conditional r e = e
class-kept Class.Literal r e = e
class-kept Class.Register r e = e

pub class-of-row : (top : ℕ) → (row_of top).class ≡ class_of top
unfolding row_of
class-of-row top = class-kept (class_of top) _ refl

-- what the row of a listed top byte holds
pub listed-row : (top : ℕ) → listed (class_of top) ≡ true
    → row_of top
    ≡ record {
      class = class_of top;
      cycles = cycles_of top;
      waits = waits_of top;
      options = options_of top;
      flags = condition_flags_of top + status_flags_of top;
      stores = stores_of top;
    }
unfolding row_of
listed-row top e = rw e

-- all top bytes of an instruction have the row of its first
pub row-of-code : (top : ℕ) → top < 0x100 → row_of (code_of top) ≡ row_of top
unfolding entries code_of row_of class_of ranged cycles_of waits_of options_of status_flags_of condition_flags_of stores_of
row-of-code top h =
    sym (by_digits (row_of (code_of top)) (get_or entries top 0) (at (λ k n. all_equal (digits (row_of (code_of k)) n)) entries tt top h))
    ∙ row_at top h
