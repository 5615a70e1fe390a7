-- Laws of the register file: a write changes that register and no other.
-- Assumes nothing.
use Prim.Native.Nat.{ℕ, ◌+◌, ◌*◌, ◌%◌, ◌<◌, ◌≤◌}
use mathlib.Core.Path.{◌≡◌, refl}
use mathlib.Core.Bool.{Bool, true, false}
use mathlib.Core.List.{List}
use native.Mathlib.Nat.{mod-eq_of_lt}
use native.Mathlib.Omega.{arith}
use lib.Dec.{ltb, leb}
use lib.ListN.{length, get_or, length-set}
use lib.Seq.{get_or-set_same, get_or-set_other}
use borrow.Author.Tests.{leb-false, le-leb}
use Rattle.choose.specs.Ranged.{pick}
use Rattle.state.specs.File.{slot_of, register_of, written_of}

pub slot-below : (g d : ℕ) → slot_of g d < 26
unfolding slot_of
slot-below g d = go (leb 2 (d % 16)) refl (ltb (g % 8 * 2 + d % 16) 12) refl
  where
    go : (t : Bool) → leb 2 (d % 16) ≡ t → (u : Bool) → ltb (g % 8 * 2 + d % 16) 12 ≡ u
        → pick t (10 + d % 16) (pick u (g % 8 * 2 + d % 16) (10 + (g % 8 * 2 + d % 16))) < 26
    go true e u h = omega arith
    go false e true h = omega (arith, leb-false 2 (d % 16) e)
    go false e false h = omega (arith, leb-false 2 (d % 16) e)

pub written-length : (xs : List ℕ) (g d v : ℕ) → length (written_of xs g d v) ≡ length xs
unfolding written_of
written-length xs g d v = length-set xs (slot_of g d) v

pub written_same : (xs : List ℕ) (g d v : ℕ) → length xs ≡ 26 → register_of (written_of xs g d v) g d ≡ v
unfolding written_of register_of
written_same xs g d v e = get_or-set_same xs (slot_of g d) v 0 (omega (arith, slot-below g d))

pub written-other : (xs : List ℕ) (g d v i : ℕ) → (i ≡ slot_of g d → ⊥) → get_or (written_of xs g d v) i 0 ≡ get_or xs i 0
unfolding written_of
written-other xs g d v i n = get_or-set_other xs (slot_of g d) i v 0 n

-- designators 2 to F name R2-RF, whatever G
pub slot_is : (g d : ℕ) → 2 ≤ d → d ≤ 0xF → slot_of g d ≡ 10 + d
unfolding slot_of
slot_is g d lo hi =
    let same : d % 16 ≡ d = mod-eq_of_lt (omega arith) in
    rw (same, le-leb 2 d lo)
