-- The state's bytes hold the state in 01's order, as they are read and as they are written.
-- Assumes nothing.
use mathlib.Core.Path.{◌≡◌, refl, sym, ap, ◌∙◌}
use mathlib.Core.Bool.{true}
use mathlib.Core.List.{List}
use mathlib.Core.Logic.{◌↔◌}
use Prim.Native.Nat.{ℕ, ◌/◌, ◌%◌, ◌<◌}
use native.Mathlib.Omega.{arith}
use borrow.Author.Tests.{eq-eqb, ne_eqb, eqb-false, le-leb}
use lib.ListN.{length, get_or-append}
use lib.Seq.{get_or-take}
use Rattle.numbers.specs.Laid.{LaidOut}
use Rattle.numbers.specs.Numbers.{byte_at, Bytes}
use Rattle.numbers.proofs.Laws.{byte-below}
use Rattle.state.specs.File.{slot_of, register_of}
use Rattle.state.specs.Range.{InRange}
use Rattle.state.specs.Registers.{name_of, name_at, Designates}
use Rattle.state.specs.FlagByte.{nibble_of}
use Rattle.state.specs.declared.Core.{Core}
use Rattle.state.specs.declared.Marking.{Marking}
use Rattle.state.proofs.Digits.{digits}
use Rattle.state.proofs.Order.{flags-order, flag-byte-order}
use Rattle.state.proofs.Registers.{named, one_place, every-place}
use Rattle.state_bytes.specs.Bytes.{state_bytes, address_of, bus_of, latches_of, core_of, file_of, tail_of, bytes_of}
use Rattle.state_bytes.specs.Order.{registers_wide, state_order, RegistersInOrder, state_limits, start_of, StateInRange}
use Rattle.state_bytes.specs.Range.{state_in_range}
use Rattle.state_bytes.proofs.Laws.{file-length, file-bytes, core-true, tested, state-in-range, tail_at}
use Rattle.state_bytes.proofs.Steps.{padded-at}

-- a state is as long as the registers and the numbers after them
pub state-length : state_bytes ≡ start_of 11 state_limits
state-length = refl

-- as they are read
pub core-order : (s : List ℕ) (m : Marking) → Bytes s → byte_at s 37 < 16 → LaidOut s registers_wide (state_order (core_of s m))
unfolding core_of address_of bus_of latches_of nibble_of
core-order s m b h =
    let flags = flags-order (byte_at s 27) (byte-below s b 27) in
    let marks = digits (byte_at s 37) in
    omega arith

-- as they are written
pub bytes-order : (xs : List ℕ) (k : Core) → length xs ≡ registers_wide → LaidOut (bytes_of xs k) registers_wide (state_order k)
unfolding tail_of nibble_of
bytes-order xs k e =
    let at = tail_at xs k e in
    let flags = flag-byte-order k.flags in
    omega (arith, at 0, at 1, at 2, at 3, at 4, at 5, at 6, at 7, at 8, at 9, at 10, at 11, at 12, at 13, at 14, at 15)

-- the place of a register is where 01 lists its name
place-named : (i g d : ℕ) → i < registers_wide → Designates g d → name_of g d ≡ name_at i → slot_of g d ≡ i
place-named i g d l h e =
    let (g', d', h', there) = every-place i l in
    (one_place g d g' d' h h').1 (e ∙ ap name_at (sym there) ∙ named g' d' h') ∙ there

-- "G0-GB, R2-RF": the registers as they are read, and as they are written
pub file-order : (s : List ℕ) → RegistersInOrder s (file_of s)
unfolding register_of file_of
file-order s i g d l h e = rw (place-named i g d l h e, get_or-take) (padded-at s 26 i)

pub written-order : (xs : List ℕ) (k : Core) → length xs ≡ registers_wide → RegistersInOrder (bytes_of xs k) xs
unfolding register_of
written-order xs k n i g d l h e = rw (place-named i g d l h e) (sym (get_or-append xs (tail_of k) 0 i (omega arith)))

-- "state out of range", told by the bytes in their order
module _ (s : List ℕ) (b : Bytes s) where
  limits-hold : state_in_range s ≡ true → StateInRange s
  unfolding core_of address_of bus_of latches_of
  limits-hold h =
      let r = state-in-range s Marking.CP1661B b h in
      let (size, marks, core) = tested s h in
      let flags = byte-below s b 27 in
      record {
        size = size;
        limits = omega arith;
        unmarked = λ u. omega (arith, r.unmarked (ne_eqb (byte_at s 37 / 8 % 2) 1 (λ e. omega arith)));
      }

  holds-inside : StateInRange s → InRange (file_of s) (core_of s Marking.CP1661B)
  unfolding core_of address_of bus_of latches_of
  holds-inside h =
      let l = h.limits in
      record {
        size = file-length s;
        bytes = file-bytes s b;
        g = omega arith;
        lc = omega arith;
        rr = omega arith;
        tr = omega arith;
        m = omega arith;
        tsr = omega arith;
        interrupts = omega arith;
        modification = omega arith;
        unmarked = λ u. omega (arith, h.unmarked (omega (arith, eqb-false (byte_at s 37 / 8 % 2) 1 u)));
        outputs = omega arith;
      }

  pub state-range-exactly : (state_in_range s ≡ true) ↔ StateInRange s
  unfolding state_in_range
  state-range-exactly = (
    limits-hold,
    (λ h.
        let l = h.limits in
        rw (eq-eqb _ state_bytes h.size, le-leb (byte_at s 37) 15 (omega arith), core-true (file_of s) (core_of s Marking.CP1661B) (holds-inside h))),
  )
