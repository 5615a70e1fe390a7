-- The state's bytes against the file and the core: there and back, and in range there and back. Assumes nothing.
use mathlib.Core.Path.{◌≡◌, refl, sym, ap, ◌∙◌}
use mathlib.Core.Bool.{Bool, true, false, ◌||◌}
use mathlib.Core.List.{List, [], ◌∷◌, append_assoc}
use Prim.Native.Nat.{ℕ, zero, suc, ◌+◌, ◌%◌, ◌<◌, ◌≤◌}
use native.Mathlib.Nat.{mod-add-div}
use native.Mathlib.Omega.{arith}
use borrow.Author.Tests.{leb-true, le-leb, eqb-true, eq-eqb}
use lib.Dec.{eqb, leb}
use lib.ListN.{length, drop, length-append, take-append-drop, drop_of_length-le}
use lib.Seq.{drop-cons, take-append-le, take_at, get_or-append-add, length-take-le}
use Rattle.choose.proofs.Tests.{three, is-bit}
use Rattle.numbers.specs.Numbers.{byte_at, Bytes}
use Rattle.numbers.proofs.Laws.{pair-low, pair-high, pair-below, take-bytes, append-bytes, byte-below}
use Rattle.state.specs.FlagByte.{nibble_of}
use Rattle.state.specs.Range.{InRange}
use Rattle.state.specs.declared.Core.{Core}
use Rattle.state.specs.declared.Marking.{Marking}
use Rattle.state_bytes.specs.Bytes.{state_bytes, address_of, bus_of, latches_of, core_of, padded, file_of, tail_of, bytes_of, stored_of}
use Rattle.state_bytes.specs.Range.{address_in_range, latches_in_range, core_in_range, state_in_range}
use Rattle.state.proofs.Digits.{nibble-le, digits, bits, flag-byte-below, flag-byte-back, flags-back}
use Rattle.state_bytes.proofs.Steps.{padded-length, tail-length}

-- ---- lengths
pub file-length : (s : List ℕ) → length (file_of s) ≡ 26
unfolding file_of
file-length s = length-take-le 26 (padded s 26) (omega (arith, padded-length s 26))

pub bytes-length : (xs : List ℕ) (k : Core) → length xs ≡ 26 → length (bytes_of xs k) ≡ state_bytes
bytes-length xs k e = simp length-append (omega (arith, tail-length k))

pub stored_bytes : (xs : List ℕ) (k : Core) (out : List ℕ) → length out ≡ state_bytes → stored_of xs k out ≡ bytes_of xs k
unfolding stored_of
stored_bytes xs k out e = rw (eq-eqb _ _ e)

-- ---- from the bytes and back
-- n bytes, from byte a on
abbrev run : List ℕ → ℕ → ℕ → List ℕ
run s a zero = []
run s a (suc n) = byte_at s a ∷ run s (suc a) n

run_is : (s : List ℕ) (n a : ℕ) → length s ≡ a + n → drop a s ≡ run s a n
run_is s zero a e = drop_of_length-le s {i = a} (omega arith)
run_is s (suc n) a e = rw (drop-cons s a 0 (omega arith), run_is s n (suc a) (omega arith))

-- every marking has the same range
any-marking : (s : List ℕ) (m : Marking) → core_in_range (core_of s Marking.CP1661B) ≡ core_in_range (core_of s m)
unfolding core_in_range core_of
any-marking s m = refl

-- what is tested of a state in range
pub tested : (s : List ℕ) → state_in_range s ≡ true
    → (length s ≡ state_bytes) × (byte_at s 37 ≤ 15) × ((m : Marking) → core_in_range (core_of s m) ≡ true)
unfolding state_in_range
tested s h =
    let p = three (eqb (length s) state_bytes) (leb (byte_at s 37) 15) (core_in_range (core_of s Marking.CP1661B)) h in
    (eqb-true _ _ p.0, leb-true _ _ p.1, (λ m. sym (any-marking s m) ∙ p.2))

tail-back : (s : List ℕ) (m : Marking) → Bytes s → byte_at s 37 ≤ 15 → tail_of (core_of s m) ≡ run s 26 16
unfolding tail_of core_of address_of bus_of latches_of
tail-back s m b h =
    let marks : byte_at s 37 % 16 ≡ byte_at s 37 = omega arith in
    rw (flag-byte-back (byte_at s 27) (byte-below s b 27), digits (byte_at s 37), marks, pair-low s b 28, pair-high s b 28, pair-low s b 30, pair-high s b 30)
    (rw (pair-low s b 32, pair-high s b 32, pair-low s b 34, pair-high s b 34, pair-low s b 39, pair-high s b 39))

-- the file and the core of a state in range give its bytes again
pub bytes_back : (s : List ℕ) (m : Marking) → Bytes s → state_in_range s ≡ true → bytes_of (file_of s) (core_of s m) ≡ s
unfolding file_of
bytes_back s m b h =
    let t = tested s h in
    rw (take-append-le 26 s _ (omega arith), tail-back s m b t.1, ← run_is s 16 26 t.0) (take-append-drop 26 s)

-- ---- to the bytes and back
-- the byte at 26 + j, after the registers
pub tail_at : (xs : List ℕ) (k : Core) → length xs ≡ 26 → (j : ℕ) → byte_at (bytes_of xs k) (26 + j) ≡ byte_at (tail_of k) j
tail_at xs k e j = rw (← e) (get_or-append-add xs (tail_of k) j 0)

-- the bytes of a core and its marking give it again, whatever the registers before them
pub core-back : (xs : List ℕ) (k : Core) → length xs ≡ 26 → core_of (bytes_of xs k) k.marking ≡ k
unfolding core_of address_of bus_of latches_of tail_of
core-back xs k e =
    let at = tail_at xs k e in
    let l = k.latches in
    let m = bits l.marked k.bus.iack k.bus.sync l.ics (nibble_of l.marked k.bus.iack k.bus.sync l.ics) refl in
    rw (at 0, at 1, at 2, at 3, at 4, at 5, at 6, at 7, at 8, at 9, at 10, at 11, at 12, at 13, at 14, at 15)
    (rw (flags-back k.flags, mod-add-div k.address.lc 256, mod-add-div k.address.rr 256)
    (rw (mod-add-div k.latches.tr 256, mod-add-div k.bus.m 256, mod-add-div k.latches.modification 256)
    (rw (is-bit k.latches.marked _ m.0, is-bit k.bus.iack _ m.1, is-bit k.bus.sync _ m.2, is-bit k.latches.ics _ m.3))))

pub file-back : (xs : List ℕ) (k : Core) → length xs ≡ 26 → file_of (bytes_of xs k) ≡ xs
unfolding file_of
file-back xs k e = rw append_assoc (take_at xs _ 26 e)

-- ---- in range
pub core-true : (xs : List ℕ) (k : Core) → InRange xs k → core_in_range k ≡ true
unfolding core_in_range address_in_range latches_in_range
core-true xs k r =
    rw (le-leb k.address.lc 2047 (omega arith), le-leb k.address.rr 2047 (omega arith), le-leb k.address.tsr 7 (omega arith))
    (rw (le-leb k.latches.g 7 (omega arith), le-leb k.latches.interrupts 7 (omega arith))
    (rw (go k.latches.marked refl, le-leb k.outputs 15 (omega arith))))
  where
    go : (t : Bool) → k.latches.marked ≡ t → (t || eqb k.latches.modification 0) ≡ true
    go true e = refl
    go false e = eq-eqb _ _ (r.unmarked e)

marks-le : (xs : List ℕ) (k : Core) → length xs ≡ 26 → byte_at (bytes_of xs k) 37 ≤ 15
unfolding tail_of
marks-le xs k e = rw (tail_at xs k e 11) (nibble-le k.latches.marked k.bus.iack k.bus.sync k.latches.ics)

-- the bytes of a file and a core in range are a state in range: a returned state can be handed in again
pub bytes-in-range : (xs : List ℕ) (k : Core) → InRange xs k → state_in_range (bytes_of xs k) ≡ true
unfolding state_in_range
bytes-in-range xs k r =
    let same : core_in_range (core_of (bytes_of xs k) Marking.CP1661B) ≡ true
    = any-marking (bytes_of xs k) k.marking ∙ ap core_in_range (core-back xs k r.size) ∙ core-true xs k r in
    rw (eq-eqb _ _ (bytes-length xs k r.size), le-leb _ _ (marks-le xs k r.size), same)

-- what is tested of a core in range, and that its wide parts have 16 bits
in-range : (xs : List ℕ) (k : Core) → length xs ≡ 26 → Bytes xs → core_in_range k ≡ true
    → k.bus.m < 65536 → k.latches.tr < 65536 → k.latches.modification < 65536 → InRange xs k
unfolding core_in_range address_in_range latches_in_range
in-range xs k e b h m tr modification =
    let p = three (address_in_range k.address) (latches_in_range k.latches) (leb k.outputs 15) h in
    let a = three (leb k.address.lc 2047) (leb k.address.rr 2047) (leb k.address.tsr 7) p.0 in
    let l = three (leb k.latches.g 7) (leb k.latches.interrupts 7) (k.latches.marked || eqb k.latches.modification 0) p.1 in
    record {
      size = e;
      bytes = b;
      g = omega (arith, leb-true k.latches.g 7 l.0);
      lc = omega (arith, leb-true k.address.lc 2047 a.0);
      rr = omega (arith, leb-true k.address.rr 2047 a.1);
      tr = tr;
      m = m;
      tsr = omega (arith, leb-true k.address.tsr 7 a.2);
      interrupts = omega (arith, leb-true k.latches.interrupts 7 l.1);
      modification = modification;
      unmarked = λ u. eqb-true _ _ (rw u at l.2);
      outputs = omega (arith, leb-true k.outputs 15 p.2);
    }

-- ---- bytes
pub file-bytes : (s : List ℕ) → Bytes s → Bytes (file_of s)
unfolding file_of
file-bytes s b = take-bytes 26 (padded s 26) (append-bytes s _ b (omega arith))

-- a state in range holds a file and a core in range
pub state-in-range : (s : List ℕ) (m : Marking) → Bytes s → state_in_range s ≡ true → InRange (file_of s) (core_of s m)
unfolding core_of bus_of latches_of
state-in-range s m b h =
    in-range (file_of s) (core_of s m) (file-length s) (file-bytes s b) ((tested s h).2 m) (pair-below s b 34) (pair-below s b 32) (pair-below s b 39)

tail-bytes : (xs : List ℕ) (k : Core) → InRange xs k → Bytes (tail_of k)
unfolding tail_of
tail-bytes xs k r =
    let flags = flag-byte-below k.flags in
    let marks = nibble-le k.latches.marked k.bus.iack k.bus.sync k.latches.ics in
    omega arith

-- the bytes of a file and a core in range are bytes
pub state-bytes : (xs : List ℕ) (k : Core) → InRange xs k → Bytes (bytes_of xs k)
state-bytes xs k r = append-bytes xs (tail_of k) r.bytes (tail-bytes xs k r)
