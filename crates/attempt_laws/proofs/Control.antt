-- Bus, latches, addresses and requests stay in range whatever instruction is executed.
-- Assumes nothing.
use Prim.Native.Nat.{ℕ, ◌-◌, ◌*◌, ◌/◌, ◌%◌, ◌<◌}
use mathlib.Core.Path.{◌≡◌, refl, sym}
use mathlib.Core.Bool.{Bool, false, false≢true}
use native.Mathlib.Omega.{arith}
use lib.Bits.{and_lt, or_lt}
use lib.Dec.{eqb}
use Rattle.alu.specs.declared.Flags.{Flags}
use Rattle.rows.specs.Range.{OutputsInRange}
use Rattle.rows.specs.Scan.{lta, lra, ltsr}
use Rattle.rows.specs.declared.Outputs.{Outputs}
use Rattle.state.specs.declared.Address.{Address}
use Rattle.state.specs.declared.Bus.{Bus}
use Rattle.state.specs.declared.Latches.{Latches}
use Rattle.state.specs.declared.Sample.{Sample}
use Rattle.control.specs.Bus.{after_input, bus_after, request_of}
use Rattle.control.specs.Latches.{used, with_interrupts, with_loaded, with_modification, input_latches_of, latches_after}
use Rattle.control.specs.Next.{jump_taken, way_of, onward_of, next_of, rr_of, tsr_of, address_after}
use Rattle.control.specs.declared.Way.{Way}
use Rattle.choose.proofs.Choice.{end, ◌also◌, pick_all, ranged-all}

-- ---- the bus and its request

abbrev pub BusInRange : Bus → Type 0
BusInRange h = h.m < 65536

after-input-in-range : (h : Bus) (rmw : Bool) → BusInRange h → BusInRange (after_input h rmw)
unfolding after_input
after-input-in-range h rmw l = pick_all BusInRange rmw _ _ l l

pub bus-in-range : (h : Bus) (code : ℕ) (rmw : Bool) (pair : ℕ) → BusInRange h → pair < 65536 → BusInRange (bus_after h code rmw pair)
unfolding bus_after
bus-in-range h code rmw pair l p = ranged-all BusInRange code _ (l also after-input-in-range h rmw l also l also p also p also p also p also end) l

-- "A request is kind times 65,536 plus a value": kinds of executed words are 0 to 9, values have 16 bits
abbrev pub RequestInRange : ℕ → Type 0
RequestInRange r = r < 10 * 65536

pub request-in-range : (code pair dal : ℕ) → pair < 65536 → dal < 65536 → RequestInRange (request_of code pair dal)
unfolding request_of
request-in-range code pair dal p l =
    ranged-all RequestInRange code _
    (omega arith also omega arith also omega arith also omega arith also omega arith also omega arith also omega arith also omega arith also end)
    (omega arith)

-- ---- the latches

-- InRange's part of the latches
pub record LatchesInRange (l : Latches) : Type 0 where
  pub g : l.g < 8
  pub tr : l.tr < 65536
  pub interrupts : l.interrupts < 8
  pub modification : l.modification < 65536
  pub unmarked : l.marked ≡ false → l.modification ≡ 0

-- with the modification used up
plain : (g tr i : ℕ) (ics : Bool) → g < 8 → tr < 65536 → i < 8
    → LatchesInRange (record { g = g; tr = tr; ics = ics; interrupts = i; marked = false; modification = 0 })
plain g tr i ics hg ht hi =
    record { g = hg; tr = ht; interrupts = hi; modification = omega arith; unmarked = λ e. refl }

pub used-in-range : (l : Latches) → LatchesInRange l → LatchesInRange (used l)
used-in-range l h = plain l.g l.tr l.interrupts l.ics h.g h.tr h.interrupts

with-modification-in-range : (l : Latches) (n : ℕ) → LatchesInRange l → n < 65536 → LatchesInRange (with_modification l n)
with-modification-in-range l n h p =
    record { g = h.g; tr = h.tr; interrupts = h.interrupts; modification = p; unmarked = λ e. absurd (false≢true (sym e)) }

module _ (l : Latches) (h : LatchesInRange l) where
  input-latches-in-range : (b dal : ℕ) (ics : Bool) → dal < 65536 → LatchesInRange (input_latches_of l b dal ics)
  unfolding input_latches_of
  input-latches-in-range b dal ics d =
      let taking : (g : ℕ) → g < 8 → LatchesInRange (with_loaded l g dal ics) = λ g p. plain g dal l.interrupts ics p d h.interrupts in
      ranged-all LatchesInRange (b % 4) _
      (used-in-range l h also taking (dal / 16 % 8) (omega arith) also taking (dal / 64 % 8) (omega arith) also end)
      (taking l.g h.g)

  pub latches-in-range : (code b ra pair : ℕ) (sample : Sample) → pair < 65536 → sample.dal < 65536 → LatchesInRange (latches_after l code b ra pair sample)
  unfolding latches_after
  latches-in-range code b ra pair sample p d =
      let u = used-in-range l h in
      let interrupts : (i : ℕ) → i < 8 → LatchesInRange (with_interrupts l i) = λ i q. plain l.g l.tr i l.ics h.g h.tr q in
      ranged-all LatchesInRange code _
      (u also
      interrupts _ (and_lt 3 l.interrupts (7 - b % 8) h.interrupts (omega arith)) also
      interrupts _ (or_lt 3 l.interrupts (b % 8) h.interrupts (omega arith)) also
      u also
      plain (ra % 8) l.tr l.interrupts l.ics (omega arith) h.tr h.interrupts also
      u also
      input-latches-in-range b sample.dal sample.ics d also
      u also
      with-modification-in-range l pair h p also
      plain l.g pair l.interrupts l.ics h.g p h.interrupts also
      end)
      u

-- ---- the next address

abbrev pub WayInRange : Way → Type 0
WayInRange (Way.Jump to) = to < 2048
WayInRange Way.Return = Unit {0}
WayInRange Way.Onward = Unit {0}

pub way-in-range : (lc code n : ℕ) (f : Flags) (ics : Bool) → lc < 2048 → n < 2048 → WayInRange (way_of lc code n f ics)
unfolding way_of
way-in-range lc code n f ics h l =
    ranged-all WayInRange code _ (l also tt also pick_all WayInRange (jump_taken code f ics) _ _ (omega arith) tt also end) tt

-- InRange's part of the address
pub record AddressInRange (a : Address) : Type 0 where
  pub lc : a.lc < 2048
  pub rr : a.rr < 2048
  pub tsr : a.tsr < 8

module _ (a : Address) (o : Outputs) (h : AddressInRange a) (p : OutputsInRange o) where
  onward-in-range : onward_of a o < 2048
  unfolding onward_of
  onward-in-range =
      let below : ℕ → Type 0 = λ n. n < 2048 in
      pick_all below (lra o) _ _ h.rr (pick_all below (lta o) _ _ (omega arith) (omega arith))

  next-in-range : (way : Way) → WayInRange way → next_of a way o < 2048
  unfolding next_of
  next-in-range (Way.Jump to) w = w
  next-in-range Way.Return w = h.rr
  next-in-range Way.Onward w = onward-in-range

  rr-in-range : (loads : Bool) → rr_of a loads < 2048
  unfolding rr_of
  rr-in-range loads = pick_all (λ (n : ℕ). n < 2048) loads _ _ (omega arith) h.rr

  tsr-in-range : (code : ℕ) → tsr_of a.tsr code o < 8
  unfolding tsr_of
  tsr-in-range code =
      let below : ℕ → Type 0 = λ n. n < 8 in
      pick_all below (eqb code 0x74) _ _ (omega arith) (pick_all below (ltsr o) _ _ (omega arith) h.tsr)

  pub address-in-range : (way : Way) (code : ℕ) (loads : Bool) → WayInRange way → AddressInRange (address_after a way code loads o)
  unfolding address_after
  address-in-range way code loads w =
      record { lc = next-in-range way w; rr = rr-in-range loads; tsr = tsr-in-range code }
