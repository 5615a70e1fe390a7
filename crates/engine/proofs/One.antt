-- Any two results that a contract permits are equal: a contract is an equation with what it cites.
-- Assumes nothing.
use Prim.Native.Nat.{ℕ, ◌<◌, ◌≤◌}
use mathlib.Core.Path.{◌≡◌, ap, ◌∙◌, sym}
use mathlib.Core.Bool.{Bool}
use mathlib.Core.List.{List}
use Rattle.choose.specs.Ranged.{bit}
use Rattle.state.specs.File.{slot_of}
use Rattle.state.specs.FlagByte.{nibble_of}
use Rattle.state.specs.declared.Core.{Core}
use Rattle.state.specs.declared.Marking.{Marking}
use Rattle.state_bytes.specs.Bytes.{Loaded}
use Rattle.engine.specs.declared.Report.{Report}
use Rattle.engine.specs.Host.{Hosted, hosted, host_of}

-- for every contract `r ≡ ..Of ..`
pub one-result : {A : Type 0} {x y meaning : A} → x ≡ meaning → y ≡ meaning → x ≡ y
one-result p q = p ∙ sym q

-- for those that add a bound to the equation: `choose::bit_of`, `state::slot`, `state::nibble`
pub one_bit : (b : Bool) (r q : ℕ) → (r ≡ bit b) × (r ≤ 1) → (q ≡ bit b) × (q ≤ 1) → r ≡ q
one_bit b r q x y = one-result x.0 y.0

pub one-slot : (g d r q : ℕ) → (r ≡ slot_of g d) × (r < 26) → (q ≡ slot_of g d) × (q < 26) → r ≡ q
one-slot g d r q x y = one-result x.0 y.0

pub one-nibble : (a b c d : Bool) (r q : ℕ) → (r ≡ nibble_of a b c d) × (r ≤ 15) → (q ≡ nibble_of a b c d) × (q ≤ 15) → r ≡ q
one-nibble a b c d r q x y = one-result x.0 y.0

-- for `state_bytes::load`: the core, and the register file
pub one-load : (s : List ℕ) (m : Marking) (r q : Core) (a b : List ℕ) → Loaded s m r a → Loaded s m q b → (r ≡ q) × (a ≡ b)
one-load s m r q a b x y = (one-result x.core y.core, one-result x.file y.file)

-- and for the host's entry: the report and both buffers
pub one-run : (deck requests state : List ℕ) (marking : ℕ) (r q : Report) (a b s t : List ℕ)
    → hosted r a s ≡ host_of deck requests state marking → hosted q b t ≡ host_of deck requests state marking → (r ≡ q) × (a ≡ b) × (s ≡ t)
one-run deck requests state marking r q a b s t x y =
    let e = one-result x y in
    (ap (λ (h : Hosted). h.report) e, ap (λ (h : Hosted). h.requests) e, ap (λ (h : Hosted). h.state) e)
