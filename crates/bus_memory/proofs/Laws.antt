-- Laws of the memory on the bus, by the kind of request: what is stored, and what is kept. Assumes nothing.
use Prim.Native.Nat.{ℕ, ◌+◌, ◌/◌, ◌%◌, ◌-◌, ◌≤◌}
use mathlib.Core.Path.{◌≡◌, refl, ap, ◌∙◌}
use mathlib.Core.Bool.{Bool, true, false, ◌&&◌, and-eq-true_iff}
use mathlib.Core.List.{List}
use native.Mathlib.Omega.{arith}
use lib.Dec.{eqb, leb}
use lib.ListN.{length, set, length-set}
use borrow.Author.Tests.{eq-eqb, ne_eqb, eqb-true, leb-true}
use Rattle.choose.specs.Ranged.{pick, ranged}
use Rattle.bus_memory.specs.Memory.{kept_of, kept_address, kind_in, value_in, accesses, even_of}
use Rattle.bus_memory.specs.Memory.{output_byte, stored_in, transfer_waits, waits_after, kept_after, memory_refusal_of}
use Rattle.bus_memory.specs.declared.Kept.{Kept}

-- the lower and the upper lines of a request's value
lower : (request : ℕ) → value_in request % 0x100 ≡ request % 0x100
lower request = omega arith

upper : (request : ℕ) → value_in request / 0x100 ≡ request / 0x100 % 0x100
upper request = omega arith

module _ (bytes : List ℕ) (k : Kept) (request : ℕ) where
  pub word_out : kind_in request ≡ 6
      → set (set bytes (even_of (kept_address k)) (request % 0x100)) (even_of (kept_address k) + 1) (request / 0x100 % 0x100) ≡ stored_in bytes k request
  unfolding stored_in
  word_out six = rw (eq-eqb _ _ six, lower request, upper request)

  module _ (not-six : kind_in request ≡ 6 → ⊥) where
    pub even-out : kind_in request ≡ 7 → kept_address k % 2 ≡ 0 → set bytes (kept_address k) (request % 0x100) ≡ stored_in bytes k request
    unfolding stored_in
    even-out seven even = rw (ne_eqb _ _ not-six, eq-eqb _ _ seven, eq-eqb _ _ even, lower request)

    pub odd-out : kind_in request ≡ 7 → (kept_address k % 2 ≡ 0 → ⊥) → set bytes (kept_address k) (request / 0x100 % 0x100) ≡ stored_in bytes k request
    unfolding stored_in
    odd-out seven odd = rw (ne_eqb _ _ not-six, eq-eqb _ _ seven, ne_eqb _ _ odd, upper request)

    pub none_out : (kind_in request ≡ 7 → ⊥) → bytes ≡ stored_in bytes k request
    unfolding stored_in
    none_out not-seven = rw (ne_eqb _ _ not-six, ne_eqb _ _ not-seven)

pub stored-length : (bytes : List ℕ) (k : Kept) (request : ℕ) → length (stored_in bytes k request) ≡ length bytes
unfolding stored_in
stored-length bytes k request = by_kind (eqb (kind_in request) 6) (eqb (kind_in request) 7)
  where
    by_kind : (a b : Bool) → length
        (pick a (set (set bytes (even_of (kept_address k)) (value_in request % 0x100)) (even_of (kept_address k) + 1) (value_in request / 0x100))
        (pick b (set bytes (kept_address k) (output_byte (kept_address k) (value_in request))) bytes))
        ≡ length bytes
    by_kind true b = simp length-set
    by_kind false true = simp length-set
    by_kind false false = refl

-- what is not refused by 16
pub accepts : (size delay : ℕ) → memory_refusal_of size delay ≡ 0 → (size % 2 ≡ 0) × (size ≤ 65536) × (delay ≤ 15)
unfolding memory_refusal_of
accepts size delay h = go (eqb (size % 2) 0) (leb size 65536) (leb delay 15) refl refl refl h
  where
    go : (a b c : Bool) → eqb (size % 2) 0 ≡ a → leb size 65536 ≡ b → leb delay 15 ≡ c → ◌≡◌ {A = ℕ} (pick (a && b && c) 0 16) 0
        → (size % 2 ≡ 0) × (size ≤ 65536) × (delay ≤ 15)
    go true true true ea eb ec h = (eqb-true _ _ ea, leb-true _ _ eb, leb-true _ _ ec)
    go true true false ea eb ec h = absurd (omega (arith, h))
    go true false c ea eb ec h = absurd (omega (arith, h))
    go false b c ea eb ec h = absurd (omega (arith, h))

-- an attempt without a request leaves what has nothing to count
pub rests : (delay : ℕ) (k : Kept) (transfer : Bool) (request : ℕ) → eqb request 0 && eqb k.low 0 && eqb k.waits 0 ≡ true
    → k ≡ kept_after delay k transfer request
unfolding kept_after accesses ranged waits_after transfer_waits
rests delay k transfer request h =
    let all = (and-eq-true_iff (eqb request 0 && eqb k.low 0) (eqb k.waits 0)).0 h in
    let two = (and-eq-true_iff (eqb request 0) (eqb k.low 0)).0 all.0 in
    let low = eqb-true k.low 0 two.1 in
    let waits = eqb-true k.waits 0 all.1 in
    let quiet : kept_of k.access k.low k.waits ≡ kept_of k.access (k.low - 1) 0 =
    ap (kept_of k.access k.low) waits ∙ ap (λ (n : ℕ). kept_of k.access n 0) (omega (arith, low)) in
    rw (eqb-true request 0 two.0) quiet
