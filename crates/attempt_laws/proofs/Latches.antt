-- G, TR, ICS, I4-I6 and the waiting modification after a completed word. Assumes nothing.
use Prim.Native.Nat.{ℕ, zero, suc, ◌-◌, ◌/◌, ◌%◌, ◌^◌, ◌≤◌, ◌<◌}
use mathlib.Core.Path.{◌≡◌, refl}
use mathlib.Core.Bool.{Bool, true, false, not, ◌&&◌, ◌||◌, beq}
use native.Mathlib.Nat.{div-one}
use native.Mathlib.Omega.{arith}
use lib.Bits.{bit_and, bit_or}
use lib.Dec.{eqb}
use borrow.Author.Tests.{eq-eqb, ne_eqb}
use Rattle.choose.proofs.Table.{below}
use Rattle.choose.proofs.Tests.{equal-tests}
use Rattle.choose.specs.Below.{all_below}
use Rattle.choose.specs.Ranged.{pick}
use Rattle.control.specs.Latches.{used, with_interrupts, input_latches_of, latches_after}
use Rattle.state.specs.declared.Latches.{Latches}
use Rattle.state.specs.declared.Sample.{Sample}
use Rattle.attempt_laws.specs.After.{has_bit, LatchesAre}
use Rattle.attempt_laws.specs.Fate.{within}
use Rattle.attempt_laws.proofs.Bits.{or-bit, and-bit}
use Rattle.attempt_laws.proofs.Where.{other, ◌next◌, ranged-where, Outside, inside, outside}

-- ---- bits 0-2 of b

low_bit : (i b : ℕ) → i < 3 → b / 2 ^ i % 2 ≡ b % 8 / 2 ^ i % 2
low_bit zero b h = omega (arith, div-one b, div-one (b % 8))
low_bit (suc zero) b h = omega arith
low_bit (suc (suc zero)) b h = omega arith
low_bit (suc (suc (suc i))) b h = omega arith

-- 7 less three bits has the others
other-bit : (i n : ℕ) → i < 3 → n < 8 → has_bit i (7 - n) ≡ not (has_bit i n)
other-bit i n h l =
    let same : ℕ → ℕ → Bool = λ i n. beq (has_bit i (7 - n)) (not (has_bit i n)) in
    equal-tests _ _ (below 8 (same i) (below 3 (λ i. all_below 8 (same i)) tt i h) n l)

cleared : (x t : Bool) → (x && not t) ≡ pick t false x
cleared true true = refl
cleared true false = refl
cleared false true = refl
cleared false false = refl

set : (x t : Bool) → (x || t) ≡ pick t true x
set true true = refl
set true false = refl
set false true = refl
set false false = refl

-- ---- the latches

module _ (code b ra pair : ℕ) (s : Sample) (l : Latches) where
  abbrev Right : Latches → Type 0
  Right = LatchesAre code b ra pair s l

  abbrev Turned : ℕ → Type 0
  Turned n = (i : ℕ) → i < 3 → has_bit i n ≡ pick (within 0x70 0x71 code && has_bit i b) (eqb code 0x71) (has_bit i l.interrupts)

  -- by the lists that the code is in, IW apart
  by-lists : {lgl ltr mi : Bool} → eqb code 0x75 ≡ lgl → within 0xEE 0xEF code ≡ ltr → within 0xEC 0xED code ≡ mi → within 0xE2 0xE3 code ≡ false
      → {n : ℕ} → Turned n
      → Right
      (record { g = pick lgl (ra % 8) l.g; tr = pick ltr pair l.tr; ics = l.ics; interrupts = n; marked = mi; modification = pick mi pair 0 })
  by-lists p q r e turned =
      record { g = rw (p, e); tr = rw (q, e); ics = rw e; interrupts = turned; marked = rw r; modification = rw r }

  kept : Outside 0x70 0x71 code → Turned l.interrupts
  kept p i h = rw (outside 0x70 0x71 code p)

  -- a code of none of the lists
  pub latches-left : (code ≡ 0x75 → ⊥) × Outside 0xEE 0xEF code × Outside 0xEC 0xED code × Outside 0xE2 0xE3 code × Outside 0x70 0x71 code → Right (used l)
  latches-left (lgl, ltr, mi, iw, turns) =
      by-lists (ne_eqb code 0x75 lgl) (outside 0xEE 0xEF code ltr) (outside 0xEC 0xED code mi) (outside 0xE2 0xE3 code iw) (kept turns)

  -- RI and SI
  turns : {n : ℕ} → 0x70 ≤ code → code ≤ 0x71 → Turned n → Right (with_interrupts l n)
  turns lo hi turned =
      by-lists (ne_eqb code 0x75 (omega arith)) (outside 0xEE 0xEF code (omega arith)) (outside 0xEC 0xED code (omega arith))
      (outside 0xE2 0xE3 code (omega arith)) turned

  clears : code ≡ 0x70 → Turned (bit_and l.interrupts (7 - b % 8))
  clears e i h =
      let listed = inside 0x70 0x71 code (omega arith) in
      rw (and-bit i l.interrupts (7 - b % 8), other-bit i (b % 8) h (omega arith), listed, ne_eqb code 0x71 (omega arith), low_bit i b h)
      (cleared (has_bit i l.interrupts) (has_bit i (b % 8)))

  sets : code ≡ 0x71 → Turned (bit_or l.interrupts (b % 8))
  sets e i h =
      let listed = inside 0x70 0x71 code (omega arith) in
      rw (or-bit i l.interrupts (b % 8), listed, eq-eqb code 0x71 e, low_bit i b h)
      (set (has_bit i l.interrupts) (has_bit i (b % 8)))

  -- IW, by b mod 4
  module _ (lo : 0xE2 ≤ code) (hi : code ≤ 0xE3) where
    by-b : {one two some : Bool} → within 1 1 (b % 4) ≡ one → within 2 2 (b % 4) ≡ two → within 1 3 (b % 4) ≡ some
        → Right (record {
          g = pick one (s.dal / 16 % 8) (pick two (s.dal / 64 % 8) l.g);
          tr = pick some s.dal l.tr;
          ics = pick some s.ics l.ics;
          interrupts = l.interrupts;
          marked = false;
          modification = 0;
        })
    by-b p q r =
        let iw = inside 0xE2 0xE3 code (lo, hi) in
        let mi = outside 0xEC 0xED code (omega arith) in
        record {
          g = rw (ne_eqb code 0x75 (omega arith), iw, p, q);
          tr = rw (outside 0xEE 0xEF code (omega arith), iw, r);
          ics = rw (iw, r);
          interrupts = kept (omega arith);
          marked = rw mi;
          modification = rw mi;
        }

    input-latches-are : Right (input_latches_of l b s.dal s.ics)
    unfolding input_latches_of
    input-latches-are =
        let r = b % 4 in
        ranged-where Right r {from = 0} (omega arith)
        ((λ f t. by-b (outside 1 1 r (omega arith)) (outside 2 2 r (omega arith)) (outside 1 3 r (omega arith))) next
        (λ f t. by-b (inside 1 1 r (omega arith)) (outside 2 2 r (omega arith)) (inside 1 3 r (omega arith))) next
        (λ f t. by-b (outside 1 1 r (omega arith)) (inside 2 2 r (omega arith)) (inside 1 3 r (omega arith))) next
        other (λ f. by-b (outside 1 1 r (omega arith)) (outside 2 2 r (omega arith)) (inside 1 3 r (omega arith))))

  pub latches-are : Right (latches_after l code b ra pair s)
  unfolding latches_after
  latches-are =
      ranged-where Right code {from = 0} (omega arith)
      ((λ f t. latches-left (omega arith)) next
      (λ f t. turns f (omega arith) (clears (omega arith))) next
      (λ f t. turns (omega arith) (omega arith) (sets (omega arith))) next
      (λ f t. latches-left (omega arith)) next
      (λ f t.
      by-lists (eq-eqb code 0x75 (omega arith)) (outside 0xEE 0xEF code (omega arith)) (outside 0xEC 0xED code (omega arith))
      (outside 0xE2 0xE3 code (omega arith)) (kept (omega arith))) next
      (λ f t. latches-left (omega arith)) next
      (λ f t. input-latches-are f (omega arith)) next
      (λ f t. latches-left (omega arith)) next
      (λ f t.
      by-lists (ne_eqb code 0x75 (omega arith)) (outside 0xEE 0xEF code (omega arith)) (inside 0xEC 0xED code (omega arith))
      (outside 0xE2 0xE3 code (omega arith)) (kept (omega arith))) next
      (λ f t.
      by-lists (ne_eqb code 0x75 (omega arith)) (inside 0xEE 0xEF code (omega arith)) (outside 0xEC 0xED code (omega arith))
      (outside 0xE2 0xE3 code (omega arith)) (kept (omega arith))) next
      other (λ f. latches-left (omega arith)))
