-- What latches, bus and request are over each range of codes: the arms of a choice that a range can reach.
use Prim.Native.Nat.{ℕ, zero, suc, ◌<◌, ◌≤◌}
use mathlib.Core.Path.{◌≡◌, refl, ◌∙◌, sym}
use mathlib.Core.Bool.{Bool}
use mathlib.Core.List.{List, [], ◌∷◌}
use native.Mathlib.Omega.{arith}
use lib.Dec.{T, leb, leb→le}
use lib.ListN.{take, drop}
use borrow.Author.Tests.{lt-ltb, le-ltb}
use Rattle.choose.specs.Ranged.{ranged}
use Rattle.choose.proofs.Ranged.{past, end_of, arm_of}
use Rattle.choose.proofs.Tests.{both_left, both_right}
use Rattle.state.specs.declared.Bus.{Bus}
use Rattle.state.specs.declared.Latches.{Latches}
use Rattle.state.specs.declared.Sample.{Sample}
use Rattle.control.specs.Bus.{bus_after, request_of}
use Rattle.control.specs.Latches.{latches_after}
use Rattle.control.specs.Parts.{latches_after70_to77, latches_after_input, latches_after_load}

module _ {A : Type 0} where
  -- below the end of arm i, the arms after it do not count
  pub arms-to : (x : ℕ) (ms : List (ℕ × A)) (d : A) (i : ℕ) → x < end_of ms i → ranged x ms d ≡ ranged x (take i ms) (arm_of ms i d)
  unfolding ranged
  arms-to x [] d i u = absurd (omega arith)
  arms-to x (m ∷ ms) d zero u = rw (lt-ltb x m.0 u)
  arms-to x (m ∷ ms) d (suc i) u = rw (arms-to x ms d i u)

  -- from lo on, the arms that end at lo or below do not count
  pub arms-from : (x : ℕ) (ms : List (ℕ × A)) (d : A) (i lo : ℕ) → T (past lo i ms) → lo ≤ x → ranged x ms d ≡ ranged x (drop i ms) d
  unfolding ranged
  arms-from x ms d zero lo t h = refl
  arms-from x [] d (suc i) lo t h = refl
  arms-from x (m ∷ ms) d (suc i) lo t h =
      let k = leb→le m.0 lo (both_left (leb m.0 lo) (past lo i ms) t) in
      rw (le-ltb x m.0 (omega arith)) (arms-from x ms d i lo (both_right (leb m.0 lo) (past lo i ms) t) h)

module _ (l : Latches) (code b ra pair : ℕ) (s : Sample) where
  pub latches-70-to-77 : code < 0xE0 → latches_after l code b ra pair s ≡ latches_after70_to77 l code b ra
  unfolding latches_after latches_after70_to77
  latches-70-to-77 h = arms-to _ _ _ 5 (omega arith)

  pub latches-input : 0xE0 ≤ code → code < 0xE8 → latches_after l code b ra pair s ≡ latches_after_input l code b s
  unfolding latches_after latches_after_input
  latches-input h g = arms-from _ _ _ 5 0xE0 tt h ∙ arms-to _ _ _ 2 (omega arith)

  pub latches-load : 0xE8 ≤ code → latches_after l code b ra pair s ≡ latches_after_load l code pair
  unfolding latches_after latches_after_load
  latches-load h = arms-from _ _ _ 7 0xE8 tt h

module _ (held : Bus) (code : ℕ) (rmw : Bool) where
  -- RMW counts only where it is an input
  pub bus-without-rmw : (t : Bool) (pair : ℕ) → 0xF0 ≤ code → bus_after held code rmw pair ≡ bus_after held code t pair
  unfolding bus_after
  bus-without-rmw t pair h = arms-from _ _ _ 3 0xF0 tt h ∙ sym (arms-from _ _ _ 3 0xF0 tt h)

module _ (code dal : ℕ) where
  -- a pair counts only where it is put out
  pub request-without-pair : (p q : ℕ) → code < 0xF0 → request_of code p dal ≡ request_of code q dal
  unfolding request_of
  request-without-pair p q h = arms-to _ _ _ 3 h ∙ sym (arms-to _ _ _ 3 h)
