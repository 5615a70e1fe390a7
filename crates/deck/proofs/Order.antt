-- A sample's four bytes are its numbers in 01's order. Assumes nothing.
use mathlib.Core.Path.{◌≡◌}
use mathlib.Core.List.{List}
use Prim.Native.Nat.{ℕ, ◌+◌, ◌*◌, ◌/◌, ◌%◌, ◌≤◌}
use native.Mathlib.Nat.{add-zero}
use native.Mathlib.Omega.{arith}
use Rattle.choose.proofs.Tests.{bit_is}
use Rattle.numbers.specs.Laid.{LaidOut}
use Rattle.deck.specs.Elements.{lines_at, sample_at}
use Rattle.deck.specs.Order.{sample_order}

-- a sample that sets no unused line
pub sample-order : (s : List ℕ) (i : ℕ) → lines_at s i ≤ 31 → LaidOut s (i * 4) (sample_order (sample_at s i))
unfolding sample_at
sample-order s i h =
    let x = lines_at s i in
    let one : x ≡ x / 2 * 2 + x % 2 = omega arith in
    let two : x / 2 ≡ x / 4 * 2 + x / 2 % 2 = omega arith in
    let four : x / 4 ≡ x / 8 * 2 + x / 4 % 2 = omega arith in
    let eight : x / 8 ≡ x / 16 * 2 + x / 8 % 2 = omega arith in
    let last : x / 16 ≡ x / 16 % 2 = omega arith in
    let reply = bit_is (x % 2) (omega arith) in
    let busy = bit_is (x / 2 % 2) (omega arith) in
    let compute = bit_is (x / 4 % 2) (omega arith) in
    let reset = bit_is (x / 8 % 2) (omega arith) in
    let ics = bit_is (x / 16 % 2) (omega arith) in
    rw (add-zero (i * 4)) (omega arith)
