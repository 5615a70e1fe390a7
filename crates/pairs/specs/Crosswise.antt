-- MW, AW, SW, SLW and SRW on pairs that overlap crosswise, each of two byte cycles. 02, L6: "Cycles run in the order of 01, each reading what the one
-- before it wrote".
use Rattle.std.specs.Prelude.{ℕ, ◌+◌, ◌-◌, ◌*◌, ◌/◌, ◌%◌, ◌≡◌, true, List, ltb}
use Rattle.attempt.specs.Attempt.{attempt_of}
use Rattle.attempt_laws.specs.Fate.{within, top_in, b_in, a_in, completed, taken_word, fate_of}
use Rattle.choose.specs.Ranged.{bit}
use Rattle.rows.specs.Range.{rows_in_range}
use Rattle.rows.specs.declared.Row.{Row}
use Rattle.state.specs.File.{register_of}
use Rattle.state.specs.Pairs.{Crosswise}
use Rattle.state.specs.Range.{InRange, SampleInRange}
use Rattle.state.specs.declared.Core.{Core}
use Rattle.state.specs.declared.Sample.{Sample}

-- ---- what Ra and Rb hold afterwards, where they held x and y: each is the low byte of one pair and the high byte of the other

-- "MW of 3 to 2 leaves both with what R3 held"
abbrev pub moved : ℕ → ℕ → ℕ × ℕ
moved x y = (y, y)

-- Ra + Rb; then Rb, which is the high byte of Ra's pair, and the sum, which is that of Rb's, with the carry
abbrev pub added : ℕ → ℕ → ℕ × ℕ
added x y =
    let low = (x + y) % 256 in
    (low, (y + low + (x + y) / 256) % 256)

-- Ra - Rb; then Rb less the difference and the borrow
abbrev pub subtracted : ℕ → ℕ → ℕ × ℕ
subtracted x y =
    let low = (256 + x - y) % 256 in
    (low, (256 + y - low - bit (ltb x y)) % 256)

-- Rb twice; then that twice, with the bit shifted out
abbrev pub shifted_left : ℕ → ℕ → ℕ × ℕ
shifted_left x y =
    let low = 2 * y % 256 in
    (low, (2 * low + y / 128) % 256)

-- "Right shifts begin with the high designator": Ra, the high byte of Rb's pair, halved into Rb, the high byte of Ra's; then that halved into Ra
abbrev pub shifted_right : ℕ → ℕ → ℕ × ℕ
shifted_right x y =
    let high = x / 2 in
    (high / 2 + 128 * (x % 2), high)

-- ---- an attempt

-- all input in range; the attempt completes an instruction, by its even code or the odd one after it, whose pairs overlap crosswise
pub record Given (even : ℕ) (ws : List ℕ) (rs : List Row) (xs : List ℕ) (k : Core) (s : Sample) : Type 0 where
  pub completes : fate_of ws k s ≡ completed
  pub code : within even (even + 1) (top_in (taken_word ws k)) ≡ true
  pub crosswise : Crosswise k.latches.g (a_in (taken_word ws k)) (b_in (taken_word ws k))
  pub rows : rows_in_range rs ≡ true
  pub state : InRange xs k
  pub sample : SampleInRange s

-- what it leaves in Ra and Rb
abbrev pub Leaving : (ℕ → ℕ → ℕ × ℕ) → List ℕ → List Row → List ℕ → Core → Sample → Type 0
Leaving held ws rs xs k s =
    let g = k.latches.g in
    let a = a_in (taken_word ws k) in
    let b = b_in (taken_word ws k) in
    let after = held (register_of xs g a) (register_of xs g b) in
    let ys = (attempt_of ws rs xs k s).file in
    (register_of ys g a ≡ after.0) × (register_of ys g b ≡ after.1)
