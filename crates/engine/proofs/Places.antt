-- One place of the request buffer: putting a request there changes its four bytes and no others, and it is read back as it was. Assumes nothing.
use mathlib.Core.Path.{◌≡◌, ◌∙◌}
use mathlib.Core.List.{List}
use Prim.Native.Nat.{ℕ, ◌+◌, ◌*◌, ◌/◌, ◌%◌, ◌<◌, ◌≤◌}
use native.Mathlib.Omega.{arith}
use lib.ListN.{length, get_or, set, length-set}
use lib.Seq.{get_or-set_same, get_or-set_other}
use Rattle.numbers.specs.Numbers.{byte_at, quad_at}
use Rattle.numbers.proofs.Laws.{quad-bytes}
use Rattle.engine.specs.Run.{put4_of}

module _ (b : List ℕ) (at x : ℕ) where
  -- with one byte of it set, with two, with three
  abbrev one : List ℕ
  one = set b at (x % 256)

  abbrev two : List ℕ
  two = set one (at + 1) (x / 256 % 256)

  abbrev three : List ℕ
  three = set two (at + 2) (x / 65536 % 256)

  pub put-length : length (put4_of b at x) ≡ length b
  unfolding put4_of
  put-length = simp length-set

  pub put_other : (i d : ℕ) → (at ≤ i → i < at + 4 → ⊥) → get_or (put4_of b at x) i d ≡ get_or b i d
  unfolding put4_of
  put_other i d n =
      get_or-set_other three (at + 3) i (x / 16777216 % 256) d (λ e. n (omega arith) (omega arith))
      ∙ get_or-set_other two (at + 2) i (x / 65536 % 256) d (λ e. n (omega arith) (omega arith))
      ∙ get_or-set_other one (at + 1) i (x / 256 % 256) d (λ e. n (omega arith) (omega arith))
      ∙ get_or-set_other b at i (x % 256) d (λ e. n (omega arith) (omega arith))

  module _ (l : at + 4 ≤ length b) where
    byte-0 : byte_at (put4_of b at x) at ≡ x % 256
    unfolding put4_of
    byte-0 =
        get_or-set_other three (at + 3) at (x / 16777216 % 256) 0 (λ e. omega arith)
        ∙ get_or-set_other two (at + 2) at (x / 65536 % 256) 0 (λ e. omega arith)
        ∙ get_or-set_other one (at + 1) at (x / 256 % 256) 0 (λ e. omega arith)
        ∙ get_or-set_same b at (x % 256) 0 (omega arith)

    byte-1 : byte_at (put4_of b at x) (at + 1) ≡ x / 256 % 256
    unfolding put4_of
    byte-1 =
        get_or-set_other three (at + 3) (at + 1) (x / 16777216 % 256) 0 (λ e. omega arith)
        ∙ get_or-set_other two (at + 2) (at + 1) (x / 65536 % 256) 0 (λ e. omega arith)
        ∙ get_or-set_same one (at + 1) (x / 256 % 256) 0 (simp length-set (omega arith))

    byte-2 : byte_at (put4_of b at x) (at + 2) ≡ x / 65536 % 256
    unfolding put4_of
    byte-2 =
        get_or-set_other three (at + 3) (at + 2) (x / 16777216 % 256) 0 (λ e. omega arith)
        ∙ get_or-set_same two (at + 2) (x / 65536 % 256) 0 (simp length-set (omega arith))

    byte-3 : byte_at (put4_of b at x) (at + 3) ≡ x / 16777216 % 256
    unfolding put4_of
    byte-3 = get_or-set_same three (at + 3) (x / 16777216 % 256) 0 (simp length-set (omega arith))

-- a number of 32 bits is that of its four bytes
digits : (x : ℕ) → x < 4294967296 → x % 256 + 256 * (x / 256 % 256) + 65536 * (x / 65536 % 256) + 16777216 * (x / 16777216 % 256) ≡ x
digits x h =
    let two : x / 65536 ≡ x / 256 / 256 = omega arith in
    let three : x / 16777216 ≡ x / 65536 / 256 = omega arith in
    let mid : x / 256 ≡ x / 256 % 256 + 256 * (x / 65536) = omega arith in
    let top : x / 65536 ≡ x / 65536 % 256 + 256 * (x / 16777216) = omega arith in
    let last : x / 16777216 % 256 ≡ x / 16777216 = omega arith in
    omega arith

-- "one 32-bit place for each sample": it holds what was put there
pub put-quad : (b : List ℕ) (at x : ℕ) → at + 4 ≤ length b → x < 4294967296 → quad_at (put4_of b at x) at ≡ x
put-quad b at x l h = quad-bytes (put4_of b at x) at ∙ rw (byte-0 b at x l, byte-1 b at x l, byte-2 b at x l, byte-3 b at x l) (digits x h)
