-- The request buffer holds the history: place j has the request of attempt j. And a history that agrees with another up to an attempt says the same of it.
-- Assumes nothing.
use Prim.Native.Nat.{ℕ, zero, suc, ◌+◌, ◌*◌, ◌<◌, ◌≤◌}
use mathlib.Core.Path.{◌≡◌, refl, ◌∙◌}
use mathlib.Core.Bool.{Bool, true, false}
use mathlib.Core.List.{List}
use native.Mathlib.Omega.{arith}
use lib.Dec.{ltb}
use lib.ListN.{length}
use borrow.Author.Tests.{ltb-true, ltb-false}
use Rattle.engine.specs.Run.{put4_of, stepped_of}
use Rattle.engine.proofs.Places.{put-length, put_other, put-quad}
use Rattle.memory.specs.Run.{Together, taken_in}
use Rattle.numbers.specs.Numbers.{quad_at}
use Rattle.rows.specs.declared.Row.{Row}
use Rattle.state.specs.declared.Sample.{Sample}
use Rattle.memory_laws.specs.History.{accessed_before, address_before, stores_at, byte_before}
use Rattle.memory_laws.specs.Attempts.{together_after, request_at}
use Rattle.memory_laws.proofs.Ran.{attempts-after}

-- another place stays
quad-other : (b : List ℕ) (at x a : ℕ) → (a + 4 ≤ at) → quad_at (put4_of b at x) a ≡ quad_at b a
quad-other b at x a l =
    rw (
      put_other b at x a 0 (λ p q. omega arith),
      put_other b at x (a + 1) 0 (λ p q. omega arith),
      put_other b at x (a + 2) 0 (λ p q. omega arith),
      put_other b at x (a + 2 + 1) 0 (λ p q. omega arith),
    )

module _ (ws : List ℕ) (rs : List Row) (delay : ℕ) (at : ℕ → Sample) (first : Together) (z : first.world.answer ≡ 0) (none : first.world.attempts ≡ 0) where
  abbrev after : ℕ → Together
  after = together_after ws rs delay at first

  abbrev r : ℕ → ℕ
  r = request_at ws rs delay at first

  pub buffer-stays : (i : ℕ) → length (after i).world.buffer ≡ length first.world.buffer
  unfolding together_after taken_in stepped_of
  buffer-stays zero = refl
  buffer-stays (suc i) = put-length (after i).world.buffer ((after i).world.attempts * 4) (r i) ∙ buffer-stays i

  counted : (i : ℕ) → (after i).world.attempts ≡ i
  counted i = attempts-after ws rs delay at first z i ∙ rw none (omega arith)

  module _ (n : ℕ) (room : n * 4 ≤ length first.world.buffer) (small : (j : ℕ) → j < n → r j < 4294967296) where
    pub placed : (i j : ℕ) → i ≤ n → j < i → quad_at (after i).world.buffer (j * 4) ≡ r j
    unfolding together_after taken_in stepped_of
    placed zero j m l = absurd (omega (arith, l))
    placed (suc i) j m l = go (ltb j i) refl (placed i j (omega arith))
      where
        go : (b : Bool) → ltb j i ≡ b → (j < i → quad_at (after i).world.buffer (j * 4) ≡ r j)
            → quad_at (put4_of (after i).world.buffer ((after i).world.attempts * 4) (r i)) (j * 4) ≡ r j
        go true e before =
            rw (counted i) (quad-other (after i).world.buffer (i * 4) (r i) (j * 4) (omega (arith, ltb-true j i e)) ∙ before (ltb-true j i e))
        go false e before =
            let same : j ≡ i = omega (arith, l, ltb-false j i e) in
            rw (counted i, same) (put-quad (after i).world.buffer (i * 4) (r i) (omega (arith, buffer-stays i)) (small i (omega arith)))

-- ---- histories that agree
module _ (r s : ℕ → ℕ) where
  pub same-access : (n : ℕ) → ((j : ℕ) → j < n → r j ≡ s j) → accessed_before r n ≡ accessed_before s n
  unfolding accessed_before
  same-access zero e = refl
  same-access (suc n) e = rw (e n (omega arith), same-access n (λ j l. e j (omega arith)))

  pub same_address : (n : ℕ) → ((j : ℕ) → j < n → r j ≡ s j) → address_before r n ≡ address_before s n
  unfolding address_before
  same_address zero e = refl
  same_address (suc n) e = rw (e n (omega arith), same_address n (λ j l. e j (omega arith)))

  pub same_byte : (x first n : ℕ) → ((j : ℕ) → j < n → r j ≡ s j) → byte_before r x first n ≡ byte_before s x first n
  unfolding byte_before stores_at
  same_byte x first zero e = refl
  same_byte x first (suc n) e =
      rw (e n (omega arith), same_address n (λ j l. e j (omega arith)), same_byte x first n (λ j l. e j (omega arith)))
