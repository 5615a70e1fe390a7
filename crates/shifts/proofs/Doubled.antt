-- A number of a byte or a word, shifted left, is the number added to itself: every part of the result. Assumes nothing.
use Prim.Native.Nat.{ℕ, ◌+◌, ◌*◌, ◌<◌}
use mathlib.Core.Path.{◌≡◌, refl, sym, ◌∙◌}
use mathlib.Core.Bool.{Bool, true, false}
use mathlib.Core.List.{List}
use Rattle.alu.proofs.Laws.{left-adds}
use Rattle.alu.specs.Cycle.{add_of, cycle_of}
use Rattle.alu.specs.declared.Cycle.{Cycle}
use Rattle.alu.specs.declared.Flags.{Flags}
use Rattle.alu.specs.declared.Kind.{Kind}
use Rattle.numbers.specs.Numbers.{Bytes}
use Rattle.state.specs.File.{register_of}
use Rattle.state.specs.Pairs.{inverted}
use Rattle.table_laws.proofs.Arithmetic.{Shows, byte-same, low-first-joined}
use Rattle.table_laws.proofs.Performed.{register-below}
use Rattle.table_laws.specs.Operations.{Result, shift_left_of, sum_of}
use Rattle.table_laws.specs.Set.{number_in, range_of}

-- two results that a cycle shows are the same
shown : {r t : Result} {n : ℕ} {y : Cycle} → Shows r n y → Shows t n y → r ≡ t
shown h l =
    λ i. record {
      number = (sym h.number ∙ l.number) i;
      negative = (sym h.negative ∙ l.negative) i;
      c4 = (sym h.c4 ∙ l.c4) i;
      c8 = (sym h.c8 ∙ l.c8) i;
      v = (sym h.v ∙ l.v) i;
      c = (sym h.c ∙ l.c) i;
    }

byte-doubled : (q : ℕ) (c : Bool) (f : Flags) → q < 256 → shift_left_of 256 q c ≡ sum_of 256 q q c
unfolding cycle_of
byte-doubled q c f h = shown (rw (left-adds q c h) at (byte-same Kind.Left q q c f h)) (byte-same Kind.Add q q c f h)

word-doubled : (q₀ q₁ : ℕ) (c : Bool) (f : Flags) → q₀ < 256 → q₁ < 256
    → shift_left_of 65536 (q₀ + 256 * q₁) c ≡ sum_of 65536 (q₀ + 256 * q₁) (q₀ + 256 * q₁) c
unfolding cycle_of
word-doubled q₀ q₁ c f h l =
    shown (rw (left-adds q₀ c h, left-adds q₁ (add_of q₀ q₀ c).c8 l) at (low-first-joined q₀ q₁ q₀ q₁ c f h l h l Kind.Left refl))
    (low-first-joined q₀ q₁ q₀ q₁ c f h l h l Kind.Add refl)

-- of the number in a register, or in a pair
pub doubled : (word : Bool) (xs : List ℕ) (g d : ℕ) (c : Bool) (f : Flags) → Bytes xs
    → let q = number_in word xs g d in
    shift_left_of (range_of word) q c ≡ sum_of (range_of word) q q c
doubled false xs g d c f h = byte-doubled (register_of xs g d) c f (register-below g xs h d)
doubled true xs g d c f h = word-doubled (register_of xs g d) (register_of xs g (inverted d)) c f (register-below g xs h d) (register-below g xs h (inverted d))
