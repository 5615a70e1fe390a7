-- What the cycles of a word find in Rb's pair: what it held, unless it overlaps Ra's crosswise. Assumes nothing.
use Prim.Native.Nat.{ℕ, ◌+◌, ◌*◌, ◌%◌, ◌<◌}
use mathlib.Core.Path.{◌≡◌, refl, ap, sym}
use mathlib.Core.Bool.{Bool, true, false}
use mathlib.Core.List.{List}
use Rattle.alu.specs.declared.Flags.{Flags}
use Rattle.choose.proofs.Choice.{pick_all}
use Rattle.state.proofs.Laws.{written-other}
use Rattle.state.proofs.Pairs.{not-crosswise, low-crosswise, high-crosswise}
use Rattle.state.specs.File.{slot_of, register_of}
use Rattle.state.specs.Pairs.{inverted, Crosswise}
use Rattle.table_laws.specs.Operations.{Line}
use Rattle.table_laws.specs.Set.{number_in, after_cycle, pair_found}

module _ (line : Line) (xs : List ℕ) (g : ℕ) (f : Flags) where
  -- a cycle leaves every register but the one that it writes
  cycle-leaves : (b a d : ℕ) → (slot_of g d ≡ slot_of g a → ⊥) → register_of (after_cycle line xs g f b a) g d ≡ register_of xs g d
  unfolding register_of
  cycle-leaves b a d n =
      pick_all (λ (ys : List ℕ). register_of ys g d ≡ register_of xs g d) line.writes _ _ (written-other xs g a _ (slot_of g d) n) refl

  -- the second cycle finds its byte as it was where the first wrote elsewhere
  found-apart : (t : Bool) (b a : ℕ) → (slot_of g (inverted b) ≡ slot_of g a → ⊥) → (slot_of g b ≡ slot_of g (inverted a) → ⊥)
      → pair_found line t xs g f b a ≡ number_in true xs g b
  found-apart true b a high low = ap (λ n. n + 256 * register_of xs g (inverted b)) (cycle-leaves (inverted b) (inverted a) b low)
  found-apart false b a high low = ap (λ n. register_of xs g b + 256 * n) (cycle-leaves b a (inverted b) high)

  -- so unless the pairs overlap crosswise
  pub found-whole : (t : Bool) (b a : ℕ) → g < 8 → a < 16 → b < 16 → (Crosswise g a b → ⊥) → pair_found line t xs g f b a ≡ number_in true xs g b
  found-whole t b a hg ha hb n = found-apart t b a (λ e. n (high-crosswise g a b hg ha hb e)) (λ e. n (low-crosswise g a b hg ha hb e))

  -- as pairs don't whose designators are both even, or both odd
  pub found_alike : (t : Bool) (b a : ℕ) → a % 2 ≡ b % 2 → pair_found line t xs g f b a ≡ number_in true xs g b
  found_alike t b a e = found-apart t b a (not-crosswise g a b e) (λ h. not-crosswise g b a (sym e) (sym h))
