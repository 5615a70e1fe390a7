-- What a completed attempt's word is not: 01's tests that it passed. Assumes nothing.
use Prim.Native.Nat.{ℕ, ◌/◌}
use mathlib.Core.Path.{◌≡◌, refl}
use mathlib.Core.Bool.{Bool, true, false}
use mathlib.Core.List.{List}
use native.Mathlib.Omega.{arith}
use lib.Dec.{ltb}
use lib.ListN.{length}
use Rattle.attempt_laws.specs.Fate.{Fate, refused, reset, compute-low, completed, no_code, word_fate, taken_word, fate_of}
use Rattle.choose.specs.Ranged.{pick}
use Rattle.code.specs.Word.{top_of}
use Rattle.state.specs.declared.Core.{Core}
use Rattle.state.specs.declared.Sample.{Sample}

-- a word that completes is neither unlisted nor AC
pub word-completes : (word : ℕ) (s : Sample) → word_fate word s ≡ completed → no_code (top_of word) ≡ false
unfolding word_fate
word-completes word s e = go (ltb word 0x40_0000) (no_code (top_of word)) _ e
  where
    go : (t n : Bool) (f : Fate) → pick t (pick n (refused 6) f) (refused 2) ≡ completed → n ≡ false
    go true true f e = let z : ◌≡◌ {A = ℕ} 0 1 = cc in absurd (omega arith)
    go true false f e = refl
    go false n f e = let z : ◌≡◌ {A = ℕ} 0 1 = cc in absurd (omega arith)

-- and it is the word taken at LC
pub taken-completes : (ws : List ℕ) (k : Core) (s : Sample) → fate_of ws k s ≡ completed → word_fate (taken_word ws k) s ≡ completed
unfolding fate_of
taken-completes ws k s e = go s.reset s.compute (ltb k.address.lc (length ws / 4)) (word_fate (taken_word ws k) s) e
  where
    go : (r c l : Bool) (f : Fate) → pick r reset (pick c (pick l f (refused 5)) compute-low) ≡ completed → f ≡ completed
    go true c l f e = let z : ◌≡◌ {A = ℕ} 0 1 = cc in absurd (omega arith)
    go false true true f e = e
    go false true false f e = let z : ◌≡◌ {A = ℕ} 0 1 = cc in absurd (omega arith)
    go false false l f e = let z : ◌≡◌ {A = ℕ} 0 1 = cc in absurd (omega arith)
