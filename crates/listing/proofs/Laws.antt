-- One step of what the loops go through: a byte, a word, a number more.
use Prim.Native.Nat.{ℕ, zero, suc, ◌+◌, ◌*◌, ◌-◌, ◌<◌, ◌≤◌, min}
use mathlib.Core.Path.{◌≡◌, refl, sym, ap, ◌∙◌}
use mathlib.Core.List.{List, [], ◌∷◌, ◌++◌}
use native.Mathlib.Nat.{add-zero, add-suc, suc-add}
use native.Mathlib.Numerals.{add-one}
use native.Mathlib.Omega.{arith}
use mathlib.Core.Bool.{true, false}
use lib.Dec.{eqb}
use borrow.Author.Tests.{lt-ltb, le-ltb}
use Rattle.std.specs.Prelude.{Some, None}
use mathlib.Core.Logic.{◌⊎◌, inl, inr}
use lib.ListN.{length, get_or, take, drop, set, replicate, length-replicate, drop_of_length-le}
use Rattle.std.proofs.lemmas.Bool.{cases_lt}
use Rattle.std.proofs.lemmas.List.{length-take-le, take-append-drop, take_all}
use lib.Seq.{sets, sets-eq, drop-cons, length-sets, set_out, paste}
use Rattle.choose.specs.Below.{firsts}
use Rattle.code.specs.Word.{apart_of, number_of}
use Rattle.numbers.specs.Numbers.{word_at}
use Rattle.listing.specs.Assembled.{bytes_of}
use Rattle.listing.specs.Listed.{place_below, first_with, word_line, listing_from}

pub length-firsts : (f : ℕ → ℕ) (i n : ℕ) → length (firsts f i n) ≡ n
length-firsts f i zero = refl
length-firsts f i (suc n) = ap suc (length-firsts f (suc i) n)

pub sets-append : (l : List ℕ) (i : ℕ) (xs ys : List ℕ) → sets l i (xs ++ ys) ≡ sets (sets l i xs) (i + length xs) ys
sets-append l i [] ys = rw (add-zero i)
sets-append l i (x ∷ xs) ys =
    sets-append (set l i x) (suc i) xs ys ∙ ap (λ (k : ℕ). sets (sets (set l i x) (suc i) xs) k ys) (suc-add i (length xs) ∙ sym (add-suc i (length xs)))

-- what is put past the end is put nowhere
pub past_end : (bs l : List ℕ) (at : ℕ) → length l ≤ at → sets l at bs ≡ l
past_end [] l at h = refl
past_end (b ∷ bs) l at h = rw (set_out l at b h) (past_end bs l (suc at) (omega arith))

-- as many bytes as there is room for
pub room_for : (l bs : List ℕ) (at n : ℕ) → at < length l → n ≡ min (length bs) (length l - at) → paste l at (take n bs) n ≡ sets l at bs
room_for l bs at n h e =
    let few : length (take n bs) ≡ n = length-take-le n bs (omega arith) in
    let same : sets l at bs ≡ sets (sets l at (take n bs)) (at + n) (drop n bs) =
    ap (sets l at) (sym (take-append-drop n bs)) ∙ sets-append l at (take n bs) (drop n bs) ∙ rw few in
    let first : sets l at (take n bs) ≡ paste l at (take n bs) n =
    sets-eq (take n bs) l at (omega arith) ∙ rw (few, take_all n (take n bs) (omega arith)) in
    sym (same ∙ rest (cases_lt n (length bs)) ∙ first)
  where
    rest : (n < length bs) ⊎ (length bs ≤ n) → sets (sets l at (take n bs)) (at + n) (drop n bs) ≡ sets l at (take n bs)
    rest (inl p) = past_end (drop n bs) _ (at + n) (omega (arith, length-sets l at (take n bs)))
    rest (inr p) = rw (drop_of_length-le bs p)

-- the bytes from i on: the first of them, and the others
pub sets-step : (l : List ℕ) (at i : ℕ) (bs : List ℕ) → i < length bs
    → sets l (at + i) (drop i bs) ≡ sets (set l (at + i) (get_or bs i 0)) (at + (i + 1)) (drop (i + 1) bs)
sets-step l at i bs h =
    let e : at + (i + 1) ≡ suc (at + i) = omega arith in
    rw (e, add-one, drop-cons bs i 0)

-- past the end neither they nor the others are put anywhere
pub sets-past : (l : List ℕ) (at i : ℕ) (bs : List ℕ) → length l ≤ at + i → sets l (at + i) (drop i bs) ≡ sets l (at + (i + 1)) (drop (i + 1) bs)
sets-past l at i bs h = past_end (drop i bs) l (at + i) h ∙ sym (past_end (drop (i + 1) bs) l (at + (i + 1)) (omega arith))

-- a word, and the words after it
pub word-step : (l : List ℕ) (i w : ℕ) (ws : List ℕ)
    → sets l (4 * i) (bytes_of (w ∷ ws)) ≡ sets (sets l (4 * i) (bytes_of (w ∷ []))) (4 * (i + 1)) (bytes_of ws)
unfolding bytes_of
word-step l i w ws =
    let e : 4 * (i + 1) ≡ suc (suc (suc (suc (4 * i)))) = omega arith in
    rw e

pub bytes-append : (xs ys : List ℕ) → bytes_of (xs ++ ys) ≡ bytes_of xs ++ bytes_of ys
unfolding bytes_of
bytes-append [] ys = refl
bytes-append (x ∷ xs) ys = rw (bytes-append xs ys)

pub bytes-length : (ws : List ℕ) → length (bytes_of ws) ≡ 4 * length ws
unfolding bytes_of
bytes-length [] = refl
bytes-length (w ∷ ws) = omega (arith, bytes-length ws)

-- a gap, the word after it, and the words after that
pub gap-word-step : (l : List ℕ) (next a w : ℕ) (ws : List ℕ) → next ≤ a
    → sets l (4 * next) (bytes_of (replicate (a - next) 0xFF00 ++ w ∷ ws))
    ≡ sets (sets (sets l (4 * next) (bytes_of (replicate (a - next) 0xFF00))) (4 * a) (bytes_of (w ∷ []))) (4 * (a + 1)) (bytes_of ws)
gap-word-step l next a w ws h =
    let gap : List ℕ = replicate (a - next) 0xFF00 in
    let e : 4 * next + length (bytes_of gap) ≡ 4 * a = omega (arith, bytes-length gap, length-replicate {A = ℕ} (a - next) 0xFF00) in
    rw (bytes-append gap (w ∷ ws), sets-append l (4 * next) (bytes_of gap) (bytes_of (w ∷ ws)), e) (word-step _ a w ws)

-- one more of those that are left
pub gap_step : (next a w : ℕ) → next < a → replicate (a - next) w ≡ w ∷ replicate (a - (next + 1)) w
gap_step next a w h = let e : a - next ≡ suc (a - (next + 1)) = omega arith in rw e

module _ (s : List ℕ) (n i : ℕ) (h : i < n) where
  left : n - i ≡ suc (n - (i + 1))
  left = omega arith

  -- the first word has the number
  pub first-here : (k : ℕ) → eqb (number_of (apart_of (word_at s i))) k ≡ true → place_below n (first_with k i (firsts (word_at s) i (n - i))) ≡ Some i
  first-here k e = rw (left, e, lt-ltb _ _ h)

  -- or it is looked for among the others
  pub first-after : (k : ℕ) → eqb (number_of (apart_of (word_at s i))) k ≡ false
      → first_with k i (firsts (word_at s) i (n - i)) ≡ first_with k (i + 1) (firsts (word_at s) (i + 1) (n - (i + 1)))
  first-after k e = rw (left, e, add-one)

  -- the line of the first word, and those of the others
  pub listing_step : listing_from i (firsts (word_at s) i (n - i))
      ≡ word_line i (word_at s i) ++ listing_from (i + 1) (firsts (word_at s) (i + 1) (n - (i + 1)))
  unfolding listing_from
  listing_step = rw (left, add-one)

-- no word is left
pub first_none : (s : List ℕ) (n i : ℕ) → n ≤ i → (k : ℕ) → place_below n (first_with k i (firsts (word_at s) i (n - i))) ≡ None
first_none s n i h k = let e : n - i ≡ 0 = omega arith in rw (e, le-ltb _ _ h)
