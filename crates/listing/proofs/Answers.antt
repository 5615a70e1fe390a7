-- What the lister tells and leaves, by the tests that lead to each answer.
use Prim.Native.Nat.{ℕ, ◌+◌, ◌<◌, ◌≤◌}
use mathlib.Core.Path.{◌≡◌, refl, ◌∙◌}
use mathlib.Core.Bool.{Bool, true, false}
use mathlib.Core.List.{List, ◌++◌}
use native.Mathlib.Nat.{zero-add}
use native.Mathlib.Omega.{arith}
use borrow.Author.Tests.{ltb-true, lt-ltb, le-ltb}
use lib.Dec.{ltb}
use lib.ListN.{length, drop}
use lib.Seq.{sets-eq}
use Rattle.std.specs.Prelude.{Some, None}
use Rattle.choose.specs.Below.{firsts}
use Rattle.choose.specs.Ranged.{pick}
use Rattle.numbers.specs.Numbers.{word_at}
use Rattle.listing.specs.Laid.{Laid}
use Rattle.listing.specs.Assembled.{report_of}
use Rattle.listing.specs.Listed.{word_count, place_below, first_with, is_whole, listing_from, listed_of, listed_into}
use Rattle.listing.specs.declared.Report.{Report}

-- the report and the text that the lister has to come to
abbrev pub Ends : List ℕ → List ℕ → Report → List ℕ → Type 0
Ends s out r after = (r ≡ listed_of s (length out)) × (after ≡ listed_into s out)

-- what a place that is told says of the place that is looked for: there it is, or it is past the end
found : (n p q : ℕ) → Some q ≡ place_below n p → (q ≡ p) × (ltb q n ≡ true)
found n p q e = go (ltb p n) refl e
  where
    go : (t : Bool) → ltb p n ≡ t → Some q ≡ pick t (Some p) None → (q ≡ p) × (ltb q n ≡ true)
    go true h e = let same : q ≡ p = cc in (same, rw same h)
    go false h e = cc

nowhere : (n p : ℕ) → place_below n p ≡ None → ltb p n ≡ false
nowhere n p e = go (ltb p n) e
  where
    go : (t : Bool) → pick t (Some p) None ≡ None → t ≡ false
    go true e = cc
    go false e = refl

pub among : (s : List ℕ) (n : ℕ) → n ≡ word_count s → (p q : ℕ) → Some q ≡ place_below n p → q < word_count s
among s n counted p q e = rw counted at (ltb-true q n (found n p q e).1)

-- the first n words, and their lines
module _ (s out : List ℕ) (n : ℕ) (counted : n ≡ word_count s) where
  abbrev words : List ℕ
  words = firsts (word_at s) 0 n

  abbrev lines : List ℕ
  lines = listing_from 0 words

  pub over : (q : ℕ) → Some q ≡ place_below n (first_with 2 0 words) → Ends s out (report_of 2 q 0) out
  unfolding listed_of listed_into
  over q e =
      let f = found n (first_with 2 0 words) q e in
      (rw (← counted, ← f.0, f.1), rw (← counted, ← f.0, f.1))

  -- no word is out of range
  module _ (none : place_below n (first_with 2 0 words) ≡ None) where
    fine : ltb (first_with 2 0 words) n ≡ false
    fine = nowhere n _ none

    pub other_length : is_whole s ≡ false → Ends s out (report_of 2 2048 0) out
    unfolding listed_of listed_into
    other_length t = (rw (← counted, fine, t), rw (← counted, fine, t))

    module _ (whole : is_whole s ≡ true) where
      pub unlisted : (q : ℕ) → Some q ≡ place_below n (first_with 6 0 words) → Ends s out (report_of 6 q 0) out
      unfolding listed_of listed_into
      unlisted q e =
          let f = found n (first_with 6 0 words) q e in
          (rw (← counted, fine, whole, ← f.0, f.1), rw (← counted, fine, whole, ← f.0, f.1))

      -- and all are listed
      module _ (all : place_below n (first_with 6 0 words) ≡ None) (m : ℕ) (needed : m ≡ 0 + length lines) where
        listed : ltb (first_with 6 0 words) n ≡ false
        listed = nowhere n _ all

        long : length lines ≡ m
        long = omega arith

        pub short : length out < m → Ends s out (report_of 27 0 m) out
        unfolding listed_of listed_into
        short h =
            let t : ltb (length out) m ≡ true = lt-ltb _ _ h in
            (rw (← counted, fine, whole, listed, long, t), rw (← counted, fine, whole, listed, long, t))

        pub done : {most : ℕ} {after : List ℕ} {end : ℕ} → m ≤ length out → Laid out 0 lines most after end → Ends s out (report_of 0 0 m) after
        unfolding listed_of listed_into
        done {most} {after} {end} h laid =
            let t : ltb (length out) m ≡ false = le-ltb _ _ h in
            let fits : 0 + length lines ≤ length out = omega (arith, needed) in
            let laid_out : after ≡ lines ++ drop m out = laid.bytes ∙ sets-eq lines out 0 fits ∙ rw (zero-add, long) in
            (rw (← counted, fine, whole, listed, long, t), laid_out ∙ rw (← counted, fine, whole, listed, long, t))
