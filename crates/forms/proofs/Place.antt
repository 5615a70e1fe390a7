-- Where a name first stands among the mnemonics: the place that std's `position` gives. And what is found stands there.
use Prim.Native.Nat.{ℕ, suc, ◌+◌, ◌<◌, ◌≤◌}
use mathlib.Core.Path.{◌≡◌, refl, sym, ◌∙◌, ap}
use mathlib.Core.Bool.{Bool, true, false}
use mathlib.Core.List.{List, [], ◌∷◌}
use native.Mathlib.Nat.{add-zero, zero-add}
use native.Mathlib.Omega.{arith}
use lib.Dec.{eqb}
use lib.ListN.{length, get_or}
use borrow.Author.Tests.{eqb-true, ne_eqb}
use Rattle.std.specs.Prelude.{Option, Some, None, ◌==◌}
use Rattle.std.specs.List.{position, position_or_len}
use Rattle.std.proofs.lemmas.List.Quantifiers.{position-Some}
use Rattle.std.proofs.lemmas.List.Sums.{position_or_len_is, passes_at_first}
use Rattle.choose.specs.Ranged.{pick}
use Rattle.choose.proofs.Table.{firsts_at}
use Rattle.names.specs.Mnemonics.{mnemonic_of, all_mnemonics, letters_from}
use Rattle.forms.specs.Named.{place_from, top_named}

all-256 : length all_mnemonics ≡ 0x100
unfolding all_mnemonics
all-256 = refl

place : (n i : ℕ) (xs : List ℕ) → place_from n i xs ≡ i + position_or_len (λ x. x == n) xs
place n i [] = sym (add-zero i)
place n i (x ∷ xs) = go (eqb x n) refl (place n (suc i) xs)
  where
    go : (t : Bool) → eqb x n ≡ t → place_from n (suc i) xs ≡ suc i + position_or_len (λ x. x == n) xs
        → place_from n i (x ∷ xs) ≡ i + position_or_len (λ x. x == n) (x ∷ xs)
    go true e later = rw e (sym (add-zero i))
    go false e later = rw e (omega (arith, later))

first-in : (p : ℕ → Bool) (xs : List ℕ) (i : ℕ) → position p xs ≡ Some i → (i < length xs) × (position_or_len p xs ≡ i)
first-in p xs i e =
    let (inside, here, before) = position-Some p xs i 0 e in
    (inside, position_or_len_is p xs i 0 (omega arith) before (λ h. here))

none-in : (p : ℕ → Bool) (xs : List ℕ) → position p xs ≡ None → length xs ≤ position_or_len p xs
none-in p xs e = grind arith

pub named_at : (n top : ℕ) → (n ≡ letters_from 0 4 "" → ⊥) → position (λ x. x == n) all_mnemonics ≡ Some top → (top < 0x100) × (top ≡ top_named n)
unfolding top_named
named_at n top given e =
    let (inside, first) = first-in (λ x. x == n) all_mnemonics top e in
    (omega (arith, inside, all-256), rw (ne_eqb _ _ given, place n 0 all_mnemonics, first) (sym (zero-add top)))

pub unnamed : (n : ℕ) → position (λ x. x == n) all_mnemonics ≡ None → top_named n < 0x100 → ⊥
unfolding top_named
unnamed n e = go (eqb n (letters_from 0 4 ""))
  where
    go : (t : Bool) → pick t 0x100 (place_from n 0 all_mnemonics) < 0x100 → ⊥
    go true h = omega arith
    go false h = omega (arith, none-in (λ x. x == n) all_mnemonics e, all-256, place n 0 all_mnemonics)

-- what is found among the mnemonics is the mnemonic of its place
pub place-named : (n : ℕ) → place_from n 0 all_mnemonics < 0x100 → mnemonic_of (place_from n 0 all_mnemonics) ≡ n
unfolding all_mnemonics
place-named n h =
    let k = position_or_len (λ x. x == n) all_mnemonics in
    let same : place_from n 0 all_mnemonics ≡ k = place n 0 all_mnemonics ∙ zero-add k in
    let inside : k < length all_mnemonics = omega (arith, all-256) in
    let there : get_or all_mnemonics k 0 ≡ n = eqb-true _ _ (passes_at_first (λ x. x == n) all_mnemonics 0 inside) in
    rw same (sym (firsts_at mnemonic_of 0 0x100 k (omega (arith, all-256))) ∙ there)
