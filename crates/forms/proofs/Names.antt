-- Which top byte a mnemonic names, by a test that antt computes at each of the 256: no two instructions have one mnemonic.
use Prim.Native.Nat.{ℕ, ◌<◌}
use mathlib.Core.Path.{◌≡◌, refl, sym, ◌∙◌, ap}
use mathlib.Core.Bool.{Bool, true, false, ◌&&◌, not}
use native.Mathlib.Omega.{arith}
use lib.Dec.{eqb, eqb→eq}
use borrow.Author.Tests.{eqb-true, not-true}
use Rattle.choose.specs.Ranged.{pick, ranged}
use Rattle.choose.proofs.Table.{below}
use Rattle.choose.proofs.Tests.{holds, both_true}
use Rattle.code.specs.CodeRows.{class_of, listed}
use Rattle.code.specs.Word.{code_of}
use Rattle.names.specs.Mnemonics.{mnemonic_of, all_mnemonics, letters_from}
use Rattle.names.proofs.Laws.{named-listed}
use Rattle.forms.specs.Named.{place_from, top_named, twinned, odd_of, even_of}
use Rattle.forms.proofs.Place.{place-named}

-- the first code of each listed top byte's instruction, even where it has a pair
tops : (top : ℕ) → top < 0x100 → top_named (mnemonic_of top) ≡ pick (listed (class_of top)) (even_of (code_of top)) 0x100
unfolding top_named mnemonic_of all_mnemonics class_of code_of odd_of twinned ranged
tops top h = eqb→eq _ _ (below 0x100 (λ x. eqb (top_named (mnemonic_of x)) (pick (listed (class_of x)) (even_of (code_of x)) 0x100)) tt top h)

pub named-first : (top : ℕ) → top < 0x100 → listed (class_of top) ≡ true → top_named (mnemonic_of top) ≡ even_of (code_of top)
named-first top h e = rw e at (tops top h)

-- one mnemonic, one instruction: two codes of it are the even and the odd of a pair
pub mnemonics-differ : (s t : ℕ) → s < 0x100 → t < 0x100 → listed (class_of s) ≡ true → listed (class_of t) ≡ true
    → mnemonic_of s ≡ mnemonic_of t → even_of (code_of s) ≡ even_of (code_of t)
mnemonics-differ s t hs ht ls lt e = sym (named-first s hs ls) ∙ ap top_named e ∙ named-first t ht lt

-- a first code is the code of itself, and the odd code of no pair
first_code : (top : ℕ) → top < 0x100 → (code_of (even_of (code_of top)) ≡ even_of (code_of top)) × (odd_of (even_of (code_of top)) ≡ false)
unfolding mnemonic_of class_of code_of odd_of twinned ranged
first_code top h =
    let (own, even) =
    both_true _ _ (holds _ (below 0x100 (λ x. eqb (code_of (even_of (code_of x))) (even_of (code_of x)) && not (odd_of (even_of (code_of x)))) tt top h)) in
    (eqb-true _ _ own, not-true _ even)

-- what a mnemonic names: a listed top byte t of that mnemonic, the first of its instruction
pub record Names (name t : ℕ) : Type 0 where
  pub mnemonic : mnemonic_of t ≡ name
  pub given : eqb name (letters_from 0 4 "") ≡ false
  pub listed-top : listed (class_of t) ≡ true
  pub own : code_of t ≡ t
  pub even : odd_of t ≡ false

found : (name : ℕ) → top_named name < 0x100 → (mnemonic_of (top_named name) ≡ name) × (eqb name (letters_from 0 4 "") ≡ false)
unfolding top_named
found name h = go (eqb name (letters_from 0 4 "")) refl h
  where
    go : (t : Bool) → eqb name (letters_from 0 4 "") ≡ t → pick t 0x100 (place_from name 0 all_mnemonics) < 0x100
        → (mnemonic_of (pick t 0x100 (place_from name 0 all_mnemonics)) ≡ name) × (t ≡ false)
    go true e h = absurd (omega arith)
    go false e h = (place-named name h, refl)

pub names : (name : ℕ) → top_named name < 0x100 → Names name (top_named name)
names name h =
    let t = top_named name in
    let (mine, given) = found name h in
    let is-listed : listed (class_of t) ≡ true = sym (named-listed t h) ∙ rw (mine, given) in
    let first : even_of (code_of t) ≡ t = sym (named-first t h is-listed) ∙ ap top_named mine in
    record {
      mnemonic = mine;
      given = given;
      listed-top = is-listed;
      own = rw first at (first_code t h).0;
      even = rw first at (first_code t h).1;
    }
