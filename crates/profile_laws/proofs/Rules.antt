-- The rule that is told of a word is the first of 02's that fails. Assumes nothing.
use Prim.Native.Nat.{ℕ, ◌<◌}
use mathlib.Core.Path.{◌≡◌, refl, sym, ◌∙◌}
use mathlib.Core.Bool.{Bool, true, false, not, ◌&&◌, ◌||◌, beq, false≢true}
use mathlib.Core.List.{List, [], ◌∷◌}
use mathlib.Core.Logic.{◌↔◌, ◌⊎◌, inl, inr, ⊎_elim}
use native.Mathlib.Omega.{arith}
use borrow.Author.Tests.{eq-eqb, eqb-true}
use lib.Dec.{eqb}
use lib.ListN.{drop}
use Rattle.attempt_laws.specs.After.{has_bit}
use Rattle.attempt_laws.specs.Fate.{within, no_code, top_in}
use Rattle.choose.proofs.Table.{below}
use Rattle.choose.proofs.Tests.{equal-tests}
use Rattle.choose.specs.Ranged.{pick, ranged}
use Rattle.code.specs.CodeRows.{class_of}
use Rattle.deck.specs.Slip.{FirstFailing}
use Rattle.profile.specs.Profile.{no_run, rule_of}
use Rattle.profile_laws.specs.Rules.{NoMi, RrByJumps, FirstWord, Runs, rules, Kept}

-- ---- the first that fails

-- t says that P is broken
abbrev Breaks : Bool → Type 0 → Type 0
Breaks t P = (t ≡ false) ↔ P

first : (t : Bool) (P : Type 0) → Breaks t P → (n rest : ℕ) (ts : List (ℕ × Type 0)) → FirstFailing ts rest → FirstFailing ((n, P) ∷ ts) (pick t n rest)
first true P d n rest ts f = inl ((λ p. false≢true (sym (d.1 p))), refl)
first false P d n rest ts f = inr (d.0 refl, f)

-- where all are kept none fails
pub kept-none : (ts : List (ℕ × Type 0)) (n : ℕ) → Kept ts → FirstFailing ts n → n ≡ 0
kept-none [] n k f = f
kept-none (t ∷ ts) n k f = ⊎_elim (λ a. absurd (a.0 k.0)) (λ b. kept-none ts n k.1 b.1) f

-- and where none fails all are kept: what fails has a number
abbrev Numbered : List (ℕ × Type 0) → Type 0
Numbered [] = Unit {0}
Numbered (t ∷ ts) = (0 ≡ t.0 → ⊥) × Numbered ts

none_kept : (ts : List (ℕ × Type 0)) → Numbered ts → FirstFailing ts 0 → Kept ts
none_kept [] n f = tt
none_kept (t ∷ ts) n f = ⊎_elim (λ a. absurd (n.0 a.1)) (λ b. (b.0, none_kept ts n.1 b.1)) f

-- ---- the four

-- x asks for y
asks : (x y : Bool) → Breaks (x && not y) (x ≡ true → y ≡ true)
asks true true = ((λ e u. refl), (λ f. refl))
asks true false = ((λ e. absurd (false≢true (sym e))), (λ f. absurd (false≢true (f refl))))
asks false y = ((λ e u. absurd (false≢true u)), (λ f. refl))

first_word : (address word : ℕ) → let other = eqb (top_in word) 0xFF || within 0x00 0x07 (top_in word) in
    Breaks (eqb address 0 && not other) (FirstWord address word)
first_word address word =
    let other = eqb (top_in word) 0xFF || within 0x00 0x07 (top_in word) in
    let d = asks (eqb address 0) other in
    ((λ e z. d.0 e (eq-eqb address 0 z)), (λ f. d.1 (λ u. f (eqb-true address 0 u))))

-- a test over the 256 codes, which the checker computes
no-run-is : (top : ℕ) → top < 256 → no_run top ≡ no_code top
unfolding no_run no_code class_of ranged
no-run-is top h = equal-tests _ _ (below 256 (λ c. beq (no_run c) (no_code c)) tt top h)

runs : (word : ℕ) → Breaks (no_run (top_in word)) (Runs word)
runs word = let e = no-run-is (top_in word) (omega arith) in ((λ q. sym e ∙ q), (λ q. e ∙ q))

pub rule-exactly : (address word : ℕ) → FirstFailing (rules address word) (rule_of address word)
unfolding rule_of
rule-exactly address word =
    let top = top_in word in
    let jumps = within 0x00 0x07 top || within 0x10 0x1F top in
    let other = eqb top 0xFF || within 0x00 0x07 top in
    let four : ℕ = pick (no_run top) 4 0 in
    let three : ℕ = pick (eqb address 0 && not other) 3 four in
    let two : ℕ = pick (has_bit 16 word && not jumps) 2 three in
    let tests = rules address word in
    first (within 0xEC 0xED top) (NoMi word) ((λ e. e), (λ e. e)) 1 two (drop 1 tests)
    (first (has_bit 16 word && not jumps) (RrByJumps word) (asks (has_bit 16 word) jumps) 2 three (drop 2 tests)
    (first (eqb address 0 && not other) (FirstWord address word) (first_word address word) 3 four (drop 3 tests)
    (first (no_run top) (Runs word) (runs word) 4 0 [] refl)))

-- no rule is told where all are kept
pub rule-kept : (address word : ℕ) → rule_of address word ≡ 0 → Kept (rules address word)
rule-kept address word z =
    none_kept (rules address word) ((λ e. omega arith), ((λ e. omega arith), ((λ e. omega arith), ((λ e. omega arith), tt))))
    (rw z at (rule-exactly address word))
