-- One word more of what the profile looks at, and when the lister gives no 2. Assumes nothing.
use Prim.Native.Nat.{ℕ, suc, ◌+◌, ◌-◌, ◌/◌, ◌%◌, ◌<◌, ◌≤◌}
use mathlib.Core.Path.{◌≡◌, refl, sym, ap, ◌∙◌}
use mathlib.Core.Bool.{Bool, true, false, false≢true, and-eq-true_iff}
use mathlib.Core.List.{List, [], ◌∷◌}
use native.Mathlib.Numerals.{add-one}
use native.Mathlib.Omega.{arith}
use borrow.Author.Tests.{eq-eqb, ne_eqb, eqb-true, leb-true}
use lib.Dec.{eqb, leb, ltb}
use lib.ListN.{length}
use Rattle.std.specs.Prelude.{Result, Ok, Err, IfErr}
use Rattle.choose.proofs.Choice.{pick_all}
use Rattle.choose.specs.Below.{firsts}
use Rattle.choose.specs.Ranged.{pick}
use Rattle.listing.specs.Assembled.{report_of as told}
use Rattle.listing.specs.declared.Report.{Report}
use Rattle.listing.specs.Listed.{word_count, words_in, first_with, is_whole, listed_of}
use Rattle.numbers.specs.Numbers.{word_at}
use Rattle.profile.specs.Profile.{report_of, rule_of, broken_from, profile_of}
use Rattle.profile.specs.Told.{rule_number, unfit_report, profile_report, RangeIsAmong}
use Rattle.profile.specs.declared.Report as P
use Rattle.profile.specs.declared.Rule.{Rule}
use Rattle.profile.specs.declared.Unfit.{Unfit}

module _ (s : List ℕ) (n i : ℕ) (h : i < n) where
  next_word : firsts (word_at s) i (n - i) ≡ word_at s i ∷ firsts (word_at s) (suc i) (n - (i + 1))
  next_word = let e : n - i ≡ suc (n - (i + 1)) = omega arith in rw e

  pub broken-here : (rule_of i (word_at s i) ≡ 0 → ⊥) → broken_from i (firsts (word_at s) i (n - i)) ≡ report_of 25 i (rule_of i (word_at s i))
  unfolding broken_from
  broken-here z = rw (next_word, ne_eqb _ 0 z)

  pub broken-after : rule_of i (word_at s i) ≡ 0 → broken_from i (firsts (word_at s) i (n - i)) ≡ broken_from (i + 1) (firsts (word_at s) (i + 1) (n - (i + 1)))
  unfolding broken_from
  broken-after z = rw (next_word, eq-eqb _ 0 z, add-one i)

pub none_left : (s : List ℕ) (n i : ℕ) → n ≤ i → broken_from i (firsts (word_at s) i (n - i)) ≡ report_of 0 0 0
unfolding broken_from
none_left s n i h = let e : n - i ≡ 0 = omega arith in rw e

-- words that the lister gives no 2 are whole and no more than 2,048
pub whole_words : (s : List ℕ) (room : ℕ) → ((listed_of s room).answer ≡ 2 → ⊥) → (length s % 4 ≡ 0) × (length s ≤ 8192)
unfolding listed_of
whole_words s room z =
    let whole = go (ltb (first_with 2 0 (words_in s)) (word_count s)) (is_whole s) _ _ z in
    let p = (and-eq-true_iff (eqb (length s % 4) 0) (leb (length s) 8192)).0 whole in
    (eqb-true _ _ p.0, leb-true _ _ p.1)
  where
    go : (over t : Bool) (at : ℕ) (rest : Report) → ((pick over (told 2 at 0) (pick t rest (told 2 2048 0))).answer ≡ 2 → ⊥) → t ≡ true
    go true t at rest z = absurd (z refl)
    go false true at rest z = refl
    go false false at rest z = absurd (z refl)

-- ---- what the lister's 2 comes to
pub rule_not-0 : (rule : Rule) → rule_number rule ≡ 0 → ⊥
rule_not-0 Rule.NoMi e = omega arith
rule_not-0 Rule.RrByJumps e = omega arith
rule_not-0 Rule.FirstWord e = omega arith
rule_not-0 Rule.Runs e = omega arith

unfit_not-0 : (u : Unfit) → (unfit_report u).answer ≡ 0 → ⊥
unfit_not-0 (Unfit.Range refused) e = omega arith
unfit_not-0 (Unfit.Broken address rule) e = omega arith

module _ (s : List ℕ) where
  abbrev pub Ranged : P.Report → Type 0
  Ranged r = r ≡ pick (eqb (listed_of s 1).answer 2) (report_of 2 (listed_of s 1).at 0) (report_of 0 0 0)

  pub refused : (u : Unfit) → Ranged (unfit_report u) → unfit_report u ≡ profile_of s
  unfolding profile_of
  refused u e = go (eqb (listed_of s 1).answer 2) e
    where
      go : (t : Bool) → unfit_report u ≡ pick t (report_of 2 (listed_of s 1).at 0) (report_of 0 0 0)
          → unfit_report u ≡ pick t (report_of 2 (listed_of s 1).at 0) (broken_from 0 (firsts (word_at s) 0 (length s / 4)))
      go true e = e
      go false e = absurd (unfit_not-0 u (ap (λ (r : P.Report). r.answer) e))

  pub fine : Ranged (report_of 0 0 0) → eqb (listed_of s 1).answer 2 ≡ false
  fine e = go (eqb (listed_of s 1).answer 2) e
    where
      go : (t : Bool) → report_of 0 0 0 ≡ pick t (report_of 2 (listed_of s 1).at 0) (report_of 0 0 0) → t ≡ false
      go true e = absurd (omega (arith, ap (λ (r : P.Report). r.answer) e))
      go false e = refl

  pub whole : Ranged (report_of 0 0 0) → (length s % 4 ≡ 0) × (length s ≤ 8192)
  whole e = whole_words s 1 (λ z. let t : eqb (listed_of s 1).answer 2 ≡ true = eq-eqb _ _ z in false≢true (sym (fine e) ∙ t))

  pub held : Ranged (report_of 0 0 0) → (r : P.Report) → r ≡ broken_from 0 (firsts (word_at s) 0 (length s / 4)) → r ≡ profile_of s
  unfolding profile_of
  held e r h = rw (fine e) h

-- ---- the words one after the other give 0 or 25
broken-not-2 : (i : ℕ) (ws : List ℕ) → 2 ≡ (broken_from i ws).answer → ⊥
unfolding broken_from
broken-not-2 i [] = λ e. omega arith
broken-not-2 i (w ∷ ws) = pick_all (λ (r : P.Report). 2 ≡ r.answer → ⊥) (eqb (rule_of i w) 0) _ _ (broken-not-2 (suc i) ws) (λ e. omega arith)

-- so no refusal of the lister is told for them
module _ {A : Type 0} (s : List ℕ) where
  pub broken-among : (ws : List ℕ) (x : Result A Unfit) → profile_report x ≡ broken_from 0 ws → IfErr x (RangeIsAmong s)
  broken-among ws (Ok x) e = tt
  broken-among ws (Err (Unfit.Broken address rule)) e = tt
  broken-among ws (Err (Unfit.Range refused)) e = absurd (broken-not-2 0 ws (ap (λ (r : P.Report). r.answer) e))
