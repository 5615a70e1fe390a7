-- Any two results that the contract of `profile` permits are equal, and of `rule_broken` too: what is told as numbers is read back from them.
-- Assumes nothing.
use Prim.Native.Nat.{ℕ}
use mathlib.Core.Path.{◌≡◌, refl, sym, ap, ◌∙◌}
use mathlib.Core.List.{List, [], ◌∷◌}
use native.Mathlib.Omega.{arith}
use lib.Dec.{eqb}
use Rattle.std.specs.Prelude.{Option, Some, None, Result, Ok, Err, IfErr}
use Rattle.choose.specs.Ranged.{pick, ranged}
use Rattle.code.specs.declared.Unread.{Unread}
use Rattle.listing.proofs.One.{words_result, words_back}
use Rattle.listing.specs.Assembled.{report_of as told}
use Rattle.listing.specs.declared.WordsRefused.{WordsRefused}
use Rattle.profile.specs.Profile.{rule_of, profile_of}
use Rattle.profile.specs.Told.{number_of_rule, profile_report, RangeIsAmong}
use Rattle.profile.specs.declared.Report.{Report}
use Rattle.profile.specs.declared.Rule.{Rule}
use Rattle.profile.specs.declared.Unfit.{Unfit}

-- ---- a number is that of one rule, and none is 0
rule_in : ℕ → Rule
rule_in n = ranged n ((2, Rule.NoMi) ∷ (3, Rule.RrByJumps) ∷ (4, Rule.FirstWord) ∷ []) Rule.Runs

rule_result : ℕ → Option Rule
rule_result n = pick (eqb n 0) None (Some (rule_in n))

rule_back : (x : Option Rule) → rule_result (number_of_rule x) ≡ x
unfolding rule_result rule_in ranged
rule_back None = refl
rule_back (Some Rule.NoMi) = refl
rule_back (Some Rule.RrByJumps) = refl
rule_back (Some Rule.FirstWord) = refl
rule_back (Some Rule.Runs) = refl

pub one_rule : (x y : Option Rule) → number_of_rule x ≡ number_of_rule y → x ≡ y
one_rule x y e = sym (rule_back x) ∙ ap rule_result e ∙ rule_back y

-- for the contract of `rule_broken`
pub one-rule_broken : (address word : ℕ) (x y : Option Rule)
    → number_of_rule x ≡ rule_of address word → number_of_rule y ≡ rule_of address word → x ≡ y
one-rule_broken address word x y p q = one_rule x y (p ∙ sym q)

-- ---- the profile: the lister's 2 is one refusal of it
abbrev range_of : Result ℕ WordsRefused → Result (Unit {0}) Unfit
range_of (Ok n) = Ok tt
range_of (Err refused) = Err (Unfit.Range refused)

unfit_result : Report → Result (Unit {0}) Unfit
unfit_result r =
    pick (eqb r.answer 0) (Ok tt)
    (pick (eqb r.answer 25) (Err (Unfit.Broken r.address (rule_in r.rule)))
    (range_of (words_result (told 2 r.address 0))))

module _ (s : List ℕ) where
  unfit_back : (x : Result (Unit {0}) Unfit) → IfErr x (RangeIsAmong s) → unfit_result (profile_report x) ≡ x
  unfolding unfit_result rule_in ranged
  unfit_back (Ok x) h = refl
  unfit_back (Err (Unfit.Broken address Rule.NoMi)) h = refl
  unfit_back (Err (Unfit.Broken address Rule.RrByJumps)) h = refl
  unfit_back (Err (Unfit.Broken address Rule.FirstWord)) h = refl
  unfit_back (Err (Unfit.Broken address Rule.Runs)) h = refl
  unfit_back (Err (Unfit.Range (WordsRefused.Word address Unread.OutOfRange))) h =
      ap range_of (words_back s (Err (WordsRefused.Word address Unread.OutOfRange)) h.1)
  unfit_back (Err (Unfit.Range (WordsRefused.Word address Unread.Unlisted))) h = absurd (omega (arith, h.0))
  unfit_back (Err (Unfit.Range WordsRefused.Length)) h = ap range_of (words_back s (Err WordsRefused.Length) h.1)
  unfit_back (Err (Unfit.Range (WordsRefused.Room needed))) h = absurd (omega (arith, h.0))

  -- for the contract of `profile`
  pub one-profile : (x y : Result (Unit {0}) Unfit)
      → profile_report x ≡ profile_of s → IfErr x (RangeIsAmong s)
      → profile_report y ≡ profile_of s → IfErr y (RangeIsAmong s) → x ≡ y
  one-profile x y p h q k = sym (unfit_back x h) ∙ ap unfit_result (p ∙ sym q) ∙ unfit_back y k
