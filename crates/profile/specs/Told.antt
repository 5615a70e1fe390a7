-- What the check of the profile answers, as it is told: a rule's number, and the report.
use Rattle.std.specs.Prelude.{ℕ, ⊤, ◌≡◌, List, Option, Some, None, Result, Ok, Err}
use Rattle.listing.specs.Listed.{words_report, IsAmong}
use Rattle.profile.specs.Profile.{report_of}
use Rattle.profile.specs.declared.Report.{Report}
use Rattle.profile.specs.declared.Rule.{Rule}
use Rattle.profile.specs.declared.Unfit.{Unfit}

-- "in the order of 02"
abbrev pub rule_number : Rule → ℕ
rule_number Rule.NoMi = 1
rule_number Rule.RrByJumps = 2
rule_number Rule.FirstWord = 3
rule_number Rule.Runs = 4

abbrev pub number_of_rule : Option Rule → ℕ
number_of_rule None = 0
number_of_rule (Some rule) = rule_number rule

abbrev pub unfit_report : Unfit → Report
unfit_report (Unfit.Range refused) = report_of 2 (words_report refused).at 0
unfit_report (Unfit.Broken address rule) = report_of 25 address (rule_number rule)

module _ {A : Type 0} where
  abbrev pub profile_report : Result A Unfit → Report
  profile_report (Ok x) = report_of 0 0 0
  profile_report (Err unfit) = unfit_report unfit

-- "2 as the lister gives it": it is the lister's 2, and a word that is told is one that the lister looks at
abbrev pub RangeIsAmong : List ℕ → Unfit → Type 0
RangeIsAmong s (Unfit.Range refused) = ((words_report refused).answer ≡ 2) × IsAmong s refused
RangeIsAmong s (Unfit.Broken address rule) = ⊤
