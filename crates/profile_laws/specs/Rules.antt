-- The service profile in 02's own words: the four rules of a word at an address, and what the check tells.
use Rattle.std.specs.Prelude.{ℕ, ◌/◌, ◌<◌, ◌≡◌, true, false, ◌||◌, List, [], ◌∷◌, eqb, length}
use Rattle.attempt_laws.specs.After.{has_bit}
use Rattle.attempt_laws.specs.Fate.{within, no_code, top_in}
use Rattle.deck.specs.Sections.{state_part}
use Rattle.deck.specs.Slip.{FirstFailing}
use Rattle.engine.specs.Run.{World}
use Rattle.listing_laws.specs.Told.{None, FirstAt, answers_in, Whole}
use Rattle.numbers.specs.Numbers.{byte_at, word_at}
use Rattle.profile.specs.Profile.{report_of}
use Rattle.profile.specs.declared.Report.{Report}

-- "no MI", which is EC and ED
abbrev pub NoMi : ℕ → Type 0
NoMi word = within 0xEC 0xED (top_in word) ≡ false

-- "RR loaded only by JMP or a conditional jump": bit 16 loads RR, JMP is 00-07 and the conditional jumps are 10-1F
abbrev pub RrByJumps : ℕ → Type 0
RrByJumps word = has_bit 16 word ≡ true → within 0x00 0x07 (top_in word) || within 0x10 0x1F (top_in word) ≡ true

-- "no word at address 0 but NOP or JMP": NOP is FF
abbrev pub FirstWord : ℕ → ℕ → Type 0
FirstWord address word = address ≡ 0 → eqb (top_in word) 0xFF || within 0x00 0x07 (top_in word) ≡ true

-- "no unlisted code and no CAD anywhere"
abbrev pub Runs : ℕ → Type 0
Runs word = no_code (top_in word) ≡ false

-- each rule with its number, "in the order of 02"
abbrev pub rules : ℕ → ℕ → List (ℕ × Type 0)
rules address word = (1, NoMi word) ∷ (2, RrByJumps word) ∷ (3, FirstWord address word) ∷ (4, Runs word) ∷ []

abbrev pub Kept : List (ℕ × Type 0) → Type 0
Kept [] = Unit {0}
Kept (t ∷ ts) = t.1 × Kept ts

-- every word keeps all rules
abbrev pub Keeps : List ℕ → Type 0
Keeps s = (i : ℕ) → i < length s / 4 → Kept (rules i (word_at s i))

-- "the first offending address and the first rule broken": every lower address keeps all rules, and the rules before it hold there
pub record Broken (s : List ℕ) (address rule : ℕ) : Type 0 where
  pub there : address < length s / 4
  pub some : rule ≡ 0 → ⊥
  pub before : (i : ℕ) → i < address → Kept (rules i (word_at s i))
  pub first : FirstFailing (rules address (word_at s address)) rule

-- "a run .. that starts without a waiting modification"
pub record Starts (w : World) : Type 0 where
  pub unmarked : w.core.latches.marked ≡ false
  pub unrefused : w.answer ≡ 0

-- the same of a deck: "marks (.. 3 modification)", byte 37 of its state
abbrev pub NoneWaits : List ℕ → Type 0
NoneWaits deck = has_bit 3 (byte_at (state_part deck) 37) ≡ false

-- a case for each reason, in the order of the paper: "2 as the lister gives it, with its address, then 25"
pub data Tells (s : List ℕ) : Report → Type 0 where
  over : (j : ℕ) → FirstAt 2 (answers_in s) j → Tells s (report_of 2 j 0)
  other_length : None 2 (answers_in s) → (Whole s → ⊥) → Tells s (report_of 2 2048 0)
  broken : None 2 (answers_in s) → Whole s → (address rule : ℕ) → Broken s address rule → Tells s (report_of 25 address rule)
  accepted : None 2 (answers_in s) → Whole s → Keeps s → Tells s (report_of 0 0 0)
