-- The service profile. 02, L14: "no MI, RR loaded only by JMP or a conditional jump, no word at address 0 but NOP or JMP, and no unlisted code and no CAD
-- anywhere. Tell the first offending address and the first rule broken."
use Rattle.std.specs.Prelude.{ℕ, suc, ◌/◌, ◌%◌, Bool, not, ◌&&◌, ◌||◌, List, [], ◌∷◌, eqb, leb, length}
use Rattle.choose.specs.Below.{firsts}
use Rattle.choose.specs.Ranged.{pick}
use Rattle.code.specs.CodeRows.{class_of, listed}
use Rattle.listing.specs.Listed.{listed_of}
use Rattle.numbers.specs.Numbers.{word_at}
use Rattle.profile.specs.declared.Report.{Report}

abbrev pub report_of : ℕ → ℕ → ℕ → Report
report_of answer address rule = record { answer = answer; address = address; rule = rule }

-- a range of codes, both ends in it
abbrev pub within : ℕ → ℕ → ℕ → Bool
within first last top = leb first top && leb top last

-- rule 4: "no unlisted code and no CAD", which is AC
unfoldable pub no_run : ℕ → Bool
no_run top = not (listed (class_of top)) || eqb top 0xAC

-- the first rule that a word at an address breaks, or 0: MI is EC and ED; bit 16 loads RR; JMP is 00-07, the conditional jumps are 10-1F, NOP is FF
unfoldable pub rule_of : ℕ → ℕ → ℕ
rule_of address word =
    let top = word / 0x100 % 0x100 in
    let jmp = within 0x00 0x07 top in
    pick (within 0xEC 0xED top) 1
    (pick (eqb (word / 0x1_0000 % 2) 1 && not (jmp || within 0x10 0x1F top)) 2
    (pick (eqb address 0 && not (eqb top 0xFF || jmp)) 3
    (pick (no_run top) 4
    0)))

-- "25 profile broken": the first of the words from an address on
unfoldable pub broken_from : ℕ → List ℕ → Report
broken_from address [] = report_of 0 0 0
broken_from address (w ∷ ws) =
    pick (eqb (rule_of address w) 0) (broken_from (suc address) ws) (report_of 25 address (rule_of address w))

-- "2 as the lister gives it, with its address", which it does before it looks at the room for its text; "25 .. after 2"
unfoldable pub profile_of : List ℕ → Report
profile_of s =
    pick (eqb (listed_of s 1).answer 2) (report_of 2 (listed_of s 1).at 0) (broken_from 0 (firsts (word_at s) 0 (length s / 4)))
