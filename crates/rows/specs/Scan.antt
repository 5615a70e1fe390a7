-- Translation rows: which of them match, and what all matching rows put out.
use Rattle.std.specs.Prelude.{Bool, ◌&&◌, List, [], ◌∷◌, ℕ, ◌/◌, ◌%◌, eqb}
use Rattle.std.specs.Int.Bits.{bit_and, bit_or}
use Rattle.choose.specs.Ranged.{pick}
use Rattle.rows.specs.declared.Row.{Row}
use Rattle.rows.specs.declared.Inputs.{Inputs}
use Rattle.rows.specs.declared.Outputs.{Outputs}

-- "under its masks, .. equal its values": one mask and its value
abbrev pub agrees : ℕ → ℕ → ℕ → Bool
agrees x mask value = eqb (bit_and x mask) value

-- "A row matches when, under its masks, LC, bit 17, the selected TR byte (TSR bit 2: 0 upper, 1 lower), TSR bits 1-0
-- and I0-I6 equal its values, all as before the attempt"
unfoldable pub matched_of : Row → Inputs → Bool
matched_of r i =
    agrees i.lc r.mask.lc r.value.lc
    && agrees i.rni r.mask.rni r.value.rni
    && agrees i.tr r.mask.tr r.value.tr
    && agrees i.tsr r.mask.tsr r.value.tsr
    && agrees i.interrupts r.mask.interrupts r.value.interrupts

-- "ORed", output by output: a row without LTA still gives its address bits, one without LTSR its new TSR bits
abbrev pub ored : Outputs → Outputs → Outputs
ored o p = record { address = bit_or o.address p.address; lines = bit_or o.lines p.lines; new_tsr = bit_or o.new_tsr p.new_tsr }

-- what one more row makes of the outputs: they change only where it matches
unfoldable pub merged_of : Outputs → Row → Inputs → Outputs
merged_of o r i = pick (matched_of r i) (ored o r.outputs) o

-- no outputs
abbrev pub none : Outputs
none = record { address = 0; lines = 0; new_tsr = 0 }

-- the outputs o, and those of the rows after them
unfoldable pub scan_from : Outputs → List Row → Inputs → Outputs
scan_from o [] i = o
scan_from o (r ∷ rs) i = scan_from (merged_of o r i) rs i

-- "Outputs of all matching rows are ORed"
abbrev pub scan_of : List Row → Inputs → Outputs
scan_of rs i = scan_from none rs i

-- "lines (bit 0 LTA, 1 LRA, 2 LTSR)"
abbrev pub lta : Outputs → Bool
lta o = eqb (o.lines % 2) 1

abbrev pub lra : Outputs → Bool
lra o = eqb (o.lines / 2 % 2) 1

abbrev pub ltsr : Outputs → Bool
ltsr o = eqb (o.lines / 4 % 2) 1
