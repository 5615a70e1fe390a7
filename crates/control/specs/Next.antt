-- The next address: jumps, rows, LC + 1; RR; TSR. 01, "One attempt".
use Rattle.std.specs.Prelude.{ℕ, ◌+◌, ◌*◌, ◌/◌, ◌%◌, Bool, not, [], ◌∷◌, eqb}
use Rattle.choose.specs.Ranged.{bit, pick, ranged}
use Rattle.alu.specs.declared.Flags.{Flags}
use Rattle.rows.specs.Scan.{lta, lra, ltsr}
use Rattle.rows.specs.declared.Inputs.{Inputs}
use Rattle.rows.specs.declared.Outputs.{Outputs}
use Rattle.state.specs.declared.Address.{Address}
use Rattle.state.specs.declared.Core.{Core}
use Rattle.state.specs.declared.Sample.{Sample}
use Rattle.control.specs.declared.Way.{Way}

-- manual 5.3.2: ZB 10/11, C8 12/13, ICS 14/15, NB 16/17, Z 18/19, C 1A/1B, V 1C/1D, N 1E/1F
unfoldable pub condition_of : ℕ → Flags → Bool → Bool
condition_of code f ics =
    ranged code
    ((0x12, f.zb) ∷ (0x14, f.c8) ∷ (0x16, ics) ∷ (0x18, f.nb) ∷ (0x1A, f.z) ∷ (0x1C, f.c) ∷ (0x1E, f.v) ∷ [])
    f.n

-- the odd code of two jumps if true, the even one if false
unfoldable pub jump_taken : ℕ → Flags → Bool → Bool
jump_taken code f ics = pick (eqb (code % 2) 1) (condition_of code f ics) (not (condition_of code f ics))

-- "A conditional jump replaces LC7-0 and keeps the page of its own address"
abbrev pub within_page : ℕ → ℕ → Bool → Way
within_page lc n jumps = pick jumps (Way.Jump (lc / 256 * 256 + n % 256)) Way.Onward

-- JMP, RFS, the conditional jumps; all others go on
unfoldable pub way_of : ℕ → ℕ → ℕ → Flags → Bool → Way
way_of lc code n f ics =
    ranged code ((0x08, Way.Jump n) ∷ (0x10, Way.Return) ∷ (0x20, within_page lc n (jump_taken code f ics)) ∷ []) Way.Onward

-- "the selected TR byte (TSR bit 2: 0 upper, 1 lower)"
unfoldable pub tr_byte_of : ℕ → ℕ → ℕ
tr_byte_of tr tsr = pick (eqb (tsr / 4 % 2) 1) (tr % 256) (tr / 256)

-- what the rows see: "LC, bit 17, the selected TR byte .., TSR bits 1-0 and I0-I6 .., all as before the attempt"
unfoldable pub inputs_of : Core → Bool → Sample → Inputs
inputs_of core rni sample =
    record {
      lc = core.address.lc;
      rni = bit rni;
      tr = tr_byte_of core.latches.tr core.address.tsr;
      tsr = core.address.tsr % 4;
      interrupts = sample.interrupts % 16 + core.latches.interrupts % 8 * 16;
    }

-- "LC+1 modulo 2,048"
abbrev pub plus_one : ℕ → ℕ
plus_one lc = (lc % 2048 + 1) % 2048

-- "else LRA gives RR; else LTA gives the row address; else LC+1 modulo 2,048. RR here is the one before the attempt."
unfoldable pub onward_of : Address → Outputs → ℕ
onward_of a o = pick (lra o) a.rr (pick (lta o) o.address (plus_one a.lc))

-- "Next LC: a taken jump or RFS; else .."
unfoldable pub next_of : Address → Way → Outputs → ℕ
next_of a (Way.Jump to) o = to
next_of a Way.Return o = a.rr
next_of a Way.Onward o = onward_of a o

-- "Bit 16 loads RR with LC+1 on every executed word, jump taken or not"
unfoldable pub rr_of : Address → Bool → ℕ
rr_of a loads = pick loads (plus_one a.lc) a.rr

-- "LTSR loads the ORed new TSR; RTSR clears TSR and wins"
unfoldable pub tsr_of : ℕ → ℕ → Outputs → ℕ
tsr_of tsr code o = pick (eqb code 0x74) 0 (pick (ltsr o) o.new_tsr tsr)

unfoldable pub address_after : Address → Way → ℕ → Bool → Outputs → Address
address_after a way code loads o = record { lc = next_of a way o; rr = rr_of a loads; tsr = tsr_of a.tsr code o }
