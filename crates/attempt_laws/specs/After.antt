-- What a completed word leaves in every part of the state but registers and flags, exactly, its request and its microcycles: 01's sentences and lists of
-- codes, of the taken word's own bits, the state before and the sample. What is in no list of a part leaves it as it was. And the user's outputs after any
-- attempt, by 02.
use Rattle.std.specs.Prelude.{ℕ, ◌+◌, ◌-◌, ◌*◌, ◌/◌, ◌%◌, ◌^◌, ◌<◌, ◌≡◌, Bool, true, false, not, ◌&&◌, ◌||◌, List, [], ◌∷◌, eqb, get_or}
use Rattle.std.specs.Bool.{beq}
use Rattle.choose.specs.Ranged.{pick}
use Rattle.alu.specs.declared.Flags.{Flags}
use Rattle.rows.specs.declared.Inputs.{Inputs}
use Rattle.rows.specs.declared.Outputs.{Outputs}
use Rattle.state.specs.File.{slot_of}
use Rattle.state.specs.declared.Address.{Address}
use Rattle.state.specs.declared.Bus.{Bus}
use Rattle.state.specs.declared.Core.{Core}
use Rattle.state.specs.declared.Latches.{Latches}
use Rattle.state.specs.declared.Marking.{Marking}
use Rattle.state.specs.declared.Sample.{Sample}
use Rattle.attempt_laws.specs.Fate.{Fate, refused, waited, reset, compute-low, completed}
use Rattle.attempt_laws.specs.Fate.{within, odd, one_of, two_cycle, input_word, user_bits, top_in, b_in, a_in}

-- bit i of a number, of weight 2^i
abbrev pub has_bit : ℕ → ℕ → Bool
has_bit i n = eqb (n / 2 ^ i % 2) 1

-- ---- the word

-- "the word at LC is taken and a waiting modification is ORed into its low 16 bits": each of them is 1 where it is 1 in one of the two, and those
-- above are the word's own
pub record Modified (word : ℕ) (marked : Bool) (modification taken : ℕ) : Type 0 where
  pub low : (i : ℕ) → i < 16 → has_bit i taken ≡ has_bit i word || (marked && has_bit i modification)
  pub high : taken / 2 ^ 16 ≡ word / 2 ^ 16

-- "Rb:Ra before any change", Rb high, by "G before the attempt"
abbrev pub ra_in : List ℕ → ℕ → ℕ → ℕ
ra_in xs g word = get_or xs (slot_of g (a_in word)) 0

abbrev pub pair_in : List ℕ → ℕ → ℕ → ℕ
pair_in xs g word = ra_in xs g word + 256 * get_or xs (slot_of g (b_in word)) 0

-- ---- the next address

-- "LC, bit 17, the selected TR byte (TSR bit 2: 0 upper, 1 lower), TSR bits 1-0 and I0-I6 .., all as before the attempt": I0-I3 are the sample's
abbrev pub rows_see : ℕ → Core → Sample → Inputs
rows_see word k s =
    record {
      lc = k.address.lc;
      rni = word / 2 ^ 17 % 2;
      tr = pick (has_bit 2 k.address.tsr) (k.latches.tr % 256) (k.latches.tr / 256);
      tsr = k.address.tsr % 4;
      interrupts = s.interrupts % 16 + 16 * (k.latches.interrupts % 8);
    }

-- manual 5.3.2: the codes 10-1F jump on these, two on each, the odd one if it is 1, the even one if it is 0
abbrev pub conditions : Flags → Bool → List Bool
conditions f ics = f.zb ∷ f.c8 ∷ ics ∷ f.nb ∷ f.z ∷ f.c ∷ f.v ∷ f.n ∷ []

abbrev pub jumps : ℕ → Flags → Bool → Bool
jumps code f ics = within 0x10 0x1F code && beq (odd code) (get_or (conditions f ics) ((code - 0x10) / 2) false)

-- "LC+1 modulo 2,048"
abbrev pub following : ℕ → ℕ
following lc = (lc + 1) % 2048

-- "Next LC: a taken jump or RFS; else LRA gives RR; else LTA gives the row address; else LC+1 modulo 2,048. RR here is the one before the attempt."
-- JMP is 00-07 and goes to bits 10-0, RFS is 08-0F; "A conditional jump replaces LC7-0 and keeps the page of its own address"; the rows' lines are
-- "bit 0 LTA, 1 LRA, 2 LTSR"
unfoldable pub next_lc : ℕ → Core → Outputs → ℕ
next_lc word k o =
    pick (within 0x00 0x07 (top_in word)) (word % 2048)
    (pick (within 0x08 0x0F (top_in word)) k.address.rr
    (pick (jumps (top_in word) k.flags k.latches.ics) (k.address.lc / 256 * 256 + word % 256)
    (pick (has_bit 1 o.lines) k.address.rr
    (pick (has_bit 0 o.lines) o.address
    (following k.address.lc)))))

-- "Bit 16 loads RR with LC+1 on every executed word, jump taken or not"; "LTSR loads the ORed new TSR; RTSR clears TSR and wins", RTSR is 74
pub record AddressIs (word : ℕ) (k : Core) (o : Outputs) (after : Address) : Type 0 where
  pub lc : after.lc ≡ next_lc word k o
  pub rr : after.rr ≡ pick (has_bit 16 word) (following k.address.lc) k.address.rr
  pub tsr : after.tsr ≡ pick (eqb (top_in word) 0x74) 0 (pick (has_bit 2 o.lines) o.new_tsr k.address.tsr)

-- ---- the bus. Reads and writes are F0-FB, RA and WA FA and FB of them, OB and OW FC and FD, OS FE, IB and IW E0-E3

-- 02, L14: "Q1 is (not TR14 and TR13) or (not TR14, not TR12, TR11, not TR10, TR9, TR8, TR7 and TR6 together)": each term's bits of TR, and what each is
abbrev pub first_term : List (ℕ × Bool)
first_term = (14, false) ∷ (13, true) ∷ []

abbrev pub second_term : List (ℕ × Bool)
second_term = (14, false) ∷ (12, false) ∷ (11, true) ∷ (10, false) ∷ (9, true) ∷ (8, true) ∷ (7, true) ∷ (6, true) ∷ []

abbrev pub together : List (ℕ × Bool) → ℕ → Bool
together [] tr = true
together (t ∷ ts) tr = beq (has_bit t.0 tr) t.1 && together ts tr

abbrev pub q1 : ℕ → Bool
q1 tr = together first_term tr || together second_term tr

-- "the CP1621B, which has Q1"
abbrev pub has_q1 : Marking → Bool
has_q1 Marking.CP1661B = false
has_q1 Marking.CP1621B = true

-- "b is 4-7 (RMW)"; 02, L14: "With Q1, RMW happens only if Q1 is false, read from TR before the instruction"
unfoldable pub is_rmw : Marking → ℕ → ℕ → Bool
is_rmw marking tr b = within 4 7 b && not (has_q1 marking && q1 tr)

-- "IB, IW drop SYNC and IACK unless .. RMW; OB and OW drop them"
abbrev pub drops_lines : ℕ → Bool → Bool
drops_lines code rmw = (within 0xE0 0xE3 code && not rmw) || within 0xFC 0xFD code

-- "Reads and writes set M and SYNC; RA, WA also IACK. OB, OW, OS set M", with Rb:Ra
pub record BusIs (code : ℕ) (rmw : Bool) (pair : ℕ) (before after : Bus) : Type 0 where
  pub m : after.m ≡ pick (within 0xF0 0xFE code) pair before.m
  pub sync : after.sync ≡ pick (within 0xF0 0xFB code) true (pick (drops_lines code rmw) false before.sync)
  pub iack : after.iack ≡ pick (within 0xFA 0xFB code) true (pick (drops_lines code rmw) false before.iack)

-- "0 none, 1 read, 2 write, 3 read acknowledge, 4 write acknowledge .., 5 data in .., 6 word out, 7 byte out, 8 status out .., 9 status in": of
-- F0-F9 the even codes read and the odd ones write; ISB and ISW are E4-E7
unfoldable pub kind_of : ℕ → ℕ
kind_of code =
    pick (one_of code (0xF0 ∷ 0xF2 ∷ 0xF4 ∷ 0xF6 ∷ 0xF8 ∷ [])) 1
    (pick (one_of code (0xF1 ∷ 0xF3 ∷ 0xF5 ∷ 0xF7 ∷ 0xF9 ∷ [])) 2
    (pick (eqb code 0xFA) 3
    (pick (eqb code 0xFB) 4
    (pick (within 0xE0 0xE3 code) 5
    (pick (eqb code 0xFD) 6
    (pick (eqb code 0xFC) 7
    (pick (eqb code 0xFE) 8
    (pick (within 0xE4 0xE7 code) 9
    0))))))))

-- "(value Rb:Ra before any change)", "(the sample's data)", "(Rb:Ra)", "(data)"; kind 0 has value 0
abbrev pub value_of : ℕ → ℕ → ℕ → ℕ
value_of code pair dal = pick (within 0xE0 0xE7 code) dal (pick (within 0xF0 0xFE code) pair 0)

-- "A request is kind times 65,536 plus a value"
abbrev pub request_is : ℕ → ℕ → ℕ → ℕ
request_is code pair dal = kind_of code * 65536 + value_of code pair dal

-- ---- the latches. RI is 70, SI 71, LGL 75, IW E2 and E3, MI EC and ED, LTR EE and EF

-- IW with b mod 4 from first to last
abbrev pub iw : ℕ → ℕ → ℕ → ℕ → Bool
iw code b first last = within 0xE2 0xE3 code && within first last (b % 4)

pub record LatchesAre (code b ra pair : ℕ) (s : Sample) (before after : Latches) : Type 0 where
  -- "LGL loads G with Ra modulo 8"; "IW b mod 4: .. 1 also loads G from DAL 6-4, 2 from DAL 8-6"
  pub g : after.g ≡ pick (eqb code 0x75) (ra % 8) (pick (iw code b 1 1) (s.dal / 2 ^ 4 % 8) (pick (iw code b 2 2) (s.dal / 2 ^ 6 % 8) before.g))
  -- "LTR loads TR .. with Rb:Ra"; "IW b mod 4: 1, 2, 3 load TR"
  pub tr : after.tr ≡ pick (within 0xEE 0xEF code) pair (pick (iw code b 1 3) s.dal before.tr)
  -- "ICS is loaded from the sample by IW with b mod 4 not 0; no other instruction changes it"
  pub ics : after.ics ≡ pick (iw code b 1 3) s.ics before.ics
  -- "RI and SI clear and set I4-I6 by b bits 0-2; bit 3 does nothing"
  pub interrupts : (i : ℕ) → i < 3 → has_bit i after.interrupts ≡ pick (within 0x70 0x71 code && has_bit i b) (eqb code 0x71) (has_bit i before.interrupts)
  -- "execution, which uses the modification up (..; MI sets the next)": "LTR loads TR, MI the modification, with Rb:Ra"
  pub marked : after.marked ≡ within 0xEC 0xED code
  pub modification : after.modification ≡ pick (within 0xEC 0xED code) pair 0

-- ---- the user's outputs

-- 02, L1: "The state keeps the last executed word's four bits", which are "bits 18-21". "A wait, COMPUTE low and RESET keep them", and so does a refusal
abbrev pub outputs_after : Fate → ℕ → ℕ → ℕ
outputs_after completed word before = user_bits word
outputs_after waited word before = before
outputs_after reset word before = before
outputs_after compute-low word before = before
outputs_after (refused n) word before = before

-- ---- the microcycles

-- manual 5.3.2: two for the jumps 00-1F, the word codes of 80-DF, IW, ISW, LTR, and the word codes F2, F3, F6 and F7; else one
abbrev pub cost_is : ℕ → ℕ
cost_is code =
    pick
    (within 0x00 0x1F code || two_cycle code || input_word code || within 0xEE 0xEF code || within 0xF2 0xF3 code || within 0xF6 0xF7 code)
    2 1
