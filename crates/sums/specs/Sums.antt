-- Demand 3: two numbers of k bytes in registers are added or subtracted, low end first, by byte and pair instructions. Their words, what is given, and what a
-- run leaves; proofs/Theorem.antt has the theorem.
use Rattle.std.specs.Prelude.{ℕ, zero, suc, ◌+◌, ◌-◌, ◌*◌, ◌/◌, ◌%◌, ◌^◌, ◌<◌, ◌≤◌, ◌≡◌, Bool, true}
use Rattle.std.specs.Prelude.{false, not, List, [], ◌∷◌, ◌++◌, eqb, ltb, leb, length, get_or}
use Rattle.attempt_laws.specs.After.{following}
use Rattle.attempt_laws.specs.Fate.{user_bits}
use Rattle.alu.specs.Cycle.{sum_outside}
use Rattle.alu.specs.Numbers.{value, half, difference_outside}
use Rattle.alu.specs.declared.Flags.{Flags}
use Rattle.choose.specs.Ranged.{pick}
use Rattle.numbers.specs.Numbers.{word_at, Bytes}
use Rattle.engine.specs.Run.{World}
use Rattle.state.specs.declared.Sample.{Sample}

-- ---- the words

-- one instruction, with the designators of its target and its source: of two bytes, or of two pairs by their low bytes
pub data Step : Type 0 where
  byte : ℕ → ℕ → Step
  pair : ℕ → ℕ → Step

-- a number of k bytes, cut as one likes, low end first
abbrev pub Cut : Type 0
Cut = List Step

abbrev pub target_of : Step → ℕ
target_of (byte a b) = a
target_of (pair a b) = a

abbrev pub source_of : Step → ℕ
source_of (byte a b) = b
source_of (pair a b) = b

abbrev pub is_pair : Step → Bool
is_pair (byte a b) = false
is_pair (pair a b) = true

-- the registers of the target, and of the source, a byte each, low end first: "A pair is Ra (low) and Ra+1"
abbrev pub targets : Cut → List ℕ
targets [] = []
targets (byte a b ∷ ts) = a ∷ targets ts
targets (pair a b ∷ ts) = a ∷ suc a ∷ targets ts

abbrev pub sources : Cut → List ℕ
sources [] = []
sources (byte a b ∷ ts) = b ∷ sources ts
sources (pair a b ∷ ts) = b ∷ suc b ∷ sources ts

-- how many, k
abbrev pub byte_count : Cut → ℕ
byte_count cut = length (targets cut)

pub data Sign : Type 0 where
  plus minus : Sign

-- the unconditional adds and subtracts that update the flags, by sign, whether a step went before (then with carry in) and whether it is of a pair
abbrev pub step_code : Sign → Bool → Bool → ℕ
step_code plus false false = 0xA1
step_code plus false true = 0xA3
step_code plus true false = 0xA9
step_code plus true true = 0xAB
step_code minus false false = 0xB1
step_code minus false true = 0xB3
step_code minus true false = 0xB9
step_code minus true true = 0xBB

-- bits 15-0 of a step's word
abbrev pub instruction_of : Sign → Bool → Step → ℕ
instruction_of sign later t = step_code sign later (is_pair t) * 0x100 + source_of t * 0x10 + target_of t

abbrev pub instructions_of : Sign → Bool → Cut → List ℕ
instructions_of sign later [] = []
instructions_of sign later (t ∷ ts) = instruction_of sign later t ∷ instructions_of sign true ts

-- ---- what is given

-- d is none of ds
abbrev pub Absent : ℕ → List ℕ → Type 0
Absent d [] = Unit {0}
Absent d (e ∷ es) = (d ≡ e → ⊥) × Absent d es

-- different registers, directly addressed: "Designators 2-F are R2-RF"
abbrev pub Different : List ℕ → Type 0
Different [] = Unit {0}
Different (d ∷ ds) = (2 ≤ d) × (d ≤ 0xF) × Absent d ds × Different ds

-- the pairs begin at even designators
abbrev pub Even : Cut → Type 0
Even [] = Unit {0}
Even (byte a b ∷ ts) = Even ts
Even (pair a b ∷ ts) = (a % 2 ≡ 0) × (b % 2 ≡ 0) × Even ts

-- the words in sequence from an address on have these bits 15-0, and any bits 21-16
abbrev pub InPlace : List ℕ → ℕ → List ℕ → Type 0
InPlace ws at [] = Unit {0}
InPlace ws at (i ∷ is) = (at < length ws / 4) × (word_at ws at % 0x1_0000 ≡ i) × InPlace ws (following at) is

-- a sample for each word, COMPUTE high and RESET low
abbrev pub Computing : List Sample → List ℕ → Type 0
Computing [] [] = Unit {0}
Computing [] (i ∷ is) = ⊥
Computing (s ∷ ss) [] = ⊥
Computing (s ∷ ss) (i ∷ is) = (s.compute ≡ true) × (s.reset ≡ false) × Computing ss is

-- the registers of a cut: k from 1 (and to 7, as there are 14 such registers), "2k different directly addressed registers", even pairs
pub record Fair (cut : Cut) : Type 0 where
  pub some : 1 ≤ byte_count cut
  pub different : Different (targets cut ++ sources cut)
  pub even : Even cut

-- the words of these instructions can be run, from a world v on
pub record Ready (is ws : List ℕ) (ss : List Sample) (v : World) : Type 0 where
  -- "all input in range": words of 22 bits, 26 registers of a byte each, LC from 0 to 2,047
  pub words : (i : ℕ) → i < length ws / 4 → word_at ws i < 0x40_0000
  pub file : length v.file ≡ 26
  pub bytes : Bytes v.file
  pub lc : v.core.address.lc < 2048
  -- "a place for each request", of four bytes, after those of earlier attempts
  pub places : (v.attempts + length is) * 4 ≤ length v.buffer
  -- "the words in sequence, one sample for each, .. COMPUTE high, RESET low"
  pub in_place : InPlace ws v.core.address.lc is
  pub computing : Computing ss is
  -- "and no modification waiting"; it is "zero when unmarked"
  pub unmarked : v.core.latches.marked ≡ false
  pub unmodified : v.core.latches.modification ≡ 0

-- ---- what the run leaves

-- the bytes in directly addressed registers: after the twelve of "G0-GB, R2-RF" the file has R2 at 12
abbrev pub place_of : ℕ → ℕ
place_of d = 10 + d

abbrev pub registers_at : List ℕ → List ℕ → List ℕ
registers_at xs [] = []
registers_at xs (d ∷ ds) = get_or xs (place_of d) 0 ∷ registers_at xs ds

-- i is the place of none of these registers
abbrev pub PlaceOfNone : ℕ → List ℕ → Type 0
PlaceOfNone i [] = Unit {0}
PlaceOfNone i (d ∷ ds) = (i ≡ place_of d → ⊥) × PlaceOfNone i ds

-- the numbers in the registers of the target and of the source
abbrev pub target_in : List ℕ → Cut → ℕ
target_in xs cut = value (registers_at xs (targets cut))

abbrev pub source_in : List ℕ → Cut → ℕ
source_in xs cut = value (registers_at xs (sources cut))

-- the target's registers of the last step, and the number there
abbrev pub last_targets : List ℕ → Cut → List ℕ
last_targets ds [] = ds
last_targets ds (byte a b ∷ ts) = last_targets (a ∷ []) ts
last_targets ds (pair a b ∷ ts) = last_targets (a ∷ suc a ∷ []) ts

abbrev pub last_in : List ℕ → Cut → ℕ
last_in xs cut = value (registers_at xs (last_targets [] cut))

-- x + y or x - y modulo 256 ^ k; C, the carry or the borrow; V, that the signed number is outside -2^(8k-1) to 2^(8k-1) - 1
abbrev pub result_of : Sign → ℕ → ℕ → ℕ → ℕ
result_of plus k x y = (x + y) % 256 ^ k
result_of minus k x y = (x + 256 ^ k - y) % 256 ^ k

abbrev pub c_of : Sign → ℕ → ℕ → ℕ → Bool
c_of plus k x y = leb (256 ^ k) (x + y)
c_of minus k x y = ltb x y

abbrev pub v_of : Sign → ℕ → ℕ → ℕ → Bool
v_of plus k x y = sum_outside (half (k - 1)) x y false
v_of minus k x y = difference_outside (half (k - 1)) x y false

-- C8 is the carry, also of a difference
abbrev pub c8_of : Sign → Bool → Bool
c8_of plus c = c
c8_of minus c = not c

-- the weight of the highest digit of k bytes; C4 is the carry into it, of a difference that nothing is borrowed from it
abbrev pub top_digit : ℕ → ℕ
top_digit k = 16 * 256 ^ (k - 1)

abbrev pub c4_of : Sign → ℕ → ℕ → ℕ → Bool
c4_of plus k x y = leb (top_digit k) (x % top_digit k + y % top_digit k)
c4_of minus k x y = leb (y % top_digit k) (x % top_digit k)

-- the flags after x + y or x - y of k bytes, where the last step left a number: C and V; C8 the carry, C4 the carry into the highest digit, NB and N the
-- result's sign, ZB and Z that the last step's bytes are 0
pub record Marked (sign : Sign) (k x y last : ℕ) (f : Flags) : Type 0 where
  pub c : f.c ≡ c_of sign k x y
  pub v : f.v ≡ v_of sign k x y
  pub c8 : f.c8 ≡ c8_of sign f.c
  pub c4 : f.c4 ≡ c4_of sign k x y
  pub n : f.n ≡ leb (half (k - 1)) (result_of sign k x y)
  pub nb : f.nb ≡ f.n
  pub z : f.z ≡ eqb last 0
  pub zb : f.zb ≡ f.z

-- "Bit 16 loads RR with LC+1 on every executed word": RR after n words from an address on
abbrev pub rr_after : List ℕ → ℕ → ℕ → ℕ → ℕ
rr_after ws at zero rr = rr
rr_after ws at (suc n) rr = rr_after ws (following at) n (pick (eqb (word_at ws at / 0x1_0000 % 2) 1) (following at) rr)

-- 02, L1: "the last executed word's four bits", which are bits 18-21: of the last of n words from an address on
abbrev pub last_outputs : List ℕ → ℕ → ℕ → ℕ
last_outputs ws at n = user_bits (word_at ws ((at + (n - 1)) % 2048))

-- from v to w a run went on by n words, which took so many microcycles
pub record Advanced (n microcycles : ℕ) (ws : List ℕ) (v w : World) : Type 0 where
  -- all samples used, an attempt for each word
  pub answer : w.answer ≡ 0
  pub attempts : w.attempts ≡ v.attempts + n
  pub spent : w.microcycles ≡ v.microcycles + microcycles
  -- LC past the words, RR by bit 16; TSR; M, SYNC, IACK; G, TR, ICS, I4-I6, no modification; the user's outputs
  pub lc : w.core.address.lc ≡ (v.core.address.lc + n) % 2048
  pub rr : w.core.address.rr ≡ rr_after ws v.core.address.lc n v.core.address.rr
  pub tsr : w.core.address.tsr ≡ v.core.address.tsr
  pub bus : w.core.bus ≡ v.core.bus
  pub latches : w.core.latches ≡ v.core.latches
  pub outputs : w.core.outputs ≡ last_outputs ws v.core.address.lc n
  -- requests of kind 0 in the next places, the other places untouched
  pub requests : (i d : ℕ) → v.attempts * 4 ≤ i → i < (v.attempts + n) * 4 → get_or w.buffer i d ≡ 0
  pub earlier : (i d : ℕ) → i < v.attempts * 4 → get_or w.buffer i d ≡ get_or v.buffer i d
  pub later : (i d : ℕ) → (v.attempts + n) * 4 ≤ i → get_or w.buffer i d ≡ get_or v.buffer i d
  pub room : length w.buffer ≡ length v.buffer

-- what the words of a cut leave: from v to w, an attempt for each step and a microcycle for each byte
pub record Summed (sign : Sign) (cut : Cut) (ws : List ℕ) (v w : World) : Type 0 where
  pub advanced : Advanced (length cut) (byte_count cut) ws v w
  -- the target and the flags, by the two numbers that were there
  pub target : target_in w.file cut ≡ result_of sign (byte_count cut) (target_in v.file cut) (source_in v.file cut)
  pub flags : Marked sign (byte_count cut) (target_in v.file cut) (source_in v.file cut) (last_in w.file cut) w.core.flags
  -- no other register changes, the source among them; the file stays in range
  pub others : (i : ℕ) → PlaceOfNone i (targets cut) → get_or w.file i 0 ≡ get_or v.file i 0
  pub file : length w.file ≡ 26
  pub bytes : Bytes w.file

-- ---- subtracting after adding, both cut as one likes

-- the same registers, byte by byte, cut in two ways
pub record TwoCuts (there back : Cut) : Type 0 where
  pub fair : Fair there
  pub even : Even back
  pub same-targets : targets there ≡ targets back
  pub same-sources : sources there ≡ sources back

-- the words of both, one after the other
abbrev pub there_and_back : Cut → Cut → List ℕ
there_and_back there back = instructions_of plus false there ++ instructions_of minus false back

-- from v, before both, to w, after both: no register of the 26 changes, so the target is back; the flags are those of the sum less the source
pub record Back (there back : Cut) (v w : World) : Type 0 where
  pub registers : w.file ≡ v.file
  pub flags : let k = byte_count there in
      let x = target_in v.file there in
      let y = source_in v.file there in
      Marked minus k (result_of plus k x y) y (last_in v.file back) w.core.flags

-- the same of one run of both: an attempt for each step of both, 2k microcycles
pub record BackInOneRun (there back : Cut) (ws : List ℕ) (v w : World) : Type 0 where
  pub restored : Back there back v w
  pub advanced : Advanced (length there + length back) (2 * byte_count there) ws v w

-- and of a run of the difference alone, from a world u with the registers that the sum left
pub record BackInTwoRuns (there back : Cut) (ws : List ℕ) (v u w : World) : Type 0 where
  pub restored : Back there back v w
  pub advanced : Advanced (length back) (byte_count there) ws u w
