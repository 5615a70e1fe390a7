-- What a completed word sets, its condition not failed: the registers and the flags that it leaves, for every code. 01's "Codes, cycles and flags";
-- the codes are its own lists, and nothing here uses the engine's tables, plans or cycles.
use Rattle.std.specs.Prelude.{ℕ, ◌+◌, ◌*◌, ◌/◌, ◌%◌, ◌≡◌, Bool, true, false, not, ◌&&◌, ◌||◌, List, [], ◌∷◌, eqb, get_or}
use Rattle.alu.specs.declared.Flags.{Flags}
use Rattle.attempt.specs.Outcome.{Outcome}
use Rattle.attempt_laws.specs.Fate.{within, odd, two_cycle, input_word, b_in, a_in, taken_word}
use Rattle.choose.specs.Ranged.{bit, pick}
use Rattle.code.specs.Word.{top_of}
use Rattle.state.specs.File.{Leaves, slot_of, register_of, written_of}
use Rattle.state.specs.Pairs.{inverted}
use Rattle.state.specs.declared.Core.{Core}
use Rattle.state.specs.declared.Sample.{Sample}
use Rattle.table_laws.specs.Operations.{Result, sum_of, Line, Each, operations, lines_with}
use Rattle.table_laws.specs.Table.{compares_or_tests}

-- ---- 01's lists

-- "A failed condition (C, or ICS for CAWI, being 0)": CMB, CMW, CAB and CAW; CAWI
unfoldable pub condition_fails : ℕ → Bool → Bool → Bool
condition_fails code c ics =
    ((within 0x84 0x87 code || within 0xA4 0xA7 code) && not c) ||
    (within 0xAE 0xAF code && not ics)

-- the word taken at LC has no condition that failed
abbrev pub ConditionHolds : List ℕ → Core → Type 0
ConditionHolds ws k = condition_fails (top_of (taken_word ws k)) k.flags.c k.latches.ics ≡ false

-- "odd codes 81-DF and E1-E7"
unfoldable pub odd_code : ℕ → Bool
odd_code code = odd code && (within 0x81 0xDF code || within 0xE1 0xE7 code)

-- "A word operation": the two-cycle codes 82-DF, IW and ISW
abbrev pub word_code : ℕ → Bool
word_code code = two_cycle code || input_word code

-- such a word; but "Compare and test write no register"
unfoldable pub stores_word : ℕ → Bool
stores_word code = word_code code && not (compares_or_tests code)

-- AL, NL, LL; CIB, CDB; the codes 80-DF and E0-E7 that are neither of two cycles nor compare or test; F0, F1, F4, F5
unfoldable pub stores_byte : ℕ → Bool
stores_byte code =
    within 0x20 0x2F code || within 0x40 0x4F code || within 0x60 0x6F code || within 0x76 0x77 code ||
    (within 0x80 0xE7 code && not (word_code code || compares_or_tests code)) ||
    within 0xF0 0xF1 code ||
    within 0xF4 0xF5 code

-- ---- a result, in the registers and the flags

-- a register's number, or a pair's: 02, L6, "the high byte's designator is the low one's with its lowest bit inverted"
abbrev pub number_in : Bool → List ℕ → ℕ → ℕ → ℕ
number_in word xs g d = pick word (register_of xs g d + 256 * register_of xs g (inverted d)) (register_of xs g d)

abbrev pub range_of : Bool → ℕ
range_of word = pick word 0x1_0000 0x100

pub record Performed (r : Result) (writes word odd : Bool) (g a : ℕ) (xs ys : List ℕ) (before after : Flags) : Type 0 where
  pub stored : writes ≡ true → number_in word ys g a ≡ r.number
  -- "Compare and test write no register"
  pub unwritten : writes ≡ false → ys ≡ xs
  -- "Status (NB ZB C4 C8) is always set"; "ZB and Z see both bytes"
  pub nb : after.nb ≡ r.negative
  pub zb : after.zb ≡ eqb r.number 0
  pub c4 : after.c4 ≡ r.c4
  pub c8 : after.c8 ≡ r.c8
  -- "condition flags (N Z V C) only by .. odd codes"
  pub n : after.n ≡ pick odd r.negative before.n
  pub z : after.z ≡ pick odd (eqb r.number 0) before.z
  pub v : after.v ≡ pick odd r.v before.v
  pub c : after.c ≡ pick odd r.c before.c

-- "IB and ISB: b mod 4: 0 upper, 1 lower, 2 upper if M bit 0, else lower, 3 the reverse": of the data lines
abbrev pub input_byte : ℕ → ℕ → ℕ → ℕ
input_byte dal m b =
    let upper = dal / 256 in
    let lower = dal % 256 in
    get_or (upper ∷ lower ∷ pick (odd m) upper lower ∷ pick (odd m) lower upper ∷ []) (b % 4) 0

-- the registers after one cycle of a line, on those that a and b name: it is the line's byte form
abbrev pub after_cycle : Line → List ℕ → ℕ → Flags → ℕ → ℕ → List ℕ
after_cycle line xs g f b a =
    pick line.writes (written_of xs g a (line.gives 0x100 (register_of xs g a) (register_of xs g b) f).number) xs

-- Rb's pair as the cycles find it, 02, L6: "Cycles run in the order of 01, each reading what the one before it wrote". The first finds its byte in xs,
-- the second in what the first left: another byte only where the pairs overlap crosswise and the first cycle wrote. "Right shifts go high byte first"
abbrev pub pair_found : Line → Bool → List ℕ → ℕ → Flags → ℕ → ℕ → ℕ
pair_found line high_first xs g f b a =
    pick high_first
    (register_of (after_cycle line xs g f (inverted b) (inverted a)) g b + 256 * register_of xs g (inverted b))
    (register_of xs g b + 256 * register_of (after_cycle line xs g f b a) g (inverted b))

-- SRBC, SRWC, SRB and SRW
abbrev pub shifts_right : ℕ → Bool
shifts_right code = within 0xD8 0xDF code

-- the operand beside Ra: bits 11-4 of a literal, 20-6F; what an input, E0-E7, takes; else Rb, or its pair as the cycles find it
abbrev pub other_of : Line → List ℕ → Core → Sample → ℕ → ℕ
other_of line xs k s word =
    let code = top_of word in
    let g = k.latches.g in
    pick (within 0x20 0x6F code) (word / 0x10 % 0x100)
    (pick (within 0xE0 0xE7 code) (pick (word_code code) s.dal (input_byte s.dal k.bus.m (b_in word)))
    (pick (word_code code) (pair_found line (shifts_right code) xs g k.flags (b_in word) (a_in word)) (register_of xs g (b_in word))))

-- where the word's code is one of the line's, the attempt leaves what the line gives; "by G before the attempt"
pub record Performs (xs : List ℕ) (k : Core) (s : Sample) (word : ℕ) (e : Leaves Outcome) (line : Line) : Type 0 where
  pub performed : let code = top_of word in
      let g = k.latches.g in
      let p = number_in (word_code code) xs g (a_in word) in
      let r = line.gives (range_of (word_code code)) p (other_of line xs k s word) k.flags in
      within line.first line.last code ≡ true
      → Performed r line.writes (word_code code) (odd_code code) g (a_in word) xs e.file k.flags e.back.core.flags

-- ---- what is no operation of one result

-- "Flag byte, high to low: N Z V C NB ZB C4 C8. CCF stores it in Ra"
pub record Copied (g a : ℕ) (ys : List ℕ) (before after : Flags) : Type 0 where
  pub stored : register_of ys g a
      ≡ 128 * bit before.n + 64 * bit before.z + 32 * bit before.v + 16 * bit before.c
      + 8 * bit before.nb + 4 * bit before.zb + 2 * bit before.c4 + bit before.c8
  pub flags : after ≡ before

-- "LCF loads N Z V C from bits 7-4 of Ra where b bits 3-0 are 1"
pub record LcfLoaded (ra b : ℕ) (xs ys : List ℕ) (before after : Flags) : Type 0 where
  pub unwritten : ys ≡ xs
  pub n : after.n ≡ pick (odd (b / 8)) (odd (ra / 128)) before.n
  pub z : after.z ≡ pick (odd (b / 4)) (odd (ra / 64)) before.z
  pub v : after.v ≡ pick (odd (b / 2)) (odd (ra / 32)) before.v
  pub c : after.c ≡ pick (odd b) (odd (ra / 16)) before.c
  pub nb : after.nb ≡ before.nb
  pub zb : after.zb ≡ before.zb
  pub c4 : after.c4 ≡ before.c4
  pub c8 : after.c8 ≡ before.c8

-- "Ra gains 1 or 2; the word codes then add the carry to Rb. Status only." Where a and b name one register, Rb is what Ra has gained
abbrev pub rb_after : ℕ → ℕ → ℕ → List ℕ → ℕ → ℕ
rb_after g a b xs gained = pick (eqb (slot_of g b) (slot_of g a)) gained (register_of xs g b)

pub record Gained (first second : Result) (g a b : ℕ) (ys : List ℕ) (before after : Flags) : Type 0 where
  pub rb : register_of ys g b ≡ second.number
  pub ra : eqb (slot_of g b) (slot_of g a) ≡ false → register_of ys g a ≡ first.number
  -- "ZB and Z see both bytes, other bits the second cycle"
  pub nb : after.nb ≡ second.negative
  pub zb : after.zb ≡ (eqb first.number 0 && eqb second.number 0)
  pub c4 : after.c4 ≡ second.c4
  pub c8 : after.c8 ≡ second.c8
  pub n : after.n ≡ before.n
  pub z : after.z ≡ before.z
  pub v : after.v ≡ before.v
  pub c : after.c ≡ before.c

abbrev pub Gains : ℕ → List ℕ → Core → ℕ → Leaves Outcome → Type 0
Gains by xs k word e =
    let g = k.latches.g in
    let first = sum_of 256 (register_of xs g (a_in word)) by false in
    let second = sum_of 256 (rb_after g (a_in word) (b_in word) xs first.number) 0 first.c8 in
    Gained first second g (a_in word) (b_in word) e.file k.flags e.back.core.flags

-- jumps, conditional jumps; RI, SI; RTSR, LGL; MI, LTR; R to NOP
unfoldable pub sets_nothing : ℕ → Bool
sets_nothing code =
    within 0x00 0x1F code || within 0x70 0x71 code || within 0x74 0x75 code || within 0xEC 0xEF code ||
    within 0xF8 0xFF code

-- ---- every code

pub record Sets (xs : List ℕ) (k : Core) (s : Sample) (word : ℕ) (e : Leaves Outcome) : Type 0 where
  pub operation : Each (Performs xs k s word e) operations
  pub ccf : top_of word ≡ 0x72 → Copied k.latches.g (a_in word) e.file k.flags e.back.core.flags
  pub lcf : top_of word ≡ 0x73 → LcfLoaded (register_of xs k.latches.g (a_in word)) (b_in word) xs e.file k.flags e.back.core.flags
  -- RIW1, WIW1; RIW2, WIW2
  pub gain-one : within 0xF2 0xF3 (top_of word) ≡ true → Gains 1 xs k word e
  pub gain-two : within 0xF6 0xF7 (top_of word) ≡ true → Gains 2 xs k word e
  pub nothing : sets_nothing (top_of word) ≡ true → (e.file ≡ xs) × (e.back.core.flags ≡ k.flags)

-- how many of these lists have a code
abbrev pub lists_with : ℕ → ℕ
lists_with code =
    lines_with code operations + bit (within 0x72 0x73 code) + bit (within 0xF2 0xF3 code) + bit (within 0xF6 0xF7 code) +
    bit (sets_nothing code)
