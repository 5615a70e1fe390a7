-- The starred cases of 01, "Checked by hand", as one table, and the crosswise pairs of 02, L6, as another: a word, run as an attempt, and what each says of it.
use Rattle.std.specs.Prelude.{ℕ, ◌+◌, ◌/◌, ◌%◌, Bool, true, false, ◌&&◌, List, [], ◌∷◌, eqb, set, replicate}
use Rattle.std.specs.Bool.{beq}
use Rattle.alu.specs.declared.Flags.{Flags}
use Rattle.attempt.specs.Attempt.{attempt_of}
use Rattle.attempt.specs.Outcome.{Outcome}
use Rattle.state.specs.File.{Leaves}
use Rattle.state.specs.Registers.{Register, R, G}
use Rattle.state.specs.declared.Core.{Core}
use Rattle.state.specs.declared.Marking.{Marking}
use Rattle.state.specs.declared.Sample.{Sample}

-- ---- a case

pub data Flag : Type 0 where
  is_n is_z is_v is_c is_c4 is_c8 : Flag

abbrev pub Held : Type 0
Held = List (Register × ℕ)

-- G and C before, the instruction and its microcycles, what registers hold before, and after; the others hold 0. Then the flags that 01 names
pub data Case : Type 0 where
  case : (g : ℕ) (c : Bool) (word cycles : ℕ) (before after : Held) → List (Flag × Bool) → Case

-- ---- what it says

-- "G0-GB, R2-RF"
abbrev pub place_named : Register → ℕ
place_named (G j) = j
place_named (R d) = 10 + d

abbrev pub holding : Held → List ℕ
holding [] = replicate 26 0
holding (r ∷ rs) = set (holding rs) (place_named r.0) r.1

-- all zero but G and C
abbrev pub core : Marking → ℕ → Bool → Core
core marking g c =
    record {
      flags = record { n = false; z = false; v = false; c = c; nb = false; zb = false; c4 = false; c8 = false };
      address = record { lc = 0; rr = 0; tsr = 0 };
      bus = record { m = 0; sync = false; iack = false };
      latches = record { g = g; tr = 0; ics = false; interrupts = 0; marked = false; modification = 0 };
      outputs = 0;
      marking = marking;
    }

-- COMPUTE alone
abbrev pub computing : Sample
computing = record { dal = 0; reply = false; busy = false; compute = true; reset = false; ics = false; interrupts = 0 }

abbrev pub flag_of : Flag → Flags → Bool
flag_of is_n f = f.n
flag_of is_z f = f.z
flag_of is_v f = f.v
flag_of is_c f = f.c
flag_of is_c4 f = f.c4
flag_of is_c8 f = f.c8

abbrev pub shows : Flags → List (Flag × Bool) → Bool
shows f [] = true
shows f (m ∷ ms) = beq (flag_of m.0 f) m.1 && shows f ms

abbrev pub same_bytes : List ℕ → List ℕ → Bool
same_bytes [] [] = true
same_bytes [] (y ∷ ys) = false
same_bytes (x ∷ xs) [] = false
same_bytes (x ∷ xs) (y ∷ ys) = eqb x y && same_bytes xs ys

-- it completes, with these microcycles and no request, LC goes from 0 to 1, and the registers and flags are these
abbrev pub ends_with : Leaves Outcome → ℕ → List ℕ → List (Flag × Bool) → Bool
ends_with e cycles file flags =
    eqb e.back.refusal 0 && eqb e.back.cycles cycles && eqb e.back.request 0 && eqb e.back.core.address.lc 1 &&
    same_bytes e.file file &&
    shows e.back.core.flags flags

-- the word alone at LC 0, no rows
unfoldable pub case_holds : Marking → Case → Bool
case_holds marking (case g c word cycles before after flags) =
    ends_with (attempt_of (word % 256 ∷ word / 256 ∷ 0 ∷ 0 ∷ []) [] (holding before) (core marking g c) computing) cycles (holding after) flags

unfoldable pub all_hold : Marking → List Case → Bool
all_hold marking [] = true
all_hold marking (k ∷ ks) = case_holds marking k && all_hold marking ks

-- ---- the table: AB, SB, SBC, TCB, AW, SRW and SLB with b 4 and a 2, so Ra is R2 or R3:R2, Rb R4 or R5:R4; for G, LL of 5A hex with a 0 or 1.
-- 02, L2: "The case SLB of 40 becomes V 1"
unfoldable pub cases : List Case
cases =
    case 0 false 0xA142 1 ((R 2, 0x7F) ∷ (R 4, 0x01) ∷ []) ((R 2, 0x80) ∷ (R 4, 0x01) ∷ [])
    ((is_c4, true) ∷ (is_c8, false) ∷ (is_n, true) ∷ (is_v, true) ∷ (is_c, false) ∷ []) ∷
    case 0 false 0xB142 1 ((R 2, 0x00) ∷ (R 4, 0x01) ∷ []) ((R 2, 0xFF) ∷ (R 4, 0x01) ∷ [])
    ((is_c4, false) ∷ (is_c8, false) ∷ (is_v, false) ∷ (is_c, true) ∷ []) ∷
    case 0 false 0xB142 1 ((R 2, 0x80) ∷ (R 4, 0x01) ∷ []) ((R 2, 0x7F) ∷ (R 4, 0x01) ∷ [])
    ((is_c8, true) ∷ (is_v, true) ∷ (is_c, false) ∷ []) ∷
    case 0 true 0xB942 1 ((R 2, 0x00) ∷ (R 4, 0xFF) ∷ []) ((R 2, 0x00) ∷ (R 4, 0xFF) ∷ [])
    ((is_c8, false) ∷ (is_v, false) ∷ (is_c, true) ∷ []) ∷
    case 0 false 0x9942 1 ((R 4, 0x80) ∷ []) ((R 2, 0x80) ∷ (R 4, 0x80) ∷ []) ((is_c8, false) ∷ (is_v, true) ∷ (is_c, true) ∷ []) ∷
    case 0 false 0x9942 1 ((R 2, 0xFF) ∷ []) [] ((is_c8, true) ∷ (is_c, false) ∷ []) ∷
    case 0 false 0xA342 2 ((R 2, 0xFF) ∷ (R 4, 0x01) ∷ []) ((R 3, 0x01) ∷ (R 4, 0x01) ∷ []) ((is_c4, false) ∷ (is_c, false) ∷ []) ∷
    case 0 false 0xA342 2 ((R 2, 0xFF) ∷ (R 3, 0x7F) ∷ (R 4, 0x01) ∷ []) ((R 3, 0x80) ∷ (R 4, 0x01) ∷ []) ((is_v, true) ∷ []) ∷
    case 0 false 0xDF42 2 ((R 4, 0x01) ∷ (R 5, 0x01) ∷ []) ((R 2, 0x80) ∷ (R 4, 0x01) ∷ (R 5, 0x01) ∷ []) ((is_c, true) ∷ (is_n, true) ∷ []) ∷
    case 0 false 0x8D42 1 ((R 4, 0x40) ∷ []) ((R 2, 0x80) ∷ (R 4, 0x40) ∷ []) ((is_v, true) ∷ []) ∷
    case 6 false 0x65A0 1 [] ((R 0xC, 0x5A) ∷ []) [] ∷
    case 5 false 0x65A1 1 [] ((G 0xB, 0x5A) ∷ []) [] ∷
    []

-- ---- 02, L6, as a table of its own: MW, AW, SW, SLW and SRW on pairs that overlap crosswise, "each reading what the one before it wrote". With a 2 and b 3
-- Ra is R2 and Rb R3, with a 3 and b 2 the other way round; with G 6 designators 0 and 1 are RC and RD, with G 7 RE and RF. "MW of 3 to 2 leaves both with
-- what R3 held"; "word A232 is executed"; "Flags are those of the two results". And one of pairs apart, 8331: of 1 the high byte "is 0, register 2G"
unfoldable pub crosswise : List Case
crosswise =
    case 0 false 0x8332 2 ((R 2, 0x11) ∷ (R 3, 0x22) ∷ []) ((R 2, 0x22) ∷ (R 3, 0x22) ∷ []) ((is_n, false) ∷ (is_v, false) ∷ []) ∷
    case 0 false 0x8323 2 ((R 2, 0x91) ∷ (R 3, 0x22) ∷ []) ((R 2, 0x91) ∷ (R 3, 0x91) ∷ []) ((is_n, true) ∷ (is_v, false) ∷ []) ∷
    case 0 false 0x8332 2 ((R 2, 0x11) ∷ []) [] ((is_z, true) ∷ (is_n, false) ∷ []) ∷
    case 0 false 0x8331 2 ((R 2, 0x34) ∷ (R 3, 0x12) ∷ []) ((R 2, 0x34) ∷ (R 3, 0x12) ∷ (G 0, 0x34) ∷ (G 1, 0x12) ∷ []) [] ∷
    case 6 false 0x830D 2 ((R 0xC, 0x77) ∷ []) ((R 0xC, 0x77) ∷ (R 0xD, 0x77) ∷ []) [] ∷
    case 0 false 0xA232 2 ((R 2, 0x34) ∷ (R 3, 0x12) ∷ []) ((R 2, 0x46) ∷ (R 3, 0x58) ∷ []) [] ∷
    case 0 false 0xA332 2 ((R 2, 0xF0) ∷ (R 3, 0x20) ∷ []) ((R 2, 0x10) ∷ (R 3, 0x31) ∷ []) ((is_c8, false) ∷ (is_n, false) ∷ (is_c, false) ∷ []) ∷
    case 0 false 0xA332 2 ((R 2, 0xFF) ∷ (R 3, 0x01) ∷ []) ((R 3, 0x02) ∷ []) ((is_z, false) ∷ (is_c, false) ∷ []) ∷
    case 0 false 0xA323 2 ((R 2, 0x90) ∷ (R 3, 0x80) ∷ []) ((R 2, 0xA1) ∷ (R 3, 0x10) ∷ []) ((is_n, true) ∷ (is_c, false) ∷ []) ∷
    case 6 false 0xA3D0 2 ((R 0xC, 0xF0) ∷ (R 0xD, 0x20) ∷ []) ((R 0xC, 0x10) ∷ (R 0xD, 0x31) ∷ []) ((is_c, false) ∷ []) ∷
    case 0 false 0xB332 2 ((R 2, 0x10) ∷ (R 3, 0x20) ∷ []) ((R 2, 0xF0) ∷ (R 3, 0x2F) ∷ []) ((is_c8, false) ∷ (is_v, false) ∷ (is_c, true) ∷ []) ∷
    case 0 false 0xB323 2 ((R 2, 0x30) ∷ (R 3, 0x50) ∷ []) ((R 2, 0x10) ∷ (R 3, 0x20) ∷ []) ((is_c8, true) ∷ (is_c, false) ∷ []) ∷
    case 7 false 0xB3E1 2 ((R 0xE, 0x30) ∷ (R 0xF, 0x50) ∷ []) ((R 0xE, 0x10) ∷ (R 0xF, 0x20) ∷ []) ((is_c8, true) ∷ (is_c, false) ∷ []) ∷
    case 0 false 0x8F32 2 ((R 2, 0x55) ∷ (R 3, 0xC1) ∷ []) ((R 2, 0x82) ∷ (R 3, 0x05) ∷ []) ((is_c4, false) ∷ (is_v, true) ∷ (is_c, true) ∷ []) ∷
    case 0 false 0x8F23 2 ((R 2, 0x40) ∷ (R 3, 0x07) ∷ []) ((R 3, 0x80) ∷ []) ((is_v, true) ∷ (is_c, true) ∷ []) ∷
    case 7 false 0x8F0F 2 ((R 0xE, 0x40) ∷ (R 0xF, 0x07) ∷ []) ((R 0xF, 0x80) ∷ []) ((is_v, true) ∷ (is_c, true) ∷ []) ∷
    case 0 false 0xDF32 2 ((R 2, 0x03) ∷ (R 3, 0xFF) ∷ []) ((R 2, 0x80) ∷ (R 3, 0x01) ∷ []) ((is_n, true) ∷ (is_c, true) ∷ []) ∷
    case 0 false 0xDF23 2 ((R 2, 0xFF) ∷ (R 3, 0x06) ∷ []) ((R 2, 0x03) ∷ (R 3, 0x01) ∷ []) ((is_n, false) ∷ (is_c, true) ∷ []) ∷
    case 7 false 0xDF1E 2 ((R 0xE, 0x03) ∷ (R 0xF, 0xFF) ∷ []) ((R 0xE, 0x80) ∷ (R 0xF, 0x01) ∷ []) ((is_n, true) ∷ (is_c, true) ∷ []) ∷
    []
