-- What each executed instruction does to the registers and the flags. 01, "Codes, cycles and flags".
use Rattle.std.specs.Prelude.{ℕ, ◌/◌, ◌%◌, Bool, true, false, List, [], ◌∷◌, eqb}
use Rattle.choose.specs.Ranged.{ranged, pick}
use Rattle.alu.specs.Cycle.{subtract_of, kept_of}
use Rattle.alu.specs.Marks.{after_byte_of}
use Rattle.alu.specs.declared.Flags.{Flags}
use Rattle.alu.specs.declared.Kind.{Kind}
use Rattle.state.specs.declared.Core.{Core}
use Rattle.state.specs.File.{Leaves, leaves, high_of, register_of, written_of}
use Rattle.state.specs.FlagByte.{flags_of, flag_byte_of}
use Rattle.cycles.specs.Cycles.{one_cycle_of, two_cycles_of}
use Rattle.cycles.specs.declared.Designators.{Designators}
use Rattle.cycles.specs.declared.Operand.{Operand}
use Rattle.cycles.specs.declared.Plan.{Plan}
use Rattle.plan.specs.Plan.{plan_with, plan_of, condition_met, literal_plan_of}

abbrev pub designators : ℕ → ℕ → Designators
designators a b = record { a = a; b = b }

-- CL: NB and ZB of Ra minus the literal; "CL leaves C4 and C8"
unfoldable pub compared_of : List ℕ → ℕ → Flags → ℕ → ℕ → Flags
compared_of xs g f v a = after_byte_of f (kept_of (subtract_of (register_of xs g a) v true).result f) false

-- "Literals touch status only": AL, CL, NL, TL, LL
unfoldable pub literal_of : List ℕ → ℕ → Flags → ℕ → ℕ → ℕ → Leaves Flags
literal_of xs g f code v a =
    pick (eqb (code / 16) 3) (leaves xs (compared_of xs g f v a)) (one_cycle_of xs g f (literal_plan_of code v) (designators a a) false)

-- "LCF loads N Z V C from bits 7-4 of Ra where b bits 3-0 are 1"
unfoldable pub loaded_of : Flags → ℕ → ℕ → Flags
loaded_of f ra b =
    let t = flags_of ra in
    record {
      n = pick (eqb (b / 8 % 2) 1) t.n f.n;
      z = pick (eqb (b / 4 % 2) 1) t.z f.z;
      v = pick (eqb (b / 2 % 2) 1) t.v f.v;
      c = pick (eqb (b % 2) 1) t.c f.c;
      nb = f.nb;
      zb = f.zb;
      c4 = f.c4;
      c8 = f.c8;
    }

-- "CCF stores it in Ra": the flag byte
unfoldable pub copied_of : List ℕ → ℕ → Flags → ℕ → Leaves Flags
copied_of xs g f a = leaves (written_of xs g a (flag_byte_of f)) f

-- "CIB adds C8; CDB adds 255 and C8"
unfoldable pub stepped_by_of : List ℕ → ℕ → Flags → ℕ → ℕ → Leaves Flags
stepped_by_of xs g f a by = one_cycle_of xs g f (plan_with Kind.Add Operand.A (Operand.Number by) f.c8 true) (designators a a) false

-- RI, SI; CCF; LCF; RTSR, LGL; CIB; CDB
unfoldable pub codes70_to77_of : List ℕ → ℕ → Flags → ℕ → ℕ → ℕ → Leaves Flags
codes70_to77_of xs g f code b a =
    ranged code
    ((0x72, leaves xs f) ∷ (0x73, copied_of xs g f a) ∷ (0x74, leaves xs (loaded_of f (register_of xs g a) b)) ∷ (0x76, leaves xs f) ∷
    (0x77, stepped_by_of xs g f a 0) ∷ [])
    (stepped_by_of xs g f a 255)

-- 80-DF: bit 1 of the code tells words, which are pairs; bit 0 the odd codes
unfoldable pub operation_of : List ℕ → ℕ → Flags → ℕ → ℕ → ℕ → Leaves Flags
operation_of xs g f code b a =
    let odd = eqb (code % 2) 1 in
    pick (eqb (code / 2 % 2) 0)
    (one_cycle_of xs g f (plan_of code f) (designators a b) odd)
    (two_cycles_of xs g f (plan_of code f) (designators a b) (designators (high_of a) (high_of b)) odd)

-- "A failed condition .. changes registers and flags not at all"
unfoldable pub conditioned_of : List ℕ → ℕ → Flags → Bool → ℕ → ℕ → ℕ → Leaves Flags
conditioned_of xs g f ics code b a = pick (condition_met code f.c ics) (operation_of xs g f code b a) (leaves xs f)

-- "b mod 4: 0 upper, 1 lower, 2 upper if M bit 0, else lower, 3 the reverse"
unfoldable pub upper_of : ℕ → ℕ → Bool
upper_of m b = ranged (b % 4) ((1, true) ∷ (2, false) ∷ (3, eqb (m % 2) 1) ∷ []) (eqb (m % 2) 0)

unfoldable pub selected_of : ℕ → ℕ → ℕ → ℕ
selected_of dal m b = pick (upper_of m b) (dal / 256) (dal % 256)

-- "Input sets N Z NB ZB, V 0": a move of the byte, or of the word's two bytes
unfoldable pub input_of : List ℕ → ℕ → Flags → ℕ → ℕ → ℕ → ℕ → ℕ → Leaves Flags
input_of xs g f code dal m b a =
    let odd = eqb (code % 2) 1 in
    let taking : ℕ → Plan = λ n. plan_with Kind.Move Operand.A (Operand.Number n) false true in
    pick (eqb (code / 2 % 2) 0)
    (one_cycle_of xs g f (taking (selected_of dal m b)) (designators a a) odd)
    (two_cycles_of xs g f (taking dal) (designators a a) (designators (high_of a) (high_of a)) odd)

abbrev pub gain_of : ℕ → ℕ
gain_of code = pick (eqb (code / 4 % 2) 0) 1 2

-- "F0-F7: Ra gains 1 or 2; the word codes then add the carry to Rb. Status only."
unfoldable pub access_of : List ℕ → ℕ → Flags → ℕ → ℕ → ℕ → Leaves Flags
access_of xs g f code b a =
    let gains = plan_with Kind.Add Operand.A (Operand.Number (gain_of code)) false true in
    pick (eqb (code / 2 % 2) 0) (one_cycle_of xs g f gains (designators a a) false) (two_cycles_of xs g f gains (designators a a) (designators b b) false)

-- 70-77, 80-DF, E0-E7, F0-F7 by their parts; MI, LTR and F8-FF leave registers and flags
unfoldable pub registers_of : List ℕ → Core → ℕ → ℕ → ℕ → ℕ → Leaves Flags
registers_of xs core dal code b a =
    let f = core.flags in
    let g = core.latches.g in
    ranged code
    ((0x80, codes70_to77_of xs g f code b a) ∷
    (0xE0, conditioned_of xs g f core.latches.ics code b a) ∷
    (0xE8, input_of xs g f code dal core.bus.m b a) ∷
    (0xF0, leaves xs f) ∷
    (0xF8, access_of xs g f code b a) ∷
    [])
    (leaves xs f)
