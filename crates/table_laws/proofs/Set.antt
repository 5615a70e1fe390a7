-- What a completed word sets: every line of the operations, CCF and LCF, the word forms of F0-F7, and what sets nothing. Assumes nothing.
use Prim.Native.Nat.{ℕ, zero, suc, ◌/◌, ◌%◌, ◌<◌, ◌≤◌}
use mathlib.Core.Path.{◌≡◌, refl, ap₂, sym, ◌∙◌}
use mathlib.Core.Bool.{Bool, true, false, ◌&&◌, ◌||◌}
use mathlib.Core.List.{List}
use native.Mathlib.Nat.{mod-eq_of_lt}
use native.Mathlib.Omega.{arith}
use lib.Dec.{eqb, eqb→eq}
use lib.ListN.{length, get_or}
use borrow.Author.Tests.{eqb-true, eqb-false, ne_eqb, eq-eqb}
use Rattle.alu.specs.Cycle.{add_of, cycle_of}
use Rattle.alu.specs.Marks.{after_of, after_word_of}
use Rattle.alu.specs.declared.Cycle.{Cycle}
use Rattle.alu.specs.declared.Flags.{Flags}
use Rattle.alu.specs.declared.Kind.{Kind}
use Rattle.attempt.specs.Attempt.{executed_of, outputs_of, attempt_of}
use Rattle.attempt.specs.Effect.{jumped_of, register_effect, effect_of}
use Rattle.attempt.specs.Outcome.{Outcome}
use Rattle.attempt_laws.proofs.Fate.{attempt-fate}
use Rattle.attempt_laws.specs.Fate.{completed, taken_word, fate_of, EndsAs}
use Rattle.attempt_laws.specs.Fate.{within, no_code, b_in, a_in}
use Rattle.choose.proofs.Ranged.{in-arm, in_rest}
use Rattle.choose.proofs.Table.{below}
use Rattle.choose.proofs.Tests.{holds}
use Rattle.choose.specs.Ranged.{pick, ranged}
use Rattle.code.proofs.Words.{apart-is}
use Rattle.code.specs.CodeRows.{class_of, classes}
use Rattle.code.specs.Word.{top_of, operands_in, fields_in, same}
use Rattle.code.specs.declared.Class.{Class}
use Rattle.cycles.specs.Cycles.{operand_of, step_of, two_cycles_of}
use Rattle.cycles.specs.declared.Operand.{Operand}
use Rattle.cycles.specs.declared.Plan.{Plan}
use Rattle.execute.specs.Execute.{designators, copied_of, loaded_of, codes70_to77_of, gain_of, access_of, registers_of}
use Rattle.plan.specs.Plan.{plan_with, condition_met}
use Rattle.rows.specs.declared.Outputs.{Outputs}
use Rattle.rows.specs.declared.Row.{Row}
use Rattle.state.proofs.Laws.{written-length, written_same, written-other}
use Rattle.state.specs.File.{Leaves, leaves, slot_of, register_of, written_of}
use Rattle.state.specs.FlagByte.{nibble_of, flag_byte_of, flags_of}
use Rattle.state.specs.Range.{InRange, SampleInRange}
use Rattle.state.specs.declared.Core.{Core}
use Rattle.state.specs.declared.Sample.{Sample}
use Rattle.table_laws.specs.Operations.{Result, sum_of, Line, Each, end, ◌also◌, written, logical_of}
use Rattle.table_laws.specs.Set.{ConditionHolds, Copied, LcfLoaded, rb_after, Gained, Gains, sets_nothing, Sets, lists_with}
use Rattle.table_laws.proofs.Arithmetic.{no, Same, byte-same}
use Rattle.table_laws.proofs.Completes.{word-completes, taken-completes}
use Rattle.table_laws.proofs.Condition.{condition-holds}
use Rattle.table_laws.proofs.Lines.{lines, access-is, within-is}
use Rattle.table_laws.proofs.Performed.{register-below}

-- ---- CCF, LCF

copied : (xs : List ℕ) (g a : ℕ) (f : Flags) → length xs ≡ 26 → let m = copied_of xs g f a in Copied g a m.file f m.back
unfolding copied_of flag_byte_of nibble_of
copied xs g a f size = record { stored = written_same xs g a _ size ∙ omega arith; flags = refl }

loaded : (xs : List ℕ) (ra b : ℕ) (f : Flags) → ra < 256 → LcfLoaded ra b xs xs f (loaded_of f ra b)
unfolding loaded_of flags_of
loaded xs ra b f h =
    let top : ra / 128 % 2 ≡ ra / 128 = mod-eq_of_lt (omega arith) in
    record { unwritten = refl; n = rw top; z = refl; v = refl; c = refl; nb = refl; zb = refl; c4 = refl; c8 = refl }

-- ---- the word forms of F0-F7

-- Rb after Ra was written
written-rb : (xs : List ℕ) (g a b v : ℕ) → length xs ≡ 26 → register_of (written_of xs g a v) g b ≡ rb_after g a b xs v
unfolding register_of
written-rb xs g a b v size = go (eqb (slot_of g b) (slot_of g a)) refl
  where
    go : (t : Bool) → eqb (slot_of g b) (slot_of g a) ≡ t → get_or (written_of xs g a v) (slot_of g b) 0 ≡ pick t v (get_or xs (slot_of g b) 0)
    go true e = rw (eqb-true (slot_of g b) (slot_of g a) e) (written_same xs g a v size)
    go false e = written-other xs g a v (slot_of g b) (eqb-false (slot_of g b) (slot_of g a) e)

abbrev gaining : ℕ → Plan
gaining by = plan_with Kind.Add Operand.A (Operand.Number by) false true

module _ (xs : List ℕ) (g a b by : ℕ) (f : Flags) (size : length xs ≡ 26) (small : by < 256) where
  abbrev first : Cycle
  first = add_of (register_of xs g a) by false

  abbrev second : Cycle
  second = add_of (rb_after g a b xs first.result) 0 first.c8

  gain-flags : (p q : Result) → Same p first → Same q second
      → Gained p q g a b (written_of (written_of xs g a first.result) g b second.result) f
      (after_of f second (eqb first.result 0 && eqb second.result 0) false)
  unfolding after_of register_of
  gain-flags p q h i =
      let ys = written_of xs g a first.result in
      record {
        rb = written_same ys g b _ (written-length xs g a _ ∙ size) ∙ i.number;
        ra = λ e.
            (written-other ys g b _ (slot_of g a) (λ j. eqb-false (slot_of g b) (slot_of g a) e (sym j)) ∙ written_same xs g a _ size ∙ h.number);
        nb = i.negative;
        zb = ap₂ (λ m n. eqb m 0 && eqb n 0) h.number i.number;
        c4 = i.c4;
        c8 = i.c8;
        n = refl;
        z = refl;
        v = refl;
        c = refl;
      }

  gain-is : two_cycles_of xs g f (gaining by) (designators a a) (designators b b) false
      ≡ leaves (written_of (written_of xs g a first.result) g b second.result) (after_of f second (eqb first.result 0 && eqb second.result 0) false)
  unfolding two_cycles_of after_word_of step_of operand_of cycle_of
  gain-is =
      let low : by % 256 ≡ by = mod-eq_of_lt small in
      let high : by / 256 ≡ 0 = omega arith in
      rw (low, high, written-rb xs g a b first.result size)

  gained : let p = sum_of 256 (register_of xs g a) by false in
      Gained p (sum_of 256 (rb_after g a b xs p.number) 0 p.c8) g a b (written_of (written_of xs g a first.result) g b second.result) f
      (after_of f second (eqb first.result 0 && eqb second.result 0) false)
  unfolding add_of sum_of cycle_of
  gained =
      gain-flags _ _ (byte-same Kind.Add (register_of xs g a) by false f small)
      (byte-same Kind.Add (rb_after g a b xs first.result) 0 first.c8 f (omega arith))

-- ---- an executed word

either : {A : Type 0} (s t : Bool) → (s ≡ true → A) → (t ≡ true → A) → s || t ≡ true → A
either true t f g e = f refl
either false t f g e = g e

module _ (xs : List ℕ) (k : Core) (s : Sample) (o : Outputs) (word : ℕ) (range : InRange xs k) where
  abbrev code : ℕ
  code = top_of word

  abbrev executed : Leaves Outcome
  executed = executed_of xs k (fields_in (class_of code) word) s o

  abbrev Kept : Leaves Outcome → Type 0
  Kept e = (e.file ≡ xs) × (e.back.core.flags ≡ k.flags)

  -- a word of two designators leaves what its code's part of the registers leaves
  module _ (P : List ℕ → Flags → Type 0) (m : Leaves Flags) (is : registers_of xs k s.dal code (b_in word) (a_in word) ≡ m) where
    at_register : P m.file m.back → let e = executed_of xs k (fields_in Class.Register word) s o in P e.file e.back.core.flags
    unfolding executed_of effect_of fields_in operands_in register_effect
    at_register h = rw is h

    -- 70-77
    at-70 : 0x70 ≤ code → code < 0x78 → P m.file m.back → P executed.file executed.back.core.flags
    unfolding class_of
    at-70 lo hi h = rw (in-arm code classes Class.Unlisted 3 0x70 tt lo hi) (at_register h)

    -- EC-FF
    at-ec : 0xEC ≤ code → P m.file m.back → P executed.file executed.back.core.flags
    unfolding class_of
    at-ec lo h = rw (in-arm code classes Class.Unlisted 11 0xEC tt lo (omega arith)) (at_register h)

  seventies-are : 0x70 ≤ code → code < 0x78
      → registers_of xs k s.dal code (b_in word) (a_in word) ≡ codes70_to77_of xs k.latches.g k.flags code (b_in word) (a_in word)
  unfolding registers_of
  seventies-are lo hi = in-arm code _ _ 0 0x70 tt lo (omega arith)

  ccf-sets : code ≡ 0x72 → Copied k.latches.g (a_in word) executed.file k.flags executed.back.core.flags
  unfolding codes70_to77_of
  ccf-sets e =
      let g = k.latches.g in
      at-70 (λ ys f. Copied g (a_in word) ys k.flags f) (copied_of xs g k.flags (a_in word))
      (seventies-are (omega arith) (omega arith) ∙ in-arm code _ _ 1 0x72 tt (omega arith) (omega arith))
      (omega arith) (omega arith)
      (copied xs g (a_in word) k.flags range.size)

  lcf-sets : code ≡ 0x73 → LcfLoaded (register_of xs k.latches.g (a_in word)) (b_in word) xs executed.file k.flags executed.back.core.flags
  unfolding codes70_to77_of
  lcf-sets e =
      let ra = register_of xs k.latches.g (a_in word) in
      at-70 (λ ys f. LcfLoaded ra (b_in word) xs ys k.flags f) (leaves xs (loaded_of k.flags ra (b_in word)))
      (seventies-are (omega arith) (omega arith) ∙ in-arm code _ _ 2 0x73 tt (omega arith) (omega arith))
      (omega arith) (omega arith)
      (loaded xs ra (b_in word) k.flags (register-below k.latches.g xs range.bytes (a_in word)))

  gain-sets : (by : ℕ) → by < 256 → 0xF0 ≤ code → code < 0xF8 → code / 2 % 2 ≡ 1 → gain_of code ≡ by → Gains by xs k word executed
  unfolding access_of
  gain-sets by small lo hi odd e =
      let g = k.latches.g in
      let f = k.flags in
      let a = a_in word in
      let b = b_in word in
      let two : eqb (code / 2 % 2) 0 ≡ false = ne_eqb (code / 2 % 2) 0 (λ z. omega arith) in
      let p = sum_of 256 (register_of xs g a) by false in
      at-ec (λ ys h. Gained p (sum_of 256 (rb_after g a b xs p.number) 0 p.c8) g a b ys f h)
      (two_cycles_of xs g f (gaining by) (designators a a) (designators b b) false)
      (access-is xs k s.dal code b a lo hi ∙ rw (two, e))
      (omega arith)
      (rw (gain-is xs g a b by f range.size small) (gained xs g a b by f range.size small))

  -- ---- what sets nothing

  jump-keeps : (c : Class) → same c Class.Jump || same c Class.Conditional ≡ true → Kept (executed_of xs k (fields_in c word) s o)
  unfolding executed_of effect_of fields_in operands_in jumped_of
  jump-keeps Class.Unlisted e = no e
  jump-keeps Class.Jump e = (refl, refl)
  jump-keeps Class.Conditional e = (refl, refl)
  jump-keeps Class.Literal e = no e
  jump-keeps Class.Register e = no e

  jumps-keep : code < 0x20 → Kept executed
  unfolding class_of ranged
  jumps-keep h =
      let test : ℕ → Bool = λ x. same (class_of x) Class.Jump || same (class_of x) Class.Conditional in
      jump-keeps (class_of code) (holds (test code) (below 0x20 test tt code h))

  abbrev KeptBy : List ℕ → Flags → Type 0
  KeptBy ys f = (ys ≡ xs) × (f ≡ k.flags)

  ri-keeps : 0x70 ≤ code → code < 0x72 → Kept executed
  unfolding codes70_to77_of
  ri-keeps lo hi =
      at-70 KeptBy (leaves xs k.flags) (seventies-are lo (omega arith) ∙ in-arm code _ _ 0 0x70 tt lo hi) lo (omega arith) (refl, refl)

  rtsr-keeps : 0x74 ≤ code → code < 0x76 → Kept executed
  unfolding codes70_to77_of
  rtsr-keeps lo hi =
      at-70 KeptBy (leaves xs k.flags) (seventies-are (omega arith) (omega arith) ∙ in-arm code _ _ 3 0x74 tt lo hi) (omega arith) (omega arith)
      (refl, refl)

  mi-keeps : 0xEC ≤ code → code < 0xF0 → Kept executed
  unfolding registers_of
  mi-keeps lo hi = at-ec KeptBy (leaves xs k.flags) (in-arm code _ _ 3 0xEC tt lo hi) lo (refl, refl)

  reads-keep : 0xF8 ≤ code → Kept executed
  unfolding registers_of
  reads-keep lo = at-ec KeptBy (leaves xs k.flags) (in_rest code _ _ 0xF8 tt lo) (omega arith) (refl, refl)

  nothing-sets : sets_nothing code ≡ true → Kept executed
  unfolding sets_nothing
  nothing-sets =
      either _ _
      (either _ _
      (either _ _
      (either _ _
      (λ e. let (l, h) = within-is 0x00 0x1F code e in jumps-keep (omega arith))
      (λ e. let (l, h) = within-is 0x70 0x71 code e in ri-keeps l (omega arith)))
      (λ e. let (l, h) = within-is 0x74 0x75 code e in rtsr-keeps l (omega arith)))
      (λ e. let (l, h) = within-is 0xEC 0xEF code e in mi-keeps l (omega arith)))
      (λ e. reads-keep (within-is 0xF8 0xFF code e).0)

  gain-one-sets : within 0xF2 0xF3 code ≡ true → Gains 1 xs k word executed
  gain-one-sets e =
      let (l, h) = within-is 0xF2 0xF3 code e in
      let one : eqb (code / 4 % 2) 0 ≡ true = eq-eqb (code / 4 % 2) 0 (omega arith) in
      gain-sets 1 (omega arith) (omega arith) (omega arith) (omega arith) (rw one)

  gain-two-sets : within 0xF6 0xF7 code ≡ true → Gains 2 xs k word executed
  gain-two-sets e =
      let (l, h) = within-is 0xF6 0xF7 code e in
      let two : eqb (code / 4 % 2) 0 ≡ false = ne_eqb (code / 4 % 2) 0 (λ z. omega arith) in
      gain-sets 2 (omega arith) (omega arith) (omega arith) (omega arith) (rw two)

  sets : SampleInRange s → no_code code ≡ false → condition_met code k.flags.c k.latches.ics ≡ true → Sets xs k s word executed
  sets sample listed met =
      record {
        operation = lines xs k s o word range listed met sample;
        ccf = ccf-sets;
        lcf = lcf-sets;
        gain-one = gain-one-sets;
        gain-two = gain-two-sets;
        nothing = nothing-sets;
      }

-- ---- every completed attempt

ends-sets : (word : ℕ) (xs : List ℕ) (k : Core) (s : Sample) (o : Outputs) (e : Leaves Outcome) → EndsAs word xs k s o e completed
    → (let code = top_of word in Sets xs k s word (executed_of xs k (fields_in (class_of code) word) s o)) → Sets xs k s word e
ends-sets word xs k s o e (w, a, q) h =
    let (b, l, p) = apart-is word w a in
    rw (q, ← p) h

-- the registers and the flags that a completed attempt leaves, its condition not failed, are those that 01 says of its code
pub attempt-sets : (ws : List ℕ) (rs : List Row) (xs : List ℕ) (k : Core) (s : Sample) → InRange xs k → SampleInRange s
    → fate_of ws k s ≡ completed → ConditionHolds ws k → Sets xs k s (taken_word ws k) (attempt_of ws rs xs k s)
attempt-sets ws rs xs k s range sample completes holding =
    let word = taken_word ws k in
    let o = outputs_of ws rs k s in
    let listed = word-completes word s (taken-completes ws k s completes) in
    let met = condition-holds k.flags.c k.latches.ics (top_of word) (omega arith) holding in
    ends-sets word xs k s o (attempt_of ws rs xs k s) (rw completes at (attempt-fate ws rs xs k s)) (sets xs k s o word range sample listed met)

-- and the lists leave out no code that is not refused, and have none twice
pub every-code : (code : ℕ) → code < 0x100 → no_code code ≡ false → lists_with code ≡ 1
unfolding no_code sets_nothing
every-code code h l = eqb→eq (lists_with code) 1 (rw l at (below 0x100 (λ x. pick (no_code x) true (eqb (lists_with x) 1)) tt code h))

-- ---- one line of them

abbrev pub no_line : Line
no_line = written 0 0 (λ h p q f. logical_of h p f)

-- what holds of each line holds of line i
pub each_at : {P : Line → Type 0} {ls : List Line} → Each P ls → (i : ℕ) → i < length ls → P (get_or ls i no_line)
each_at end i h = absurd (omega arith)
each_at (p also ps) zero h = p
each_at (p also ps) (suc i) h = each_at ps i (omega arith)
