-- Each line of the operations beside the engine's own plans and parts, and so of every executed word. Assumes nothing.
use Prim.Native.Nat.{ℕ, zero, suc, ◌+◌, ◌*◌, ◌/◌, ◌%◌, ◌<◌, ◌≤◌}
use mathlib.Core.Path.{◌≡◌, refl, ap, sym, ◌∙◌}
use mathlib.Core.Bool.{Bool, true, false, not, ◌&&◌, ◌||◌, beq}
use mathlib.Core.List.{List, [], ◌∷◌}
use native.Mathlib.Omega.{arith}
use lib.Dec.{eqb, leb, ltb}
use lib.ListN.{get_or}
use borrow.Author.Tests.{leb-true, ltb-true, lt-ltb, le-ltb, le-leb, lt-leb, eq-eqb, ne_eqb, eqb-true}
use Rattle.alu.specs.Cycle.{kept_of, subtract_of, cycle_of, high_first_of}
use Rattle.alu.specs.Marks.{after_byte_of}
use Rattle.alu.specs.declared.Flags.{Flags}
use Rattle.alu.specs.declared.Kind.{Kind}
use Rattle.attempt.specs.Attempt.{executed_of}
use Rattle.attempt.specs.Effect.{literal_effect, register_effect, effect_of}
use Rattle.attempt_laws.specs.Fate.{within, odd, no_code, b_in, a_in}
use Rattle.choose.proofs.Choice.{pick_all}
use Rattle.choose.proofs.Ranged.{in-arm, in_rest}
use Rattle.choose.proofs.Table.{below}
use Rattle.choose.proofs.Tests.{both_true, equal-tests}
use Rattle.choose.specs.Ranged.{pick, ranged}
use Rattle.code.proofs.Shape.{same_class}
use Rattle.code.specs.CodeRows.{class_of, classes}
use Rattle.code.specs.Word.{top_of, operands_in, fields_in, same}
use Rattle.code.specs.declared.Class.{Class}
use Rattle.cycles.specs.Cycles.{one_cycle_of, two_cycles_of}
use Rattle.cycles.specs.declared.Operand.{Operand}
use Rattle.cycles.specs.declared.Plan.{Plan}
use Rattle.execute.specs.Execute.{designators, compared_of, literal_of, stepped_by_of, codes70_to77_of, operation_of, conditioned_of}
use Rattle.execute.specs.Execute.{upper_of, selected_of, input_of, access_of, registers_of}
use Rattle.plan.specs.Plan.{plan_with, plans, plan_of, condition_met, literal_plan_of}
use Rattle.rows.specs.declared.Outputs.{Outputs}
use Rattle.state.specs.File.{Leaves, leaves, high_of, register_of}
use Rattle.state.specs.Pairs.{inverted}
use Rattle.state.specs.Range.{InRange, SampleInRange}
use Rattle.state.specs.declared.Core.{Core}
use Rattle.state.specs.declared.Sample.{Sample}
use Rattle.table_laws.specs.Operations.{Result, Line, Each, end, ◌also◌, written, unwritten, sum_of, logical_of, difference_of, operations}
use Rattle.table_laws.specs.Set.{odd_code, word_code, number_in, range_of, Performed, input_byte, pair_found, shifts_right, other_of, Performs}
use Rattle.table_laws.proofs.Arithmetic.{no, byte-same}
use Rattle.table_laws.proofs.Performed.{Fits, Named, of_plan, line_of, performed, one-performed, two-performed, pair-performed}

-- ---- a choice that doesn't change within a line's codes

module _ {A : Type 0} where
  -- no end of an arm lies above lo and at hi or below
  abbrev unbroken : ℕ → ℕ → List (ℕ × A) → Bool
  unbroken lo hi [] = true
  unbroken lo hi (m ∷ ms) = (leb m.0 lo || ltb hi m.0) && unbroken lo hi ms

  one_arm : (x lo hi : ℕ) (ms : List (ℕ × A)) (d : A) → unbroken lo hi ms ≡ true → lo ≤ x → x ≤ hi → ranged x ms d ≡ ranged lo ms d
  unfolding ranged
  one_arm x lo hi [] d t l h = refl
  one_arm x lo hi (m ∷ ms) d t l h =
      let (one, others) = both_true (leb m.0 lo || ltb hi m.0) (unbroken lo hi ms) t in
      go (leb m.0 lo) refl one (one_arm x lo hi ms d others l h)
    where
      go : (b : Bool) → leb m.0 lo ≡ b → b || ltb hi m.0 ≡ true → ranged x ms d ≡ ranged lo ms d
          → pick (ltb x m.0) m.1 (ranged x ms d) ≡ pick (ltb lo m.0) m.1 (ranged lo ms d)
      go true e i rest = let j = leb-true m.0 lo e in rw (le-ltb x m.0 (omega arith), le-ltb lo m.0 j) rest
      go false e i rest = let j = ltb-true hi m.0 i in rw (lt-ltb x m.0 (omega arith), lt-ltb lo m.0 (omega arith))

-- ---- the lists of codes by their bits: tests that antt computes over the codes

-- "odd codes 81-DF and E1-E7"
odd_code_lem : (code : ℕ) → code < 0x100 → odd_code code ≡ (within 0x80 0xE7 code && odd code)
unfolding odd_code
odd_code_lem code h = equal-tests _ _ (below 0x100 (λ x. beq (odd_code x) (within 0x80 0xE7 x && odd x)) tt code h)

-- the two-cycle codes 82-DF, IW and ISW: bit 1
word-code : (code : ℕ) → code < 0x100 → no_code code ≡ false → word_code code ≡ (within 0x80 0xE7 code && not (eqb (code / 2 % 2) 0))
unfolding no_code
word-code code h l =
    let test : ℕ → Bool = λ x. beq (word_code x) (within 0x80 0xE7 x && not (eqb (x / 2 % 2) 0)) in
    equal-tests _ _ (rw l at (below 0x100 (λ x. pick (no_code x) true (test x)) tt code h))

-- a code within a range, above it, below it
pub within-is : (lo hi x : ℕ) → within lo hi x ≡ true → (lo ≤ x) × (x ≤ hi)
within-is lo hi x e =
    let (l, h) = both_true (leb lo x) (leb x hi) e in
    (leb-true lo x l, leb-true x hi h)

pub is_within : (lo hi x : ℕ) → lo ≤ x → x ≤ hi → within lo hi x ≡ true
is_within lo hi x l h = rw (le-leb lo x l, le-leb x hi h)

pub above : (lo hi x : ℕ) → hi < x → within lo hi x ≡ false
above lo hi x h = go (leb lo x)
  where
    go : (t : Bool) → t && leb x hi ≡ false
    go true = lt-leb x hi h
    go false = refl

pub under : (lo hi x : ℕ) → x < lo → within lo hi x ≡ false
under lo hi x h = rw (lt-leb lo x h)

-- an equal result, written or not alike
restated : {r r' : Result} {w w' word odd : Bool} {g a : ℕ} {xs ys : List ℕ} {f f' : Flags} → r ≡ r' → w ≡ w'
    → Performed r w word odd g a xs ys f f' → Performed r' w' word odd g a xs ys f f'
restated e i h = rw (← e, ← i) h

-- a byte's operands are a word's
fits_more : (o : Operand) → Fits 256 o → Fits 65536 o
fits_more Operand.A h = tt
fits_more Operand.B h = tt
fits_more (Operand.Number n) h = omega arith

fits : Operand → Bool
fits Operand.A = true
fits Operand.B = true
fits (Operand.Number n) = ltb n 256

fits-is : (o : Operand) → fits o ≡ true → Fits 256 o
unfolding fits
fits-is Operand.A e = tt
fits-is Operand.B e = tt
fits-is (Operand.Number n) e = ltb-true n 256 e

named : Operand → Bool
named Operand.A = true
named Operand.B = true
named (Operand.Number n) = false

named-is : (o : Operand) → named o ≡ true → Named o
unfolding named
named-is Operand.A e = tt
named-is Operand.B e = tt
named-is (Operand.Number n) e = no e

-- ---- "IB and ISB: b mod 4: 0 upper, 1 lower, 2 upper if M bit 0, else lower, 3 the reverse"

even-not-odd : (x : ℕ) → x < 2 → eqb x 0 ≡ not (eqb x 1)
even-not-odd zero h = refl
even-not-odd (suc zero) h = refl
even-not-odd (suc (suc x)) h = absurd (omega arith)

pick-not : (t : Bool) (x y : ℕ) → pick (not t) x y ≡ pick t y x
pick-not true x y = refl
pick-not false x y = refl

selected-is : (dal m b : ℕ) → selected_of dal m b ≡ input_byte dal m b
unfolding selected_of upper_of ranged
selected-is dal m b = go (b % 4) (omega arith)
  where
    go : (x : ℕ) → x < 4
        → pick (ranged x ((1, true) ∷ (2, false) ∷ (3, odd m) ∷ []) (eqb (m % 2) 0)) (dal / 256) (dal % 256)
        ≡ get_or ((dal / 256) ∷ (dal % 256) ∷ pick (odd m) (dal / 256) (dal % 256) ∷ pick (odd m) (dal % 256) (dal / 256) ∷ []) x 0
    go zero h = refl
    go (suc zero) h = refl
    go (suc (suc zero)) h = refl
    go (suc (suc (suc zero))) h = rw (even-not-odd (m % 2) (omega arith)) (pick-not (odd m) _ _)
    go (suc (suc (suc (suc x)))) h = absurd (omega arith)

selected-below : (dal m b : ℕ) → dal < 65536 → selected_of dal m b < 256
unfolding selected_of
selected-below dal m b h = pick_all (λ (n : ℕ). n < 256) (upper_of m b) _ _ (omega arith) (omega arith)

-- F0-F7
pub access-is : (xs : List ℕ) (k : Core) (dal code b a : ℕ) → 0xF0 ≤ code → code < 0xF8
    → registers_of xs k dal code b a ≡ access_of xs k.latches.g k.flags code b a
unfolding registers_of
access-is xs k dal code b a lo hi = in-arm code _ _ 4 0xF0 tt lo hi

-- ---- an executed word that is not refused, its condition met

module _ (xs : List ℕ) (k : Core) (s : Sample) (o : Outputs) (word : ℕ) (range : InRange xs k)
    (is_code : no_code (top_of word) ≡ false)
    (met : condition_met (top_of word) k.flags.c k.latches.ics ≡ true) where
  abbrev code : ℕ
  code = top_of word

  abbrev f : Flags
  f = k.flags

  abbrev g : ℕ
  g = k.latches.g

  abbrev a : ℕ
  a = a_in word

  abbrev b : ℕ
  b = b_in word

  abbrev executed : Class → Leaves Flags
  executed c =
      let e = executed_of xs k (fields_in c word) s o in
      leaves e.file e.back.core.flags

  abbrev Holds : Line → Leaves Flags → Type 0
  Holds line m =
      Performed (line.gives (range_of (word_code code)) (number_in (word_code code) xs g a) (other_of line xs k s word) f) line.writes (word_code code)
      (odd_code code) g a xs m.file f m.back

  abbrev OfLine : Line → Type 0
  OfLine = Performs xs k s word (executed_of xs k (fields_in (class_of code) word) s o)

  code_below : code < 0x100
  code_below = omega arith

  at_register : (line : Line) → Holds line (registers_of xs k s.dal code b a) → Holds line (executed Class.Register)
  unfolding executed_of effect_of fields_in operands_in register_effect
  at_register line h = h

  at_literal : (line : Line) → Holds line (literal_of xs g f (code / 0x10 * 0x10) (word / 0x10 % 0x100) a) → Holds line (executed Class.Literal)
  unfolding executed_of effect_of fields_in operands_in literal_effect
  at_literal line h = h

  odd_is : within 0x80 0xE7 code ≡ true → odd_code code ≡ odd code
  odd_is in-it = odd_code_lem code code_below ∙ rw in-it

  word-is : within 0x80 0xE7 code ≡ true → word_code code ≡ not (eqb (code / 2 % 2) 0)
  word-is in-it = word-code code code_below is_code ∙ rw in-it

  one-plan : (x lo hi : ℕ) → unbroken lo hi (plans f) ≡ true → lo ≤ x → x ≤ hi → plan_of x f ≡ plan_of lo f
  unfolding plan_of
  one-plan x lo hi t l h = one_arm x lo hi (plans f) _ t l h

  -- 80-DF
  module _ (lo : 0x80 ≤ code) (hi : code < 0xE0) where
    operation-is : registers_of xs k s.dal code b a ≡ operation_of xs g f code b a
    unfolding registers_of conditioned_of
    operation-is = in-arm code _ _ 1 0x80 tt lo hi ∙ rw met

    other-is : (line : Line) → other_of line xs k s word ≡ pick (word_code code) (pair_found line (shifts_right code) xs g f b a) (register_of xs g b)
    other-is line = rw (above 0x20 0x6F code (omega arith), under 0xE0 0xE7 code hi)

    inside : within 0x80 0xE7 code ≡ true
    inside = is_within 0x80 0xE7 code lo (omega arith)

    operation-performed : (plan : Plan) → plan_of code f ≡ plan → Fits 256 plan.p → Fits 256 plan.q
        → (high_first_of plan.kind ≡ true → Named plan.p × Named plan.q)
        → let m = operation_of xs g f code b a in
        let q = pick (word_code code) (pair_found (line_of plan) (high_first_of plan.kind) xs g f b a) (register_of xs g b) in
        Performed (of_plan plan (range_of (word_code code)) (number_in (word_code code) xs g a) q f) plan.stores
        (word_code code) (odd_code code) g a xs m.file f m.back
    unfolding operation_of
    operation-performed plan e p q named = rw (e, odd_is inside) (go (eqb (code / 2 % 2) 0) (word_code code) (word-is inside))
      where
        go : (t w : Bool) → w ≡ not t
            → let m = pick t (one_cycle_of xs g f plan (designators a b) (odd code))
            (two_cycles_of xs g f plan (designators a b) (designators (high_of a) (high_of b)) (odd code)) in
            let q = pick w (pair_found (line_of plan) (high_first_of plan.kind) xs g f b a) (register_of xs g b) in
            Performed (of_plan plan (range_of w) (number_in w xs g a) q f) plan.stores w (odd code) g a xs m.file f m.back
        go true true j = no (sym j)
        go true false j = one-performed g f plan xs range.size range.bytes a b (odd code) p q
        go false true j =
            pair-performed g f plan xs range.size range.bytes a b (odd code) (fits_more plan.p p) (fits_more plan.q q) p q named
            (omega arith) (omega arith)
        go false false j = no j

    -- the pair is found as the line says where the plan gives what the line gives
    found-by-line : (line : Line) (plan : Plan) → plan.stores ≡ line.writes → ((h p q : ℕ) → of_plan plan h p q f ≡ line.gives h p q f)
        → (t : Bool) → pair_found (line_of plan) t xs g f b a ≡ pair_found line t xs g f b a
    found-by-line line plan writes gives true = rw (writes, gives 0x100 (register_of xs g (inverted a)) (register_of xs g (inverted b)))
    found-by-line line plan writes gives false = rw (writes, gives 0x100 (register_of xs g a) (register_of xs g b))

  -- the codes of a line are of one class, Register
  abbrev registers : Line → Bool
  registers line = unbroken line.first line.last classes && same (class_of line.first) Class.Register

  register-class : (line : Line) → registers line ≡ true → within line.first line.last code ≡ true → class_of code ≡ Class.Register
  unfolding class_of
  register-class line t here =
      let (l, h) = within-is line.first line.last code here in
      let (arms, class) = both_true (unbroken line.first line.last classes) (same (class_of line.first) Class.Register) t in
      one_arm code line.first line.last classes Class.Unlisted arms l h ∙ same_class (class_of line.first) Class.Register class

  -- so what holds of its registers' part holds of the line
  by_register : (line : Line) → registers line ≡ true
      → ((line.first ≤ code) × (code ≤ line.last) → Holds line (registers_of xs k s.dal code b a)) → OfLine line
  by_register line t h =
      record { performed = λ here. rw (register-class line t here) (at_register line (h (within-is line.first line.last code here))) }

  -- the codes of a line begin with the same byte as its plan: the high one for the right shifts, whose operands are registers
  abbrev ordered : Line → Plan → Bool
  ordered line plan = pick (high_first_of plan.kind) (leb 0xD8 line.first && named plan.p && named plan.q) (ltb line.last 0xD8)

  in_order_lem : (line : Line) (plan : Plan) → ordered line plan ≡ true → line.first ≤ code → code ≤ line.last → code < 0xE0
      → (shifts_right code ≡ high_first_of plan.kind) × (high_first_of plan.kind ≡ true → Named plan.p × Named plan.q)
  in_order_lem line plan t l h u = go (high_first_of plan.kind) t
    where
      go : (b : Bool) → pick b (leb 0xD8 line.first && named plan.p && named plan.q) (ltb line.last 0xD8) ≡ true
          → (shifts_right code ≡ b) × (b ≡ true → Named plan.p × Named plan.q)
      go true t =
          let (t₁, q) = both_true _ (named plan.q) t in
          let (from, p) = both_true (leb 0xD8 line.first) (named plan.p) t₁ in (
            is_within 0xD8 0xDF code (omega (arith, leb-true 0xD8 line.first from)) (omega arith),
            (λ e. (named-is plan.p p, named-is plan.q q)),
          )
      go false t = (under 0xD8 0xDF code (omega (arith, ltb-true line.last 0xD8 t)), no)

  -- a line of 80-DF: its codes have one plan, which writes as the line says
  abbrev planned : Line → Plan → Bool
  planned line plan =
      leb 0x80 line.first && ltb line.last 0xE0 && unbroken line.first line.last (plans f) && fits plan.p && fits plan.q &&
      ordered line plan

  by-plan : {line : Line} → registers line ≡ true → planned line (plan_of line.first f) ≡ true → (plan_of line.first f).stores ≡ line.writes
      → ((h p q : ℕ) → of_plan (plan_of line.first f) h p q f ≡ line.gives h p q f) → OfLine line
  by-plan {line} c t writes gives =
      let plan = plan_of line.first f in
      let (t₅, order) = both_true _ (ordered line plan) t in
      let (t₄, q) = both_true _ (fits plan.q) t₅ in
      let (t₃, p) = both_true _ (fits plan.p) t₄ in
      let (t₂, arms) = both_true _ (unbroken line.first line.last (plans f)) t₃ in
      let (from, till) = both_true (leb 0x80 line.first) (ltb line.last 0xE0) t₂ in
      by_register line c (λ (l, h).
      let lo : 0x80 ≤ code = omega (arith, leb-true 0x80 line.first from) in
      let hi : code < 0xE0 = omega (arith, ltb-true line.last 0xE0 till) in
      let (right, named) = in_order_lem line plan order l h hi in
      rw (operation-is lo hi, other-is lo hi line, right, ← found-by-line lo hi line plan writes gives (high_first_of plan.kind))
      (restated (gives _ _ _) writes
      (operation-performed lo hi plan (one-plan code line.first line.last arms l h) (fits-is plan.p p) (fits-is plan.q q) named)))

  -- what holds of a byte's result holds of a line whose codes are bytes
  by_byte : (l : Line) (q : ℕ) (d : Bool) (m : Leaves Flags) → word_code code ≡ false → odd_code code ≡ d → other_of l xs k s word ≡ q
      → Performed (l.gives 0x100 (register_of xs g a) q f) l.writes false d g a xs m.file f m.back → Holds l m
  by_byte l q d m w e i h = rw (i, w, e) h

  -- 70-77 and F0-F7: "Status only", and no pair
  module _ (out : within 0x80 0xE7 code ≡ false) where
    status-only : odd_code code ≡ false
    status-only = odd_code_lem code code_below ∙ rw out

    no-pair : word_code code ≡ false
    no-pair = word-code code code_below is_code ∙ rw out

  -- ---- literals

  abbrev v : ℕ
  v = word / 0x10 % 0x100

  abbrev literals : Line → Bool
  literals line =
      leb 0x20 line.first && leb line.last 0x6F && eqb (line.first % 0x10) 0 && eqb line.last (line.first + 0xF) &&
      unbroken line.first line.last classes && same (class_of line.first) Class.Literal

  by-literal : {line : Line} → literals line ≡ true
      → (let m = literal_of xs g f line.first v a in
      Performed (line.gives 0x100 (register_of xs g a) v f) line.writes false false g a xs m.file f m.back) → OfLine line
  unfolding class_of
  by-literal {line} t h =
      let (t₄, class) = both_true _ (same (class_of line.first) Class.Literal) t in
      let (t₃, arms) = both_true _ (unbroken line.first line.last classes) t₄ in
      let (t₂, top) = both_true _ (eqb line.last (line.first + 0xF)) t₃ in
      let (t₁, bottom) = both_true _ (eqb (line.first % 0x10) 0) t₂ in
      let (from, till) = both_true (leb 0x20 line.first) (leb line.last 0x6F) t₁ in
      let lo = leb-true 0x20 line.first from in
      let hi = leb-true line.last 0x6F till in
      let zero = eqb-true (line.first % 0x10) 0 bottom in
      let last = eqb-true line.last (line.first + 0xF) top in
      record {
        performed = λ here.
            let (l, u) = within-is line.first line.last code here in
            let is : class_of code ≡ Class.Literal
            = one_arm code line.first line.last classes Class.Unlisted arms l u ∙ same_class (class_of line.first) Class.Literal class in
            let own : code / 0x10 * 0x10 ≡ line.first = omega arith in
            let out = under 0x80 0xE7 code (omega arith) in
            let other : other_of line xs k s word ≡ v = rw (is_within 0x20 0x6F code (omega arith) (omega arith)) in
            rw is (at_literal line (by_byte line v false _ (no-pair out) (status-only out) other (rw own h)));
      }

  literal-below : v < 0x100
  literal-below = omega arith

  -- AL, NL, TL, LL
  by-literal-plan : {line : Line} → literals line ≡ true → eqb (line.first / 16) 3 ≡ false
      → (let plan = literal_plan_of line.first v in
      Fits 256 plan.p × Fits 256 plan.q × (plan.stores ≡ line.writes) × ((h p q : ℕ) → of_plan plan h p q f ≡ line.gives h p v f)) → OfLine line
  unfolding literal_of
  by-literal-plan {line} t n (p, q, writes, gives) =
      by-literal t (rw n (restated (gives _ _ _) writes (one-performed g f (literal_plan_of line.first v) xs range.size range.bytes a a false p q)))

  -- CL
  by-compare : OfLine (unwritten 0x30 0x3F (λ h p q f. logical_of h (difference_of h p q true).number f))
  unfolding cycle_of literal_of compared_of after_byte_of class_of ranged logical_of kept_of
  by-compare =
      let ra = register_of xs g a in
      let n = (subtract_of ra v true).result in
      let e : n ≡ (difference_of 256 ra v true).number = (byte-same Kind.Subtract ra v true f literal-below).number in
      by-literal refl
      (performed (logical_of 256 (difference_of 256 ra v true).number f) false false g a xs xs f (kept_of n f) n _ false (λ i. no i) (λ i. refl) refl
      (record { number = e; negative = ap (leb 128) e; c4 = refl; c8 = refl; v = refl; c = refl }))

  -- ---- CIB, CDB; F0, F1, F4, F5

  -- Ra gains a number
  abbrev gains_by : ℕ → Bool → Leaves Flags
  gains_by n c = one_cycle_of xs g f (plan_with Kind.Add Operand.A (Operand.Number n) c true) (designators a a) false

  gained : (n : ℕ) (c : Bool) → n < 256
      → Performed (sum_of 256 (register_of xs g a) n c) true false false g a xs (gains_by n c).file f (gains_by n c).back
  gained n c h = one-performed g f (plan_with Kind.Add Operand.A (Operand.Number n) c true) xs range.size range.bytes a a false tt h

  by-gain : {line : Line} (n : ℕ) (c : Bool) → registers line ≡ true → line.writes ≡ true
      → ((q : ℕ) → line.gives 256 (register_of xs g a) q f ≡ sum_of 256 (register_of xs g a) n c) → n < 256
      → ((line.first ≤ code) × (code ≤ line.last) → (within 0x80 0xE7 code ≡ false) × (registers_of xs k s.dal code b a ≡ gains_by n c)) → OfLine line
  by-gain {line} n c t w gives h is =
      by_register line t (λ within.
      let (out, e) = is within in
      rw e
      (by_byte line (other_of line xs k s word) false _ (no-pair out) (status-only out) refl
      (restated (sym (gives _)) (sym w) (gained n c h))))

  cib-is : 0x76 ≤ code → code < 0x77 → registers_of xs k s.dal code b a ≡ stepped_by_of xs g f a 0
  unfolding registers_of codes70_to77_of
  cib-is lo hi = in-arm code _ _ 0 0x76 tt lo (omega arith) ∙ in-arm code _ _ 4 0x76 tt lo hi

  cdb-is : 0x77 ≤ code → code < 0x78 → registers_of xs k s.dal code b a ≡ stepped_by_of xs g f a 255
  unfolding registers_of codes70_to77_of
  cdb-is lo hi = in-arm code _ _ 0 0x77 tt lo (omega arith) ∙ in_rest code _ _ 0x77 tt lo

  gain-is : 0xF0 ≤ code → code < 0xF8 → code / 2 % 2 ≡ 0 → (t : Bool) → eqb (code / 4 % 2) 0 ≡ t
      → registers_of xs k s.dal code b a ≡ gains_by (pick t 1 2) false
  unfolding access_of
  gain-is lo hi bit t e = access-is xs k s.dal code b a lo hi ∙ rw (eq-eqb (code / 2 % 2) 0 bit, e)

  by-cib : OfLine (written 0x76 0x76 (λ h p q f. sum_of h p 0 f.c8))
  unfolding class_of ranged stepped_by_of
  by-cib = by-gain 0 f.c8 refl refl (λ q. refl) (omega arith) (λ (lo, hi). (under 0x80 0xE7 code (omega arith), cib-is lo (omega arith)))

  by-cdb : OfLine (written 0x77 0x77 (λ h p q f. sum_of h p 255 f.c8))
  unfolding class_of ranged stepped_by_of
  by-cdb = by-gain 255 f.c8 refl refl (λ q. refl) (omega arith) (λ (lo, hi). (under 0x80 0xE7 code (omega arith), cdb-is lo (omega arith)))

  -- F0, F1
  by_one : OfLine (written 0xF0 0xF1 (λ h p q f. sum_of h p 1 false))
  unfolding class_of ranged
  by_one =
      by-gain 1 false refl refl (λ q. refl) (omega arith) (λ (lo, hi).
      (above 0x80 0xE7 code (omega arith), gain-is lo (omega arith) (omega arith) true (eq-eqb (code / 4 % 2) 0 (omega arith))))

  -- F4, F5
  by_two : OfLine (written 0xF4 0xF5 (λ h p q f. sum_of h p 2 false))
  unfolding class_of ranged
  by_two =
      by-gain 2 false refl refl (λ q. refl) (omega arith) (λ (lo, hi).
      (above 0x80 0xE7 code (omega arith), gain-is (omega arith) (omega arith) (omega arith) false (ne_eqb (code / 4 % 2) 0 (λ e. omega arith))))

  -- ---- inputs

  input-is : 0xE0 ≤ code → code < 0xE8 → registers_of xs k s.dal code b a ≡ input_of xs g f code s.dal k.bus.m b a
  unfolding registers_of
  input-is lo hi = in-arm code _ _ 2 0xE0 tt lo hi

  abbrev taking : ℕ → Plan
  taking n = plan_with Kind.Move Operand.A (Operand.Number n) false true

  by-input : s.dal < 65536 → OfLine (written 0xE0 0xE7 (λ h p q f. logical_of h q f))
  unfolding input_of class_of ranged
  by-input range-dal =
      let line = written 0xE0 0xE7 (λ h p q f. logical_of h q f) in
      by_register line refl (λ (lo, hi).
      let inside = is_within 0x80 0xE7 code (omega arith) hi in
      let dal = s.dal in
      let other : other_of line xs k s word ≡ pick (word_code code) dal (input_byte dal k.bus.m b)
      = rw (above 0x20 0x6F code (omega arith), is_within 0xE0 0xE7 code lo hi) in
      rw (other, odd_is inside, input-is lo (omega arith)) (go range-dal (eqb (code / 2 % 2) 0) (word_code code) (word-is inside)))
    where
      go : s.dal < 65536 → (t w : Bool) → w ≡ not t
          → let m = pick t (one_cycle_of xs g f (taking (selected_of s.dal k.bus.m b)) (designators a a) (odd code))
          (two_cycles_of xs g f (taking s.dal) (designators a a) (designators (high_of a) (high_of a)) (odd code)) in
          Performed (logical_of (range_of w) (pick w s.dal (input_byte s.dal k.bus.m b)) f) true w (odd code) g a xs m.file f m.back
      go h true true j = no (sym j)
      go h true false j =
          rw (← selected-is s.dal k.bus.m b)
          (one-performed g f (taking (selected_of s.dal k.bus.m b)) xs range.size range.bytes a a (odd code) tt
          (selected-below s.dal k.bus.m b h))
      go h false true j = two-performed g f (taking s.dal) xs range.size range.bytes a a (odd code) tt h (omega arith) (omega arith)
      go h false false j = no j

  -- ---- every line

  pub lines : SampleInRange s → Each OfLine operations
  unfolding ranged class_of literal_plan_of plan_of fits named
  lines h =
      by-literal-plan refl refl (tt, literal-below, refl, (λ h p q. refl)) also
      by-compare also
      by-literal-plan refl refl (tt, literal-below, refl, (λ h p q. refl)) also
      by-literal-plan refl refl (tt, literal-below, refl, (λ h p q. refl)) also
      by-literal-plan refl refl (tt, literal-below, refl, (λ h p q. refl)) also
      by-cib also
      by-cdb also
      by-plan refl refl refl (λ h p q. refl) also
      by-plan refl refl refl (λ h p q. refl) also
      by-plan refl refl refl (λ h p q. refl) also
      by-plan refl refl refl (λ h p q. refl) also
      by-plan refl refl refl (λ h p q. refl) also
      by-plan refl refl refl (λ h p q. refl) also
      by-plan refl refl refl (λ h p q. refl) also
      by-plan refl refl refl (λ h p q. refl) also
      by-plan refl refl refl (λ h p q. refl) also
      by-plan refl refl refl (λ h p q. refl) also
      by-plan refl refl refl (λ h p q. refl) also
      by-plan refl refl refl (λ h p q. refl) also
      by-plan refl refl refl (λ h p q. refl) also
      by-plan refl refl refl (λ h p q. refl) also
      by-plan refl refl refl (λ h p q. refl) also
      by-plan refl refl refl (λ h p q. refl) also
      by-plan refl refl refl (λ h p q. refl) also
      by-plan refl refl refl (λ h p q. refl) also
      by-plan refl refl refl (λ h p q. refl) also
      by-plan refl refl refl (λ h p q. refl) also
      by-plan refl refl refl (λ h p q. refl) also
      by-input h.dal also
      by_one also
      by_two also
      end
