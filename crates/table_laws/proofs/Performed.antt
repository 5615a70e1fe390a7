-- One cycle, and the two of a word, on the register file: they leave the plan's result in Ra, or in the pair, and in the flags. Assumes nothing.
use Prim.Native.Nat.{ℕ, ◌+◌, ◌*◌, ◌<◌}
use mathlib.Core.Path.{◌≡◌, refl, ap, ap₂, sym, ◌∙◌}
use mathlib.Core.Bool.{Bool, true, false, not, ◌&&◌, and_comm}
use mathlib.Core.List.{List}
use native.Mathlib.Nat.{mod-eq_of_lt}
use native.Mathlib.Omega.{arith}
use lib.Dec.{eqb}
use lib.ListN.{length}
use borrow.Author.Tests.{eq-eqb, ne_eqb, eqb-true, eqb-false}
use Rattle.alu.specs.Cycle.{cycle_of, high_first_of}
use Rattle.alu.specs.Marks.{after_of, after_byte_of, after_word_of}
use Rattle.alu.specs.declared.Cycle.{Cycle}
use Rattle.alu.specs.declared.Flags.{Flags}
use Rattle.attempt_laws.proofs.Files.{FileInRange, cycle-byte, register-byte, written-in-range}
use Rattle.choose.proofs.Choice.{pick_all}
use Rattle.choose.specs.Ranged.{pick}
use Rattle.cycles.specs.Cycles.{operand_of, step_of, one_cycle_of, one_then_other, two_cycles_of}
use Rattle.cycles.specs.declared.Designators.{Designators}
use Rattle.cycles.specs.declared.Operand.{Operand}
use Rattle.cycles.specs.declared.Plan.{Plan}
use Rattle.execute.specs.Execute.{designators}
use Rattle.numbers.proofs.Laws.{byte-below}
use Rattle.numbers.specs.Numbers.{Bytes}
use Rattle.state.proofs.Laws.{written-length, written_same, written-other}
use Rattle.state.proofs.Pairs.{high-inverts, two-registers}
use Rattle.state.specs.File.{Leaves, slot_of, high_of, register_of, written_of}
use Rattle.state.specs.Pairs.{inverted}
use Rattle.table_laws.specs.Operations.{Result, Line}
use Rattle.table_laws.specs.Set.{number_in, Performed, pair_found}
use Rattle.table_laws.proofs.Arithmetic.{of_kind, Shows, Same, Joined, byte-same, low-first-joined, high-first-joined}

-- ---- the flags

module _ (r : Result) (writes word : Bool) (g a : ℕ) (xs ys : List ℕ) (f : Flags) (y : Cycle) (n : ℕ) (zero : Bool) where
  pub performed : (odd : Bool) → (writes ≡ true → number_in word ys g a ≡ n) → (writes ≡ false → ys ≡ xs) → zero ≡ eqb n 0 → Shows r n y
      → Performed r writes word odd g a xs ys f (after_of f y zero odd)
  unfolding after_of
  performed true w u e h =
      let z = e ∙ ap (λ m. eqb m 0) h.number in
      record {
        stored = λ i. w i ∙ h.number;
        unwritten = u;
        nb = h.negative;
        zb = z;
        c4 = h.c4;
        c8 = h.c8;
        n = h.negative;
        z = z;
        v = h.v;
        c = h.c;
      }
  performed false w u e h =
      record {
        stored = λ i. w i ∙ h.number;
        unwritten = u;
        nb = h.negative;
        zb = e ∙ ap (λ m. eqb m 0) h.number;
        c4 = h.c4;
        c8 = h.c8;
        n = refl;
        z = refl;
        v = refl;
        c = refl;
      }

-- "ZB and Z see both bytes"
both_zero : (low high : ℕ) → eqb low 0 && eqb high 0 ≡ eqb (low + 256 * high) 0
both_zero low high = go (eqb low 0) refl (eqb high 0) refl
  where
    go : (s : Bool) → eqb low 0 ≡ s → (t : Bool) → eqb high 0 ≡ t → s && t ≡ eqb (low + 256 * high) 0
    go true p true q = sym (eq-eqb (low + 256 * high) 0 (omega (arith, eqb-true low 0 p, eqb-true high 0 q)))
    go true p false q = sym (ne_eqb (low + 256 * high) 0 (λ e. eqb-false high 0 q (omega arith)))
    go false p t q = sym (ne_eqb (low + 256 * high) 0 (λ e. eqb-false low 0 p (omega arith)))

-- ---- the operands

-- Ra, Rb or a number, of whole numbers
abbrev pub chosen : Operand → ℕ → ℕ → ℕ
chosen Operand.A p q = p
chosen Operand.B p q = q
chosen (Operand.Number n) p q = n

abbrev pub Fits : ℕ → Operand → Type 0
Fits h Operand.A = Unit {0}
Fits h Operand.B = Unit {0}
Fits h (Operand.Number n) = n < h

operand-byte : (o : Operand) (p q : ℕ) → Fits 256 o → operand_of o p q false ≡ chosen o p q
unfolding operand_of
operand-byte Operand.A p q h = refl
operand-byte Operand.B p q h = refl
operand-byte (Operand.Number n) p q h = mod-eq_of_lt h

chosen-below : (o : Operand) (p q : ℕ) → p < 256 → q < 256 → Fits 256 o → chosen o p q < 256
chosen-below Operand.A p q hp hq h = hp
chosen-below Operand.B p q hp hq h = hq
chosen-below (Operand.Number n) p q hp hq h = h

operand-word : (o : Operand) (p₀ p₁ q₀ q₁ : ℕ) → operand_of o p₀ q₀ false + 256 * operand_of o p₁ q₁ true ≡ chosen o (p₀ + 256 * p₁) (q₀ + 256 * q₁)
unfolding operand_of
operand-word Operand.A p₀ p₁ q₀ q₁ = refl
operand-word Operand.B p₀ p₁ q₀ q₁ = refl
operand-word (Operand.Number n) p₀ p₁ q₀ q₁ = omega arith

operand_below : (o : Operand) (p q : ℕ) (high : Bool) → p < 256 → q < 256 → Fits 65536 o → operand_of o p q high < 256
unfolding operand_of
operand_below Operand.A p q high hp hq h = hp
operand_below Operand.B p q high hp hq h = hq
operand_below (Operand.Number n) p q true hp hq h = omega arith
operand_below (Operand.Number n) p q false hp hq h = omega arith

-- no number, which has a low byte and a high one
abbrev pub Named : Operand → Type 0
Named Operand.A = Unit {0}
Named Operand.B = Unit {0}
Named (Operand.Number n) = ⊥

operand-named : (o : Operand) (p q : ℕ) (high : Bool) → Named o → operand_of o p q high ≡ chosen o p q
unfolding operand_of
operand-named Operand.A p q high h = refl
operand-named Operand.B p q high h = refl
operand-named (Operand.Number n) p q high h = absurd h

-- what a plan does to whole numbers
abbrev pub of_plan : Plan → ℕ → ℕ → ℕ → Flags → Result
of_plan plan h p q f = of_kind plan.kind h (chosen plan.p p q) (chosen plan.q p q) plan.carry f

-- as a line of its own, of no codes
abbrev pub line_of : Plan → Line
line_of plan = record { first = 1; last = 0; writes = plan.stores; gives = of_plan plan }

-- ---- the cycles

pub register-below : (g : ℕ) (xs : List ℕ) → Bytes xs → (d : ℕ) → register_of xs g d < 256
unfolding register_of
register-below g xs h d = byte-below xs h (slot_of g d)

module _ (g : ℕ) (f : Flags) (plan : Plan) where
  abbrev step_at : List ℕ → Designators → Bool → Bool → Cycle
  step_at xs at carry high = (step_of xs g f plan at carry high).back

  -- the cycle of a step is that of its registers
  step_is : (xs : List ℕ) (at : Designators) (carry high : Bool) (p q : ℕ) → register_of xs g at.a ≡ p → register_of xs g at.b ≡ q
      → step_at xs at carry high ≡ cycle_of plan.kind (operand_of plan.p p q high) (operand_of plan.q p q high) carry f
  unfolding step_of
  step_is xs at carry high p q i j = rw (i, j)

  step-written : (xs : List ℕ) (at : Designators) (carry high : Bool) → plan.stores ≡ true
      → (step_of xs g f plan at carry high).file ≡ written_of xs g at.a (step_at xs at carry high).result
  unfolding step_of
  step-written xs at carry high e = rw e

  step-unwritten : (xs : List ℕ) (at : Designators) (carry high : Bool) → plan.stores ≡ false → (step_of xs g f plan at carry high).file ≡ xs
  unfolding step_of
  step-unwritten xs at carry high e = rw e

  step-size : (xs : List ℕ) (at : Designators) (carry high : Bool) → length xs ≡ 26 → length (step_of xs g f plan at carry high).file ≡ 26
  unfolding step_of
  step-size xs at carry high size =
      pick_all (λ (ys : List ℕ). length ys ≡ 26) plan.stores _ _ (written-length xs g at.a _ ∙ size) size

  -- the register named holds what the cycle gave
  step-holds : (xs : List ℕ) (at : Designators) (carry high : Bool) → length xs ≡ 26 → plan.stores ≡ true
      → register_of (step_of xs g f plan at carry high).file g at.a ≡ (step_at xs at carry high).result
  step-holds xs at carry high size e = rw (step-written xs at carry high e) (written_same xs g at.a _ size)

  -- and every other what it held
  step-leaves : (xs : List ℕ) (at : Designators) (carry high : Bool) (d : ℕ) → (slot_of g d ≡ slot_of g at.a → ⊥)
      → register_of (step_of xs g f plan at carry high).file g d ≡ register_of xs g d
  unfolding step_of register_of
  step-leaves xs at carry high d n =
      pick_all (λ (ys : List ℕ). register_of ys g d ≡ register_of xs g d) plan.stores _ _ (written-other xs g at.a _ (slot_of g d) n) refl

  -- the byte that a cycle leaves is that of the plan's byte form
  step-file : (xs : List ℕ) (at : Designators) (high : Bool) → Bytes xs
      → let p = register_of xs g at.a in
      let q = register_of xs g at.b in
      operand_of plan.p p q high ≡ chosen plan.p p q → operand_of plan.q p q high ≡ chosen plan.q p q → Fits 256 plan.q
      → (step_of xs g f plan at plan.carry high).file ≡ pick plan.stores (written_of xs g at.a (of_plan plan 256 p q f).number) xs
  unfolding step_of
  step-file xs at high bytes ep eq fq =
      let p = register_of xs g at.a in
      let q = register_of xs g at.b in
      let l = chosen-below plan.q p q (register-below g xs bytes at.a) (register-below g xs bytes at.b) fq in
      rw (ep, eq, (byte-same plan.kind (chosen plan.p p q) (chosen plan.q p q) plan.carry f l).number)

  -- and a byte it is
  step-below : (xs : List ℕ) → length xs ≡ 26 → Bytes xs → (at : Designators) (carry high : Bool) → Fits 65536 plan.p → Fits 65536 plan.q
      → (d : ℕ) → register_of (step_of xs g f plan at carry high).file g d < 256
  unfolding step_of
  step-below xs size bytes at carry high fp fq d =
      let range : FileInRange xs = record { size = size; bytes = byte-below xs bytes } in
      let p = operand_below plan.p _ _ high (register-below g xs bytes at.a) (register-below g xs bytes at.b) fp in
      let q = operand_below plan.q _ _ high (register-below g xs bytes at.a) (register-below g xs bytes at.b) fq in
      pick_all (λ (ys : List ℕ). register_of ys g d < 256) plan.stores _ _
      (register-byte _ g d (written-in-range xs g at.a _ range (cycle-byte plan.kind _ _ carry f p q)))
      (register-below g xs bytes d)

  -- two cycles, the second on another register than the first, which it may read
  module _ (xs : List ℕ) (size : length xs ≡ 26) (one other : Designators) (high : Bool) (na : slot_of g other.a ≡ slot_of g one.a → ⊥) where
    abbrev first_step : Leaves Cycle
    first_step = step_of xs g f plan one plan.carry high

    abbrev second_step : Leaves Cycle
    second_step = step_of first_step.file g f plan other first_step.back.c8 (not high)

    second_is : let p = register_of xs g other.a in
        let q = register_of first_step.file g other.b in
        second_step.back ≡ cycle_of plan.kind (operand_of plan.p p q (not high)) (operand_of plan.q p q (not high)) first_step.back.c8 f
    second_is =
        step_is first_step.file other first_step.back.c8 (not high) _ _
        (step-leaves xs one plan.carry high other.a na)
        refl

    first-held : plan.stores ≡ true → register_of second_step.file g one.a ≡ first_step.back.result
    first-held e =
        step-leaves first_step.file other first_step.back.c8 (not high) one.a (λ h. na (sym h))
        ∙ step-holds xs one plan.carry high size e

    second-held : plan.stores ≡ true → register_of second_step.file g other.a ≡ second_step.back.result
    second-held = step-holds first_step.file other first_step.back.c8 (not high) (step-size xs one plan.carry high size)

    both-unwritten : plan.stores ≡ false → second_step.file ≡ xs
    both-unwritten e = step-unwritten first_step.file other first_step.back.c8 (not high) e ∙ step-unwritten xs one plan.carry high e

  -- the two cycles of bytes, as they are found, are the plan of their numbers
  module _ (p₀ p₁ q₀ q₁ : ℕ) (hp₀ : p₀ < 256) (hp₁ : p₁ < 256) (hq₀ : q₀ < 256) (hq₁ : q₁ < 256)
      (fp : Fits 65536 plan.p) (fq : Fits 65536 plan.q) where
    abbrev byte_of : Operand → Bool → ℕ
    byte_of o t = operand_of o (pick t p₁ p₀) (pick t q₁ q₀) t

    abbrev cycle : Bool → Bool → Cycle
    cycle t carry = cycle_of plan.kind (byte_of plan.p t) (byte_of plan.q t) carry f

    byte-of-below : (o : Operand) (t : Bool) → Fits 65536 o → byte_of o t < 256
    byte-of-below o true = operand_below o p₁ q₁ true hp₁ hq₁
    byte-of-below o false = operand_below o p₀ q₀ false hp₀ hq₀

    abbrev Both : Cycle → Cycle → Cycle → Type 0
    Both = Joined (of_plan plan 65536 (p₀ + 256 * p₁) (q₀ + 256 * q₁) f)

    low-joined : high_first_of plan.kind ≡ false
        → let first = cycle false plan.carry in
        let second = cycle true first.c8 in
        Both first second second
    low-joined e =
        rw (operand-word plan.p p₀ p₁ q₀ q₁, operand-word plan.q p₀ p₁ q₀ q₁) at
        (low-first-joined (byte_of plan.p false) (byte_of plan.p true) (byte_of plan.q false) (byte_of plan.q true) plan.carry f
        (byte-of-below plan.p false fp) (byte-of-below plan.p true fp) (byte-of-below plan.q false fq) (byte-of-below plan.q true fq)
        plan.kind e)

    high-joined : high_first_of plan.kind ≡ true
        → let first = cycle true plan.carry in
        let second = cycle false first.c8 in
        Both second first second
    high-joined e =
        rw (operand-word plan.p p₀ p₁ q₀ q₁, operand-word plan.q p₀ p₁ q₀ q₁) at
        (high-first-joined (byte_of plan.p false) (byte_of plan.p true) (byte_of plan.q false) (byte_of plan.q true) plan.carry f
        (byte-of-below plan.p false fp) (byte-of-below plan.p true fp) (byte-of-below plan.q false fq) (byte-of-below plan.q true fq)
        plan.kind e)

  module _ (xs : List ℕ) (size : length xs ≡ 26) (bytes : Bytes xs) (a b : ℕ) (odd : Bool) where
    pub one-performed : Fits 256 plan.p → Fits 256 plan.q
        → let m = one_cycle_of xs g f plan (designators a b) odd in
        Performed (of_plan plan 256 (register_of xs g a) (register_of xs g b) f) plan.stores false odd g a xs m.file f m.back
    unfolding one_cycle_of after_byte_of
    one-performed fp fq =
        let at = designators a b in
        let p = register_of xs g a in
        let q = register_of xs g b in
        let l = chosen-below plan.q p q (register-below g xs bytes a) (register-below g xs bytes b) fq in
        let same : Same (of_plan plan 256 p q f) (step_at xs at plan.carry false)
        = rw (step_is xs at plan.carry false p q refl refl, operand-byte plan.p p q fp, operand-byte plan.q p q fq)
        (byte-same plan.kind (chosen plan.p p q) (chosen plan.q p q) plan.carry f l) in
        performed _ plan.stores false g a xs _ f (step_at xs at plan.carry false) _ _ odd
        (step-holds xs at plan.carry false size)
        (step-unwritten xs at plan.carry false)
        refl
        same

    module _ (fp : Fits 65536 plan.p) (fq : Fits 65536 plan.q) where
      abbrev low : Designators
      low = designators a b

      abbrev high : Designators
      high = designators (inverted a) (inverted b)

      -- the registers after the first cycle, the high byte's or the low one's
      abbrev left : Bool → List ℕ
      left t = (step_of xs g f plan (pick t high low) plan.carry t).file

      -- Rb's pair as the two cycles find it, the high byte first or the low one
      abbrev found : Bool → ℕ
      found t =
          pick t (register_of (left true) g b + 256 * register_of xs g (inverted b)) (register_of xs g b + 256 * register_of (left false) g (inverted b))

      abbrev WordPerformed : Bool → Leaves Flags → Type 0
      WordPerformed t m =
          Performed (of_plan plan 65536 (number_in true xs g a) (found t) f) plan.stores true odd g a xs m.file f m.back

      in-xs : (d : ℕ) → register_of xs g d < 256
      in-xs = register-below g xs bytes

      in_left : (t : Bool) (d : ℕ) → register_of (left t) g d < 256
      in_left t = step-below xs size bytes (pick t high low) plan.carry t fp fq

      low_first : high_first_of plan.kind ≡ false → WordPerformed false (one_then_other xs g f plan low high false odd)
      unfolding after_word_of
      low_first e =
          let first = step_of xs g f plan low plan.carry false in
          let second = step_of first.file g f plan high first.back.c8 true in
          let na = two-registers g a in
          let joined : Joined (of_plan plan 65536 (number_in true xs g a) (found false) f) first.back second.back second.back
          = rw (second_is xs size low high false na, step_is xs low plan.carry false _ _ refl refl)
          (low-joined _ _ _ _ (in-xs a) (in-xs (inverted a)) (in-xs b) (in_left false (inverted b)) fp fq e) in
          performed _ plan.stores true g a xs _ f second.back _ _ odd
          (λ i. ap₂ (λ m n. m + 256 * n) (first-held xs size low high false na i) (second-held xs size low high false na i))
          (both-unwritten xs size low high false na)
          (both_zero first.back.result second.back.result)
          joined

      -- "Right shifts go high byte first"
      high-first : high_first_of plan.kind ≡ true → WordPerformed true (one_then_other xs g f plan high low true odd)
      unfolding after_word_of
      high-first e =
          let first = step_of xs g f plan high plan.carry true in
          let second = step_of first.file g f plan low first.back.c8 false in
          let na : slot_of g a ≡ slot_of g (inverted a) → ⊥ = λ h. two-registers g a (sym h) in
          let joined : Joined (of_plan plan 65536 (number_in true xs g a) (found true) f) second.back first.back second.back
          = rw (second_is xs size high low true na, step_is xs high plan.carry true _ _ refl refl)
          (high-joined _ _ _ _ (in-xs a) (in-xs (inverted a)) (in_left true b) (in-xs (inverted b)) fp fq e) in
          performed _ plan.stores true g a xs _ f second.back _ _ odd
          (λ i. ap₂ (λ m n. m + 256 * n) (second-held xs size high low true na i) (first-held xs size high low true na i))
          (both-unwritten xs size high low true na)
          (and_comm (eqb first.back.result 0) (eqb second.back.result 0) ∙ both_zero second.back.result first.back.result)
          joined

      pub two-performed : a < 16 → b < 16
          → WordPerformed (high_first_of plan.kind) (two_cycles_of xs g f plan low (designators (high_of a) (high_of b)) odd)
      unfolding two_cycles_of
      two-performed ha hb = rw (high-inverts a ha, high-inverts b hb) (go (high_first_of plan.kind) refl)
        where
          go : (t : Bool) → high_first_of plan.kind ≡ t
              → WordPerformed t (pick t (one_then_other xs g f plan high low true odd) (one_then_other xs g f plan low high false odd))
          go true e = high-first e
          go false e = low_first e

      -- and what they find is by the plan's own byte form
      found-is : (t : Bool) → Fits 256 plan.p → Fits 256 plan.q → (t ≡ true → Named plan.p × Named plan.q)
          → found t ≡ pair_found (line_of plan) t xs g f b a
      found-is true p q named =
          let (np, nq) = named refl in
          ap (λ ys. register_of ys g b + 256 * register_of xs g (inverted b))
          (step-file xs high true bytes (operand-named plan.p _ _ true np) (operand-named plan.q _ _ true nq) q)
      found-is false p q named =
          ap (λ ys. register_of xs g b + 256 * register_of ys g (inverted b))
          (step-file xs low false bytes (operand-byte plan.p _ _ p) (operand-byte plan.q _ _ q) q)

      pub pair-performed : Fits 256 plan.p → Fits 256 plan.q → (high_first_of plan.kind ≡ true → Named plan.p × Named plan.q)
          → a < 16 → b < 16
          → let m = two_cycles_of xs g f plan low (designators (high_of a) (high_of b)) odd in
          let q = pair_found (line_of plan) (high_first_of plan.kind) xs g f b a in
          Performed (of_plan plan 65536 (number_in true xs g a) q f) plan.stores true odd g a xs m.file f m.back
      pair-performed p q named ha hb = rw (← found-is (high_first_of plan.kind) p q named) (two-performed ha hb)
