-- For even pairs nothing has changed: the attempt is the one with 01's lookup and its refusal 7. Assumes nothing.
use Prim.Native.Nat.{ℕ, suc, ◌/◌, ◌%◌, ◌<◌, ◌≤◌}
use mathlib.Core.Path.{◌≡◌, refl, ap, sym, ◌∙◌}
use mathlib.Core.Bool.{Bool, true, false, not, ◌&&◌, ◌||◌, beq, false≢true}
use mathlib.Core.List.{List}
use native.Mathlib.Omega.{arith}
use lib.Dec.{T, eqb, ltb}
use lib.ListN.{length}
use borrow.Author.Tests.{ltb-true, ltb-false, lt-ltb, eqb-false}
use Rattle.std.specs.Prelude.{Ok, Err}
use Rattle.alu.specs.declared.Flags.{Flags}
use Rattle.attempt.specs.Attempt.{executed_of, checked_of, taken_of, fetched_of, attempted_of, outputs_of, attempt_of}
use Rattle.attempt.specs.Effect.{register_effect, effect_of}
use Rattle.attempt_laws.specs.Fate.{within, odd, two_cycle, input_word, b_in, a_in, taken_word, ends}
use Rattle.checks.specs.Checks.{designator_refusal_of, word_refusal_of}
use Rattle.choose.proofs.Choice.{pick_all}
use Rattle.choose.proofs.Table.{below}
use Rattle.choose.proofs.Tests.{both_left, both_right, equal-tests, holds}
use Rattle.choose.specs.Ranged.{pick, ranged}
use Rattle.code.proofs.Shape.{same_class}
use Rattle.code.proofs.Words.{is-apart}
use Rattle.code.specs.CodeRows.{class_of, listed}
use Rattle.code.specs.Word.{Apart, top_of, code_in, operands_in, fields_in, apart_of, same}
use Rattle.code.specs.declared.Unread.{Unread}
use Rattle.code.specs.declared.Class.{Class}
use Rattle.code.specs.declared.Operands.{Operands}
use Rattle.execute.specs.Execute.{operation_of, conditioned_of, input_of, registers_of}
use Rattle.plan.specs.Plan.{condition_met}
use Rattle.rows.specs.declared.Outputs.{Outputs}
use Rattle.rows.specs.declared.Row.{Row}
use Rattle.state.proofs.Pairs.{high-of-even}
use Rattle.state.specs.File.{Leaves, leaves, high_of}
use Rattle.state.specs.declared.Core.{Core}
use Rattle.state.specs.declared.Sample.{Sample}
use Rattle.table_laws.proofs.Fates.{otherwise}
use Rattle.table_laws.proofs.Lines.{is_within}
use Rattle.pairs.specs.Before.{registers_by, effect_by, taken_by, attempt_by, next_of, odd_pair, refusal_before, rmw_now, attempt_before, EvenPairs}

-- ---- the definition with the engine's own lookup and refusal is the engine's

own-effect : (xs : List ℕ) (k : Core) (code : ℕ) (o : Operands) (s : Sample) → effect_by high_of word_refusal_of rmw_now xs k code o s ≡ effect_of xs k code o s
unfolding effect_of register_effect registers_of conditioned_of operation_of input_of
own-effect xs k code (Operands.Jump n) s = refl
own-effect xs k code (Operands.Literal v a) s = refl
own-effect xs k code (Operands.Two b a) s = refl

own-taken : (x : Apart) (o : Outputs) (xs : List ℕ) (k : Core) (s : Sample) → taken_by high_of word_refusal_of rmw_now x o xs k s ≡ taken_of x o xs k s
unfolding checked_of executed_of
own-taken (Ok w) o xs k s = rw (own-effect xs k w.code w.operands s)
own-taken (Err Unread.OutOfRange) o xs k s = refl
own-taken (Err Unread.Unlisted) o xs k s = refl

pub own-attempt : (ws : List ℕ) (rs : List Row) (xs : List ℕ) (k : Core) (s : Sample)
    → attempt_by high_of word_refusal_of rmw_now ws rs xs k s ≡ attempt_of ws rs xs k s
unfolding attempt_of attempted_of fetched_of
own-attempt ws rs xs k s = rw (own-taken)

-- ---- the old lookup finds the same high byte of an even designator

same-high : (d : ℕ) → d < 16 → d % 2 ≡ 0 → next_of d ≡ high_of d
same-high d h e = let next : next_of d ≡ suc d = omega arith in next ∙ sym (high-of-even d e h)

is-even : (d : ℕ) → odd d ≡ false → d % 2 ≡ 0
is-even d e = omega (arith, eqb-false (d % 2) 1 e)

-- 01's test of refusal 7 passed: a is even where the word has a pair, and b where it has two
tested : (two input a b : Bool) → (two && (a || b)) || (input && a) ≡ false → (two ≡ true → (a ≡ false) × (b ≡ false)) × (input ≡ true → a ≡ false)
tested true true false false e = ((λ h. (refl, refl)), (λ h. refl))
tested true false false false e = ((λ h. (refl, refl)), (λ h. refl))
tested true input true b e = absurd (false≢true (sym e))
tested true input false true e = absurd (false≢true (sym e))
tested false true false b e = ((λ h. absurd (false≢true h)), (λ h. refl))
tested false true true b e = absurd (false≢true (sym e))
tested false false a b e = ((λ h. absurd (false≢true h)), (λ h. absurd (false≢true h)))

-- the word codes among the register codes 80-E7, by bit 1: a test that antt computes over the codes
abbrev is_word : ℕ → Bool
is_word code = not (eqb (code / 2 % 2) 0)

word-codes : (code : ℕ) → code < 0x100 → class_of code ≡ Class.Register
    → (within 0x80 0xDF code && is_word code ≡ two_cycle code) × (within 0xE0 0xE7 code && is_word code ≡ input_word code)
unfolding class_of ranged
word-codes code h register =
    let two : ℕ → Bool = λ x. beq (within 0x80 0xDF x && is_word x) (two_cycle x) in
    let input : ℕ → Bool = λ x. beq (within 0xE0 0xE7 x && is_word x) (input_word x) in
    let t : T (two code && input code)
    = rw register at (below 0x100 (λ x. pick (same (class_of x) Class.Register) (two x && input x) true) tt code h) in
    (equal-tests _ _ (both_left (two code) (input code) t), equal-tests _ _ (both_right (two code) (input code) t))

-- three choices, of which the second and the third may give other things by their own tests
second-or-third : {A : Type 0} (x y z : Bool) (p q q' r r' rest : A) → (x ≡ false → y ≡ true → q ≡ q') → (y ≡ false → z ≡ true → r ≡ r')
    → pick x p (pick y q (pick z r rest)) ≡ pick x p (pick y q' (pick z r' rest))
second-or-third true y z p q q' r r' rest second third = refl
second-or-third false true z p q q' r r' rest second third = second refl refl
second-or-third false false true p q q' r r' rest second third = third refl refl
second-or-third false false false p q q' r r' rest second third = refl

module _ (xs : List ℕ) (k : Core) (dal code b a : ℕ) (h : code < 0x100) (hb : b < 16) (ha : a < 16) (register : class_of code ≡ Class.Register)
    (passed : odd_pair code b a ≡ false) where
  -- the designators that are looked up are even
  two-even : 0x80 ≤ code → code < 0xE0 → eqb (code / 2 % 2) 0 ≡ false → (next_of a ≡ high_of a) × (next_of b ≡ high_of b)
  unfolding odd_pair
  two-even lo hi e =
      let two : two_cycle code ≡ true = sym (word-codes code h register).0 ∙ rw (is_within 0x80 0xDF code lo (omega arith), e) in
      let (ea, eb) = (tested (two_cycle code) (input_word code) (odd a) (odd b) passed).0 two in
      (same-high a ha (is-even a ea), same-high b hb (is-even b eb))

  input-even : 0xE0 ≤ code → code < 0xE8 → eqb (code / 2 % 2) 0 ≡ false → next_of a ≡ high_of a
  unfolding odd_pair
  input-even lo hi e =
      let input : input_word code ≡ true = sym (word-codes code h register).1 ∙ rw (is_within 0xE0 0xE7 code lo (omega arith), e) in
      same-high a ha (is-even a ((tested (two_cycle code) (input_word code) (odd a) (odd b) passed).1 input))

  same-registers : registers_by next_of refusal_before rmw_now xs k dal code b a ≡ registers_of xs k dal code b a
  unfolding registers_of conditioned_of operation_of input_of ranged
  same-registers =
      second-or-third (ltb code 0x80) (ltb code 0xE0) (ltb code 0xE8) _ _ _ _ _ _
      (λ x y.
      ap (λ (m : Leaves Flags). pick (condition_met code k.flags.c k.latches.ics) m (leaves xs k.flags))
      (otherwise (eqb (code / 2 % 2) 0) _ _ _ (λ e.
      let (la, lb) = two-even (ltb-false code 0x80 x) (ltb-true code 0xE0 y) e in
      rw (la, lb))))
      (λ y z. otherwise (eqb (code / 2 % 2) 0) _ _ _ (λ e. rw (input-even (ltb-false code 0xE0 y) (ltb-true code 0xE8 z) e)))

-- ---- so the attempt is the old one

-- of operands: only two designators are asked
abbrev Passed : ℕ → Operands → Type 0
Passed code (Operands.Jump n) = Unit {0}
Passed code (Operands.Literal v r) = Unit {0}
Passed code (Operands.Two b a) = odd_pair code b a ≡ false

same-refusal : (code : ℕ) (o : Operands) → Passed code o → refusal_before code o ≡ word_refusal_of code o
unfolding word_refusal_of designator_refusal_of
same-refusal code (Operands.Jump n) e = refl
same-refusal code (Operands.Literal v r) e = refl
same-refusal code (Operands.Two b a) e = rw e

module _ (xs : List ℕ) (k : Core) (s : Sample) (o : Outputs) (word : ℕ) (even : EvenPairs word) where
  abbrev code : Class → ℕ
  code c = code_in c (top_of word)

  has-passed : (c : Class) → Passed (code c) (operands_in c word)
  unfolding operands_in
  has-passed Class.Unlisted = tt
  has-passed Class.Jump = tt
  has-passed Class.Conditional = tt
  has-passed Class.Literal = tt
  has-passed Class.Register = even

  same_effect : (c : Class) → class_of (top_of word) ≡ c
      → effect_by next_of refusal_before rmw_now xs k (code c) (operands_in c word) s ≡ effect_of xs k (code c) (operands_in c word) s
  unfolding operands_in effect_of register_effect
  same_effect Class.Unlisted q = refl
  same_effect Class.Jump q = refl
  same_effect Class.Conditional q = refl
  same_effect Class.Literal q = refl
  same_effect Class.Register q =
      rw (same-registers xs k s.dal (top_of word) (b_in word) (a_in word) (omega arith) (omega arith) (omega arith) q even)

  same_word : (c : Class) → class_of (top_of word) ≡ c
      → taken_by next_of refusal_before rmw_now (Ok (fields_in c word)) o xs k s ≡ taken_of (Ok (fields_in c word)) o xs k s
  unfolding fields_in checked_of executed_of
  same_word c q = rw (same-refusal (code c) (operands_in c word) (has-passed c), same_effect c q)

  same_taken : taken_by next_of refusal_before rmw_now (apart_of word) o xs k s ≡ taken_of (apart_of word) o xs k s
  unfolding apart_of
  same_taken =
      let Same : Apart → Type 0 = λ x. taken_by next_of refusal_before rmw_now x o xs k s ≡ taken_of x o xs k s in
      pick_all Same (ltb word 0x40_0000) _ _ (pick_all Same (listed (class_of (top_of word))) _ _ (same_word (class_of (top_of word)) refl) refl) refl

-- the attempt of a word with even pairs, or with none, is the one of before
pub even-as-before : (ws : List ℕ) (rs : List Row) (xs : List ℕ) (k : Core) (s : Sample) → EvenPairs (taken_word ws k)
    → attempt_of ws rs xs k s ≡ attempt_before ws rs xs k s
unfolding attempt_of attempted_of fetched_of
even-as-before ws rs xs k s even = rw (same_taken xs k s (outputs_of ws rs k s) (taken_word ws k) even)

-- ---- which words these are

-- those with even designators
pub even-passes : (word : ℕ) → a_in word % 2 ≡ 0 → b_in word % 2 ≡ 0 → EvenPairs word
unfolding odd_pair
even-passes word ea eb = rw (ea, eb) (go (two_cycle (top_of word)) (input_word (top_of word)))
  where
    go : (two input : Bool) → (two && false) || (input && false) ≡ false
    go true true = refl
    go true false = refl
    go false true = refl
    go false false = refl

-- and those without pairs
pub no-pair-passes : (word : ℕ) → two_cycle (top_of word) ≡ false → input_word (top_of word) ≡ false → EvenPairs word
unfolding odd_pair
no-pair-passes word two input = rw (two, input)

-- a word with a pair is a listed one with two designators, and not AC
pair-codes : (code : ℕ) → code < 0x100 → two_cycle code || input_word code ≡ true → (class_of code ≡ Class.Register) × (eqb code 0xAC ≡ false)
unfolding class_of ranged
pair-codes code h e =
    let register : ℕ → Bool = λ x. same (class_of x) Class.Register in
    let t : T (register code && not (eqb code 0xAC))
    = rw e at (below 0x100 (λ x. pick (two_cycle x || input_word x) (register x && not (eqb x 0xAC)) true) tt code h) in (
      same_class (class_of code) Class.Register (holds _ (both_left (register code) (not (eqb code 0xAC)) t)),
      go (eqb code 0xAC) (both_right (register code) (not (eqb code 0xAC)) t),
    )
  where
    go : (u : Bool) → T (not u) → u ≡ false
    go true t = absurd t
    go false t = refl

has-pair : (two input a b : Bool) → (two && (a || b)) || (input && a) ≡ true → two || input ≡ true
has-pair true input a b e = refl
has-pair false true a b e = refl
has-pair false false a b e = e

-- every other was refused with 7, where it was taken
pub odd-before : (ws : List ℕ) (rs : List Row) (xs : List ℕ) (k : Core) (s : Sample) → s.reset ≡ false → s.compute ≡ true
    → k.address.lc < length ws / 4 → taken_word ws k < 0x40_0000
    → (let word = taken_word ws k in odd_pair (top_of word) (b_in word) (a_in word) ≡ true) → attempt_before ws rs xs k s ≡ ends xs k 0 0 7
unfolding fields_in operands_in odd_pair
odd-before ws rs xs k s reset compute lc below odd-pair =
    let word = taken_word ws k in
    let pair = has-pair (two_cycle (top_of word)) (input_word (top_of word)) (odd (a_in word)) (odd (b_in word)) odd-pair in
    let (register, not-ac) = pair-codes (top_of word) (omega arith) pair in
    rw (reset, compute, lt-ltb _ _ lc, is-apart word below (rw register), register, not-ac, odd-pair)
