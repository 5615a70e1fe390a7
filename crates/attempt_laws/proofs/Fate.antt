-- Demand 2, first sentence: an attempt is what 01's conditions make it, whole, and shows it by its refusal's number and its request's kind.
-- Assumes nothing.
use Prim.Native.Nat.{ℕ, ◌/◌, ◌<◌}
use mathlib.Core.Path.{◌≡◌, refl, ◌∙◌, sym}
use mathlib.Core.Bool.{Bool, true, false, beq, false≢true}
use mathlib.Core.List.{List}
use native.Mathlib.Omega.{arith}
use lib.Dec.{eqb, eqb→eq, ltb}
use lib.ListN.{length}
use borrow.Author.Tests.{lt-ltb, ltb-true, eqb-false, ne_eqb}
use Rattle.std.specs.Prelude.{Ok, Err}
use Rattle.choose.specs.Ranged.{pick, ranged}
use Rattle.choose.specs.Below.{all_below}
use Rattle.choose.proofs.Table.{below}
use Rattle.code.specs.CodeRows.{class_of, listed, waits_of, options_of}
use Rattle.code.specs.Word.{Apart, top_of, code_of, code_in, operands_in, fields_in, apart_of}
use Rattle.code.specs.declared.Unread.{Unread}
use Rattle.code.specs.declared.Class.{Class}
use Rattle.code.specs.declared.Fields.{Fields}
use Rattle.code.proofs.Words.{is-apart}
use Rattle.code.proofs.Laws.{apart-well-formed}
use Rattle.checks.specs.Checks.{designator_refusal_of, word_refusal_of, held_by, waiting_of}
use Rattle.rows.specs.declared.Outputs.{Outputs}
use Rattle.rows.specs.declared.Row.{Row}
use Rattle.state.specs.Range.{InRange, SampleInRange}
use Rattle.state.specs.declared.Core.{Core}
use Rattle.state.specs.declared.Sample.{Sample}
use Rattle.attempt.specs.Attempt.{executed_of, checked_of, taken_of, fetched_of, reset_of, attempted_of, outputs_of, attempt_of}
use Rattle.attempt_laws.specs.Fate.{Fate, refused, waited, reset, compute-low, completed, no_code, no_option, must_wait}
use Rattle.attempt_laws.specs.Fate.{b_in, word_fate, taken_word, fate_of, EndsAs, seen}
use Rattle.choose.proofs.Choice.{pick-both}
use Rattle.choose.proofs.Tests.{equal-tests}
use Rattle.attempt_laws.proofs.Range.{executed-request}
use Rattle.state.specs.File.{Leaves}
use Rattle.attempt.specs.Outcome.{Outcome}

-- ---- the engine's tables against 01's lists: two tests over the 256 codes, which the checker computes

-- the number by 01's lists
abbrev number_by_lists : ℕ → ℕ → ℕ
number_by_lists code b = pick (no_code code) 6 (pick (no_option code b) 8 0)

-- and by the engine's class and tables
abbrev number_by_tables : Class → ℕ → ℕ → ℕ
number_by_tables Class.Unlisted code b = 6
number_by_tables Class.Jump code b = 0
number_by_tables Class.Conditional code b = 0
number_by_tables Class.Literal code b = 0
number_by_tables Class.Register code b = designator_refusal_of code b

abbrev agree : ℕ → ℕ → Bool
agree code b = eqb (number_by_tables (class_of code) code b) (number_by_lists code b)

-- for every code and b
numbers-equal : (code b : ℕ) → code < 256 → b < 16 → number_by_tables (class_of code) code b ≡ number_by_lists code b
unfolding class_of ranged designator_refusal_of options_of no_code no_option
numbers-equal code b h i =
    eqb→eq (number_by_tables (class_of code) code b) (number_by_lists code b)
    (below 16 (agree code) (below 256 (λ c. all_below 16 (agree c)) tt code h) b i)

-- for every code and lines
waits-equal : (code : ℕ) → code < 256 → (s : Sample) → waiting_of (code_of code) s ≡ must_wait code s.reply s.busy
unfolding waiting_of waits_of code_of class_of ranged must_wait
waits-equal code h s = go s.reply s.busy
  where
    test : Bool → Bool → ℕ → Bool
    test reply busy code = beq (held_by (waits_of (code_of code)) reply busy) (must_wait code reply busy)

    go : (reply busy : Bool) → held_by (waits_of (code_of code)) reply busy ≡ must_wait code reply busy
    go true true = equal-tests _ _ (below 256 (test true true) tt code h)
    go true false = equal-tests _ _ (below 256 (test true false) tt code h)
    go false true = equal-tests _ _ (below 256 (test false true) tt code h)
    go false false = equal-tests _ _ (below 256 (test false false) tt code h)

-- the engine's number of a listed word is that of its class
refusal-in : (c : Class) (word : ℕ) → listed c ≡ true
    → word_refusal_of (code_in c (top_of word)) (operands_in c word) ≡ number_by_tables c (top_of word) (b_in word)
unfolding word_refusal_of operands_in
refusal-in Class.Unlisted word l = absurd (false≢true l)
refusal-in Class.Jump word l = refl
refusal-in Class.Conditional word l = refl
refusal-in Class.Literal word l = refl
refusal-in Class.Register word l = refl

unlisted-in : (c : Class) (code b : ℕ) → listed c ≡ false → number_by_tables c code b ≡ 6
unlisted-in Class.Unlisted code b l = refl
unlisted-in Class.Jump code b l = absurd (false≢true (sym l))
unlisted-in Class.Conditional code b l = absurd (false≢true (sym l))
unlisted-in Class.Literal code b l = absurd (false≢true (sym l))
unlisted-in Class.Register code b l = absurd (false≢true (sym l))

-- the two refusals as one number
by_number : (u q : Bool) (f : Fate)
    → pick u (refused 6) (pick q (refused 8) f)
    ≡ pick (eqb (pick u 6 (pick q 8 0)) 0) f (refused (pick u 6 (pick q 8 0)))
by_number true q f = refl
by_number false true f = refl
by_number false false f = refl

-- ---- each part of an attempt

-- two choices by one test, which each arm may use
pick_known : {A B : Type 0} (P : A → B → Type 0) (t : Bool) (a b : A) (x y : B)
    → (t ≡ true → P a x) → (t ≡ false → P b y) → P (pick t a b) (pick t x y)
pick_known P true a b x y p q = p refl
pick_known P false a b x y p q = q refl

module _ (xs : List ℕ) (k : Core) (s : Sample) (o : Outputs) where
  checked-ends : (word n : ℕ) (t : Bool) (w : Fields) → apart_of word ≡ Ok w → word_refusal_of w.code w.operands ≡ n → waiting_of w.code s ≡ t
      → EndsAs word xs k s o (checked_of xs k w s o) (pick (eqb n 0) (pick t waited completed) (refused n))
  unfolding checked_of
  checked-ends word n t w e p q =
      rw (p, q)
      (pick_known (EndsAs word xs k s o) (eqb n 0) _ _ _ _
      (λ z. pick-both (EndsAs word xs k s o) t _ _ _ _ refl (w, e, refl))
      (λ z. (eqb-false n 0 z, refl)))

  -- a word below 2^22
  word-ends : (word : ℕ) → word < 0x40_0000 → (l : Bool) → listed (class_of (top_of word)) ≡ l
      → (n : ℕ) → number_by_tables (class_of (top_of word)) (top_of word) (b_in word) ≡ n
      → EndsAs word xs k s o (taken_of (pick l (Ok (fields_in (class_of (top_of word)) word)) (Err Unread.Unlisted)) o xs k s)
      (pick (eqb n 0) (pick (must_wait (top_of word) s.reply s.busy) waited completed) (refused n))
  unfolding fields_in code_of
  word-ends word h true l n e =
      checked-ends word n _ (fields_in (class_of (top_of word)) word) (is-apart word h l) (refusal-in (class_of (top_of word)) word l ∙ e)
      (waits-equal (top_of word) (omega arith) s)
  word-ends word h false l n e =
      rw (sym e ∙ unlisted-in (class_of (top_of word)) (top_of word) (b_in word) l) ((λ z. omega arith), refl)

  taken-ends : (word : ℕ) → EndsAs word xs k s o (taken_of (apart_of word) o xs k s) (word_fate word s)
  unfolding apart_of word_fate
  taken-ends word =
      rw (by_number (no_code (top_of word)) (no_option (top_of word) (b_in word)))
      (pick_known (λ (x : Apart) (f : Fate). EndsAs word xs k s o (taken_of x o xs k s) f) (ltb word 0x40_0000) _ _ _ _
      (λ h. word-ends word (ltb-true word 0x40_0000 h) _ refl _ (numbers-equal (top_of word) (b_in word) (omega arith) (omega arith)))
      (λ h. ((λ z. omega arith), refl)))

  attempted-ends : (ws : List ℕ) → EndsAs (taken_word ws k) xs k s o (attempted_of ws o xs k s) (fate_of ws k s)
  unfolding attempted_of fetched_of reset_of fate_of
  attempted-ends ws =
      let P = EndsAs (taken_word ws k) xs k s o in
      pick-both P s.reset _ _ _ _ refl
      (pick-both P s.compute _ _ _ _
      (pick-both P (ltb k.address.lc (length ws / 4)) _ _ _ _ (taken-ends (taken_word ws k)) ((λ z. omega arith), refl))
      refl)

  -- a fate is seen by the refusal's number and the request's kind
  seen-ends : (word : ℕ) → InRange xs k → SampleInRange s → (e : Leaves Outcome) (f : Fate) → EndsAs word xs k s o e f → seen e ≡ f
  unfolding seen ranged executed_of
  seen-ends word h d e (refused n) (z, q) = rw (q, ne_eqb n 0 z)
  seen-ends word h d e waited q = rw q
  seen-ends word h d e reset q = rw q
  seen-ends word h d e compute-low q = rw q
  seen-ends word h d e completed (w, a, q) =
      let request = executed-request xs k s o w h d (apart-well-formed word w a) in
      rw (q, lt-ltb ((executed_of xs k w s o).back.request / 65536) 10 (omega arith))

-- ---- the laws

module _ (ws : List ℕ) (rs : List Row) (xs : List ℕ) (k : Core) (s : Sample) where
  -- an attempt is what 01's conditions make it, whatever is handed in
  pub attempt-fate : EndsAs (taken_word ws k) xs k s (outputs_of ws rs k s) (attempt_of ws rs xs k s) (fate_of ws k s)
  unfolding attempt_of
  attempt-fate = attempted-ends xs k s (outputs_of ws rs k s) ws

  -- and "exactly": what is seen of it is that fate and no other
  pub attempt-seen : InRange xs k → SampleInRange s → seen (attempt_of ws rs xs k s) ≡ fate_of ws k s
  attempt-seen h d = seen-ends xs k s (outputs_of ws rs k s) (taken_word ws k) h d (attempt_of ws rs xs k s) (fate_of ws k s) attempt-fate
