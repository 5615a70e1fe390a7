-- The table's other columns hold of attempts: the microcycles of each, and the fate of each word by its row alone. Assumes nothing.
use Prim.Native.Nat.{ℕ, ◌<◌}
use mathlib.Core.Path.{◌≡◌, refl, ap, ◌∙◌}
use mathlib.Core.Bool.{Bool, true, false, not, ◌||◌, beq}
use mathlib.Core.List.{List}
use native.Mathlib.Omega.{arith}
use lib.Dec.{eqb, ltb}
use borrow.Author.Tests.{lt-ltb}
use Rattle.std.specs.Prelude.{Ok}
use Rattle.attempt.specs.Attempt.{executed_of, outputs_of, attempt_of}
use Rattle.attempt_laws.proofs.Fate.{attempt-fate}
use Rattle.attempt_laws.specs.Fate.{Fate, refused, waited, reset, compute-low, completed}
use Rattle.attempt_laws.specs.Fate.{no_code, no_option, must_wait, b_in, word_fate, taken_word, fate_of, EndsAs}
use Rattle.choose.proofs.Table.{below}
use Rattle.choose.proofs.Tests.{equal-tests}
use Rattle.choose.specs.Below.{all_below}
use Rattle.choose.specs.Ranged.{pick, ranged}
use Rattle.code.proofs.Digits.{row-of-code}
use Rattle.code.proofs.Laws.{apart-well-formed, apart-code}
use Rattle.code.proofs.Shape.{fit-listed}
use Rattle.code.specs.CodeRows.{class_of, listed, cycles_of, waits_of, options_of, row_of}
use Rattle.code.specs.Word.{top_of, apart_of}
use Rattle.code.specs.declared.Fields.{Fields}
use Rattle.code.specs.declared.CodeRow.{CodeRow}
use Rattle.rows.specs.declared.Outputs.{Outputs}
use Rattle.rows.specs.declared.Row.{Row}
use Rattle.state.specs.declared.Core.{Core}
use Rattle.state.specs.declared.Sample.{Sample}
use Rattle.table_laws.specs.Fates.{cost_of, waits_by, row_fate}
use Rattle.state.specs.File.{Leaves}
use Rattle.attempt.specs.Outcome.{Outcome}

-- ---- microcycles

row-cycles : (code : ℕ) → listed (class_of code) ≡ true → cycles_of code ≡ (row_of code).cycles
unfolding row_of
row-cycles code l = rw l

-- an executed word costs its row's cycles
executed-cost : (word : ℕ) (xs : List ℕ) (k : Core) (s : Sample) (o : Outputs) (w : Fields) → apart_of word ≡ Ok w
    → (executed_of xs k w s o).back.cycles ≡ (row_of (top_of word)).cycles
unfolding executed_of
executed-cost word xs k s o w e =
    let f = apart-well-formed word w e in
    row-cycles w.code (rw f.own at (fit-listed f.fitting))
    ∙ rw (apart-code word w e) (ap (λ (r : CodeRow). r.cycles) (row-of-code (top_of word) (omega arith)))

ends-cost : (word : ℕ) (xs : List ℕ) (k : Core) (s : Sample) (o : Outputs) (e : Leaves Outcome) (f : Fate)
    → EndsAs word xs k s o e f → e.back.cycles ≡ cost_of (row_of (top_of word)) f
ends-cost word xs k s o e (refused n) (z, q) = rw q
ends-cost word xs k s o e waited q = rw q
ends-cost word xs k s o e reset q = rw q
ends-cost word xs k s o e compute-low q = rw q
ends-cost word xs k s o e completed (w, a, q) = rw q (executed-cost word xs k s o w a)

-- every attempt costs what its fate and the row of the word taken at LC say, and nothing else
pub attempt-cycles-are : (ws : List ℕ) (rs : List Row) (xs : List ℕ) (k : Core) (s : Sample)
    → (attempt_of ws rs xs k s).back.cycles ≡ cost_of (row_of (top_of (taken_word ws k))) (fate_of ws k s)
attempt-cycles-are ws rs xs k s =
    ends-cost (taken_word ws k) xs k s (outputs_of ws rs k s) (attempt_of ws rs xs k s) (fate_of ws k s) (attempt-fate ws rs xs k s)

-- ---- 01's lists of codes and the table's columns: tests that antt computes over the codes

-- 6
no_code_lem : (code : ℕ) → code < 0x100 → no_code code ≡ (not (listed (row_of code).class) || eqb code 0xAC)
unfolding no_code row_of class_of ranged
no_code_lem code h = equal-tests _ _ (below 0x100 (λ x. beq (no_code x) (not (listed (row_of x).class) || eqb x 0xAC)) tt code h)

module _ (code : ℕ) (h : code < 0x100) (l : no_code code ≡ false) where
  -- 8
  no-option : (b : ℕ) → b < 16 → no_option code b ≡ ltb (row_of code).options b
  unfolding no_code no_option row_of class_of ranged options_of
  no-option b i =
      let test : ℕ → ℕ → Bool = λ x y. beq (no_option x y) (ltb (row_of x).options y) in
      equal-tests _ _ (below 16 (test code) (rw l at (below 0x100 (λ x. pick (no_code x) true (all_below 16 (test x))) tt code h)) b i)

  must-wait : (reply busy : Bool) → must_wait code reply busy ≡ waits_by (row_of code).waits reply busy
  unfolding must_wait row_of class_of ranged waits_of
  must-wait = go
    where
      test : Bool → Bool → ℕ → Bool
      test reply busy x = beq (must_wait x reply busy) (waits_by (row_of x).waits reply busy)

      go : (reply busy : Bool) → must_wait code reply busy ≡ waits_by (row_of code).waits reply busy
      go true true = equal-tests _ _ (below 0x100 (test true true) tt code h)
      go true false = equal-tests _ _ (below 0x100 (test true false) tt code h)
      go false true = equal-tests _ _ (below 0x100 (test false true) tt code h)
      go false false = equal-tests _ _ (below 0x100 (test false false) tt code h)

-- two choices by one test that differ only where it fails
pub otherwise : {A : Type 0} (t : Bool) (a b c : A) → (t ≡ false → b ≡ c) → pick t a b ≡ pick t a c
otherwise true a b c h = refl
otherwise false a b c h = h refl

-- the table says of every word what 01's lists say: so 8 is given only where b is over `options`, and a word waits only where `waits` is not Never
pub word-fate-is : (word : ℕ) (s : Sample) → word < 0x40_0000 → word_fate word s ≡ row_fate (row_of (top_of word)) word s
unfolding word_fate row_fate
word-fate-is word s h =
    let code = top_of word in
    let below : code < 0x100 = omega arith in
    rw (lt-ltb word 0x40_0000 h, ← no_code_lem code below)
    (otherwise (no_code code) _ _ _
    (λ l. rw (no-option code below l (b_in word) (omega arith), must-wait code below l s.reply s.busy)))
