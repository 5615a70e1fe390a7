-- What each executed instruction says of itself: its columns in the shape of its execution, and that it keeps the rest, whatever the code.
-- Assumes nothing.
use Prim.Native.Nat.{ℕ, ◌/◌, ◌%◌}
use mathlib.Core.Path.{◌≡◌, refl}
use mathlib.Core.Bool.{Bool, true, false}
use mathlib.Core.List.{List, [], ◌∷◌}
use lib.Dec.{eqb, ltb}
use Rattle.alu.specs.Cycle.{kept_of}
use Rattle.alu.specs.Marks.{after_byte_of}
use Rattle.alu.specs.declared.Flags.{Flags}
use Rattle.choose.proofs.Choice.{pick_all, pick-both}
use Rattle.attempt_laws.specs.Fate.{odd}
use Rattle.choose.specs.Ranged.{pick, ranged}
use Rattle.code.specs.declared.Stores.{Stores}
use Rattle.cycles.specs.Cycles.{one_cycle_of, two_cycles_of}
use Rattle.cycles.specs.declared.Plan.{Plan}
use Rattle.execute.specs.Execute.{designators, literal_of, compared_of, loaded_of, copied_of, stepped_by_of}
use Rattle.execute.specs.Execute.{codes70_to77_of, operation_of, conditioned_of, input_of, access_of, registers_of}
use Rattle.plan.specs.Plan.{plan_of, condition_met, literal_plan_of}
use Rattle.state.specs.File.{Leaves, leaves, high_of, register_of}
use Rattle.state.specs.declared.Core.{Core}
use Rattle.table_laws.specs.Table.{stored_by, RestKept}
use Rattle.table_laws.proofs.Cycles.{carries, marks, set, after-keeps, all-kept, written-kept, Follows, one-cycle, two-cycles}

-- ---- the columns

pub record Columns : Type 0 where
  pub stores : Stores
  pub flags : ℕ

abbrev columns : Stores → ℕ → Columns
columns s m = record { stores = s; flags = m }

abbrev pub nothing : Columns
nothing = columns Stores.Nothing 0

-- a plan whose cycles store what n names
abbrev planned : Stores → Plan → Bool → Columns
planned n plan odd = columns (pick plan.stores n Stores.Nothing) (marks (carries plan.kind) odd)

-- bit 1 of the code tells words
abbrev by_bit : ℕ → Columns → Columns → Columns
by_bit code one two = pick (eqb (code / 2 % 2) 0) one two

-- CL; AL, NL, TL, LL
unfoldable pub literal_columns : ℕ → ℕ → Columns
literal_columns code v = pick (eqb (code / 16) 3) (columns Stores.Nothing (marks true false)) (planned Stores.Ra (literal_plan_of code v) false)

-- RI, SI; CCF; LCF; RTSR, LGL; CIB; CDB
unfoldable pub columns70_to77 : ℕ → Columns
columns70_to77 code =
    ranged code
    ((0x72, nothing) ∷ (0x73, columns Stores.Ra 0) ∷ (0x74, columns Stores.Nothing 0xF0) ∷ (0x76, nothing) ∷ (0x77, columns Stores.Ra (marks false false)) ∷ [])
    (columns Stores.Ra (marks false false))

unfoldable pub register_columns : ℕ → Flags → Columns
register_columns code f =
    ranged code
    ((0x80, columns70_to77 code) ∷
    (0xE0, by_bit code (planned Stores.Ra (plan_of code f) (odd code)) (planned Stores.RaPair (plan_of code f) (odd code))) ∷
    (0xE8, by_bit code (columns Stores.Ra (marks true (odd code))) (columns Stores.RaPair (marks true (odd code)))) ∷
    (0xF0, nothing) ∷
    (0xF8, by_bit code (columns Stores.Ra (marks false false)) (columns Stores.RaAndRb (marks false false))) ∷
    [])
    nothing

-- ---- two choices by the same ranges

infixr 5 ◌also◌
pub data Both {A B : Type 0} (P : A → B → Type 0) : List (ℕ × A) → List (ℕ × B) → Type 0 where
  end : Both P [] []
  ◌also◌ : {n : ℕ} {a : A} {b : B} {ms : List (ℕ × A)} {ns : List (ℕ × B)} → P a b → Both P ms ns → Both P ((n, a) ∷ ms) ((n, b) ∷ ns)

module _ {A B : Type 0} (P : A → B → Type 0) where
  pub ranged-both : (x : ℕ) {ms : List (ℕ × A)} {ns : List (ℕ × B)} (d : A) (e : B) → Both P ms ns → P d e → P (ranged x ms d) (ranged x ns e)
  unfolding ranged
  ranged-both x d e end q = q
  ranged-both x d e (◌also◌ {n} p h) q = pick-both P (ltb x n) _ _ _ _ p (ranged-both x d e h q)

-- ---- that each instruction keeps what they don't mark

module _ (xs : List ℕ) (g b a : ℕ) (f : Flags) where
  abbrev pub KeepsRest : Columns → Leaves Flags → Type 0
  KeepsRest s m = RestKept g (stored_by s.stores b a) s.flags (leaves xs f) m

  -- what leaves registers and flags keeps what any columns don't mark
  pub untouched : (s : Columns) → KeepsRest s (leaves xs f)
  untouched s =
      record {
        registers = all-kept g _ xs;
        flags = record { n = λ e. refl; z = λ e. refl; v = λ e. refl; c = λ e. refl; nb = λ e. refl; zb = λ e. refl; c4 = λ e. refl; c8 = λ e. refl };
      }

  -- the column of a plan that stores what n names, or nothing
  stored-by-plan : (t : Bool) (n : Stores) → stored_by (pick t n Stores.Nothing) b a ≡ pick t (stored_by n b a) []
  unfolding stored_by
  stored-by-plan true n = refl
  stored-by-plan false n = refl

  planned-keeps : (n : Stores) (plan : Plan) (odd : Bool) (m : Leaves Flags) → Follows g f plan (stored_by n b a) odd xs m → KeepsRest (planned n plan odd) m
  planned-keeps n plan odd m h = rw (stored-by-plan plan.stores n) h

  byte-keeps : (plan : Plan) (p : ℕ) (odd : Bool) → KeepsRest (planned Stores.Ra plan odd) (one_cycle_of xs g f plan (designators a p) odd)
  unfolding stored_by
  byte-keeps plan p odd = planned-keeps Stores.Ra plan odd _ (one-cycle g f plan xs (designators a p) odd)

  word_keeps : (plan : Plan) (p q : ℕ) (odd : Bool)
      → KeepsRest (planned Stores.RaPair plan odd) (two_cycles_of xs g f plan (designators a p) (designators (high_of a) q) odd)
  unfolding stored_by
  word_keeps plan p q odd = planned-keeps Stores.RaPair plan odd _ (two-cycles g f plan (designators a p) (designators (high_of a) q) xs odd)

  -- "CL leaves C4 and C8"
  compared : (v : ℕ) → KeepsRest (columns Stores.Nothing (marks true false)) (leaves xs (compared_of xs g f v a))
  unfolding compared_of after_byte_of kept_of
  compared v =
      record { registers = all-kept g _ xs; flags = after-keeps true false f _ _ (λ e. record { c4 = refl; c8 = refl; c = refl }) }

  pub literal-keeps : (code v : ℕ) → KeepsRest (literal_columns code v) (literal_of xs g f code v a)
  unfolding literal_columns literal_of
  literal-keeps code v = pick-both KeepsRest (eqb (code / 16) 3) _ _ _ _ (compared v) (byte-keeps (literal_plan_of code v) a false)

  copied : KeepsRest (columns Stores.Ra 0) (copied_of xs g f a)
  unfolding copied_of stored_by
  copied = record { registers = written-kept g a _ (a ∷ []) xs (λ i n. n.0); flags = (untouched nothing).flags }

  loaded : (ra : ℕ) → KeepsRest (columns Stores.Nothing 0xF0) (leaves xs (loaded_of f ra b))
  unfolding loaded_of
  loaded ra =
      record {
        registers = all-kept g _ xs;
        flags = record { n = set; z = set; v = set; c = set; nb = λ e. refl; zb = λ e. refl; c4 = λ e. refl; c8 = λ e. refl };
      }

  stepped_by : (by : ℕ) → KeepsRest (columns Stores.Ra (marks false false)) (stepped_by_of xs g f a by)
  unfolding stepped_by_of
  stepped_by by = byte-keeps _ a false

  codes-70-to-77-keep : (code : ℕ) → KeepsRest (columns70_to77 code) (codes70_to77_of xs g f code b a)
  unfolding columns70_to77 codes70_to77_of
  codes-70-to-77-keep code =
      ranged-both KeepsRest code _ _
      (untouched _ also copied also loaded (register_of xs g a) also untouched _ also stepped_by 0 also end)
      (stepped_by 255)

  -- "A failed condition .. changes registers and flags not at all"
  conditioned-keeps : (ics : Bool) (code : ℕ)
      → KeepsRest (by_bit code (planned Stores.Ra (plan_of code f) (odd code)) (planned Stores.RaPair (plan_of code f) (odd code)))
      (conditioned_of xs g f ics code b a)
  unfolding conditioned_of operation_of
  conditioned-keeps ics code =
      let plan = plan_of code f in
      let two = by_bit code (planned Stores.Ra plan (odd code)) (planned Stores.RaPair plan (odd code)) in
      pick_all (KeepsRest two) (condition_met code f.c ics) _ _
      (pick-both KeepsRest (eqb (code / 2 % 2) 0) _ _ _ _ (byte-keeps plan b (odd code)) (word_keeps plan b (high_of b) (odd code)))
      (untouched two)

  input-keeps : (code dal m : ℕ)
      → KeepsRest (by_bit code (columns Stores.Ra (marks true (odd code))) (columns Stores.RaPair (marks true (odd code)))) (input_of xs g f code dal m b a)
  unfolding input_of
  input-keeps code dal m =
      pick-both KeepsRest (eqb (code / 2 % 2) 0) _ _ _ _ (byte-keeps _ a (odd code)) (word_keeps _ a (high_of a) (odd code))

  access-keeps : (code : ℕ)
      → KeepsRest (by_bit code (columns Stores.Ra (marks false false)) (columns Stores.RaAndRb (marks false false))) (access_of xs g f code b a)
  unfolding access_of stored_by
  access-keeps code =
      pick-both KeepsRest (eqb (code / 2 % 2) 0) _ _ _ _ (byte-keeps _ a false) (two-cycles g f _ (designators a a) (designators b b) xs false)

pub registers-keep : (xs : List ℕ) (core : Core) (dal code b a : ℕ)
    → KeepsRest xs core.latches.g b a core.flags (register_columns code core.flags) (registers_of xs core dal code b a)
unfolding register_columns registers_of
registers-keep xs core dal code b a =
    let g = core.latches.g in
    let f = core.flags in
    ranged-both (KeepsRest xs g b a f) code _ _
    (codes-70-to-77-keep xs g b a f code also
    conditioned-keeps xs g b a f core.latches.ics code also
    input-keeps xs g b a f code dal core.bus.m also
    untouched xs g b a f _ also
    access-keeps xs g b a f code also
    end)
    (untouched xs g b a f _)
