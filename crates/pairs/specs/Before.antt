-- The attempt with any lookup of a pair's high byte, any refusal of words and any rule of RMW, so that it can be had as it was before 02's L6 and before its
-- L14. For two laws, those of even pairs and of the base's marking: the engine uses none of it.
use Rattle.std.specs.Prelude.{ℕ, ◌+◌, ◌/◌, ◌%◌, ◌≡◌, Bool, false, true, ◌&&◌, ◌||◌, List, [], ◌∷◌, eqb, ltb, length, Ok, Err}
use Rattle.alu.specs.declared.Flags.{Flags}
use Rattle.alu.specs.declared.Kind.{Kind}
use Rattle.attempt.specs.Attempt.{when_refused, when_idle, reset_of, modified_of, outputs_of}
use Rattle.attempt.specs.Effect.{jumped_of, literal_effect}
use Rattle.attempt.specs.declared.Effect.{Effect}
use Rattle.attempt.specs.Outcome.{Outcome, outcome_of}
use Rattle.attempt_laws.specs.Fate.{odd, two_cycle, input_word, top_in, b_in, a_in}
use Rattle.checks.specs.Checks.{waiting_of}
use Rattle.choose.specs.Ranged.{pick, ranged}
use Rattle.code.specs.CodeRows.{cycles_of, options_of}
use Rattle.code.specs.Word.{Apart, apart_of, number_of}
use Rattle.code.specs.declared.Unread.{Unread}
use Rattle.code.specs.declared.Fields.{Fields}
use Rattle.code.specs.declared.Operands.{Operands}
use Rattle.control.specs.Bus.{rmw_of, bus_after, request_of}
use Rattle.control.specs.Latches.{latches_after}
use Rattle.control.specs.Next.{address_after}
use Rattle.control.specs.declared.Way.{Way}
use Rattle.cycles.specs.Cycles.{one_cycle_of, two_cycles_of}
use Rattle.cycles.specs.declared.Operand.{Operand}
use Rattle.cycles.specs.declared.Plan.{Plan}
use Rattle.execute.specs.Execute.{designators, codes70_to77_of, selected_of, access_of}
use Rattle.numbers.specs.Numbers.{pair_of, word_at}
use Rattle.plan.specs.Plan.{plan_with, plan_of, condition_met}
use Rattle.rows.specs.declared.Outputs.{Outputs}
use Rattle.rows.specs.declared.Row.{Row}
use Rattle.state.specs.File.{Leaves, leaves, register_of}
use Rattle.state.specs.declared.Core.{Core}
use Rattle.state.specs.declared.Sample.{Sample}

-- each is the engine's definition of nearly the same name, but for the lookup, the refusal and RMW
module _ (high : ℕ → ℕ) (refusal : ℕ → Operands → ℕ) (rmw : Core → ℕ → Bool) where
  abbrev pub operation_by : List ℕ → ℕ → Flags → ℕ → ℕ → ℕ → Leaves Flags
  operation_by xs g f code b a =
      let odd = eqb (code % 2) 1 in
      pick (eqb (code / 2 % 2) 0)
      (one_cycle_of xs g f (plan_of code f) (designators a b) odd)
      (two_cycles_of xs g f (plan_of code f) (designators a b) (designators (high a) (high b)) odd)

  abbrev pub input_by : List ℕ → ℕ → Flags → ℕ → ℕ → ℕ → ℕ → ℕ → Leaves Flags
  input_by xs g f code dal m b a =
      let odd = eqb (code % 2) 1 in
      let taking : ℕ → Plan = λ n. plan_with Kind.Move Operand.A (Operand.Number n) false true in
      pick (eqb (code / 2 % 2) 0)
      (one_cycle_of xs g f (taking (selected_of dal m b)) (designators a a) odd)
      (two_cycles_of xs g f (taking dal) (designators a a) (designators (high a) (high a)) odd)

  abbrev pub registers_by : List ℕ → Core → ℕ → ℕ → ℕ → ℕ → Leaves Flags
  registers_by xs core dal code b a =
      let f = core.flags in
      let g = core.latches.g in
      ranged code
      ((0x80, codes70_to77_of xs g f code b a) ∷
      (0xE0, pick (condition_met code f.c core.latches.ics) (operation_by xs g f code b a) (leaves xs f)) ∷
      (0xE8, input_by xs g f code dal core.bus.m b a) ∷
      (0xF0, leaves xs f) ∷
      (0xF8, access_of xs g f code b a) ∷
      [])
      (leaves xs f)

  abbrev pub effect_by : List ℕ → Core → ℕ → Operands → Sample → Leaves Effect
  effect_by xs core code (Operands.Jump n) sample = leaves xs (jumped_of core code n)
  effect_by xs core code (Operands.Literal v a) sample = literal_effect xs core code v a
  effect_by xs core code (Operands.Two b a) sample =
      let ra = register_of xs core.latches.g a in
      let pair = pair_of ra (register_of xs core.latches.g b) in
      let m = registers_by xs core sample.dal code b a in
      leaves m.file
      (record {
        flags = m.back;
        bus = bus_after core.bus code (rmw core b) pair;
        latches = latches_after core.latches code b ra pair sample;
        way = Way.Onward;
        request = request_of code pair sample.dal;
      })

  abbrev pub executed_by : List ℕ → Core → Fields → Sample → Outputs → Leaves Outcome
  executed_by xs k w sample o =
      let e = effect_by xs k w.code w.operands sample in
      leaves e.file
      (outcome_of
      (record {
        flags = e.back.flags;
        address = address_after k.address e.back.way w.code w.load_rr o;
        bus = e.back.bus;
        latches = e.back.latches;
        outputs = w.user;
        marking = k.marking;
      })
      e.back.request
      (cycles_of w.code)
      0)

  abbrev pub taken_by : Apart → Outputs → List ℕ → Core → Sample → Leaves Outcome
  taken_by (Ok w) o xs k sample =
      pick (eqb (refusal w.code w.operands) 0)
      (pick (waiting_of w.code sample) (when_idle xs k 10) (executed_by xs k w sample o))
      (when_refused xs k (refusal w.code w.operands))
  taken_by (Err Unread.OutOfRange) o xs k sample = when_refused xs k (number_of (Err Unread.OutOfRange))
  taken_by (Err Unread.Unlisted) o xs k sample = when_refused xs k (number_of (Err Unread.Unlisted))

  abbrev pub attempt_by : List ℕ → List Row → List ℕ → Core → Sample → Leaves Outcome
  attempt_by ws rs xs k sample =
      pick sample.reset (when_idle xs (reset_of k) 11)
      (pick sample.compute
      (pick (ltb k.address.lc (length ws / 4))
      (taken_by (apart_of (modified_of (word_at ws k.address.lc) k.latches)) (outputs_of ws rs k sample) xs k sample)
      (when_refused xs k 5))
      (when_idle xs k 12))

-- ---- as it was before L6: 01's lookup, and its refusal 7 between 6 and 8

-- "A pair is Ra (low) and Ra+1"
abbrev pub next_of : ℕ → ℕ
next_of d = (d % 16 + 1) % 16

-- 7, "tests a and b for the two-cycle codes 82-DF, and a alone for IW and ISW"
unfoldable pub odd_pair : ℕ → ℕ → ℕ → Bool
odd_pair code b a =
    (two_cycle code && (odd a || odd b)) ||
    (input_word code && odd a)

abbrev pub refusal_before : ℕ → Operands → ℕ
refusal_before code (Operands.Jump n) = 0
refusal_before code (Operands.Literal v r) = 0
refusal_before code (Operands.Two b a) = pick (eqb code 0xAC) 6 (pick (odd_pair code b a) 7 (pick (ltb (options_of code) b) 8 0))

-- as it is: by the marking, and by TR before the instruction
abbrev pub rmw_now : Core → ℕ → Bool
rmw_now k b = rmw_of k.marking k.latches.tr b

abbrev pub attempt_before : List ℕ → List Row → List ℕ → Core → Sample → Leaves Outcome
attempt_before = attempt_by next_of refusal_before rmw_now

-- a word that 7 did not refuse, as it has no pair, or even ones
abbrev pub EvenPairs : ℕ → Type 0
EvenPairs word = odd_pair (top_in word) (b_in word) (a_in word) ≡ false
