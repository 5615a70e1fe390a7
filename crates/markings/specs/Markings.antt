-- The chip's marking: the attempt as it was before 02's L14, and what two sets that differ in their marking alone have in common.
use Rattle.std.specs.Prelude.{ℕ, ◌/◌, ◌%◌, ◌≡◌, Bool, List, eqb}
use Rattle.attempt.specs.Outcome.{Outcome}
use Rattle.checks.specs.Checks.{word_refusal_of}
use Rattle.engine.specs.Run.{World}
use Rattle.pairs.specs.Before.{attempt_by}
use Rattle.rows.specs.declared.Row.{Row}
use Rattle.state.specs.File.{Leaves, high_of}
use Rattle.state.specs.declared.Core.{Core}
use Rattle.state.specs.declared.Marking.{Marking}
use Rattle.state.specs.declared.Sample.{Sample}

-- 01: "IB, IW drop SYNC and IACK unless b is 4-7 (RMW)", whatever TR holds
abbrev pub rmw_before : Core → ℕ → Bool
rmw_before k b = eqb (b / 4 % 2) 1

abbrev pub attempt_of_base : List ℕ → List Row → List ℕ → Core → Sample → Leaves Outcome
attempt_of_base = attempt_by high_of word_refusal_of rmw_before

-- two sets that are the same but for SYNC, IACK and their marking
abbrev pub set_of : Core → Marking → Bool → Bool → Core
set_of k marking sync iack =
    record {
      flags = k.flags;
      address = k.address;
      bus = record { m = k.bus.m; sync = sync; iack = iack };
      latches = k.latches;
      outputs = k.outputs;
      marking = marking;
    }

pub record SameSet (k j : Core) : Type 0 where
  pub flags : k.flags ≡ j.flags
  pub address : k.address ≡ j.address
  pub m : k.bus.m ≡ j.bus.m
  pub latches : k.latches ≡ j.latches
  pub outputs : k.outputs ≡ j.outputs

-- all else that an attempt leaves is the same
pub record SameButLines (e d : Leaves Outcome) : Type 0 where
  pub file : e.file ≡ d.file
  pub set : SameSet e.back.core d.back.core
  pub request : e.back.request ≡ d.back.request
  pub cycles : e.back.cycles ≡ d.back.cycles
  pub refusal : e.back.refusal ≡ d.back.refusal

-- and all else of a run: registers, answer, counts and places
pub record SameRun (w v : World) : Type 0 where
  pub file : w.file ≡ v.file
  pub set : SameSet w.core v.core
  pub answer : w.answer ≡ v.answer
  pub attempts : w.attempts ≡ v.attempts
  pub microcycles : w.microcycles ≡ v.microcycles
  pub buffer : w.buffer ≡ v.buffer
