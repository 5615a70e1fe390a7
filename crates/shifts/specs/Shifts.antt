-- 02, L2: "a left shift agrees with adding the operand to itself in result, C, V, N and Z, the C flag being the carry in for the forms with carry". Two
-- attempts from the same state but for Ra: what is given of them, and what they leave alike.
use Rattle.std.specs.Prelude.{ℕ, ◌+◌, ◌/◌, ◌%◌, ◌<◌, ◌≡◌, Bool, true, false, List, [], ◌∷◌, length}
use Rattle.attempt.specs.Outcome.{Outcome}
use Rattle.attempt_laws.specs.Fate.{within, top_in, b_in, a_in, taken_word}
use Rattle.choose.specs.Ranged.{pick}
use Rattle.rows.specs.Range.{rows_in_range}
use Rattle.rows.specs.declared.Row.{Row}
use Rattle.state.specs.File.{Leaves}
use Rattle.state.specs.Range.{InRange, SampleInRange}
use Rattle.state.specs.declared.Core.{Core}
use Rattle.state.specs.declared.Sample.{Sample}
use Rattle.table_laws.specs.Set.{word_code, number_in}
use Rattle.table_laws.specs.Table.{RegistersKept}

-- manual 5.3.2: SLBC and SLWC, 88-8B, beside ABC and AWC, A8-AB; SLB and SLW, 8C-8F, beside AB and AW, A0-A3; even beside even and odd beside odd
abbrev pub is_shift : ℕ → Bool
is_shift code = within 0x88 0x8F code

abbrev pub add_for : ℕ → ℕ
add_for code = pick (within 0x88 0x8B code) (code + 0x20) (code + 0x14)

-- RESET is low, COMPUTE high, and the word taken at LC is this instruction, with any bits 21-16
pub record Takes (code b a : ℕ) (ws : List ℕ) (k : Core) (s : Sample) : Type 0 where
  pub reset : s.reset ≡ false
  pub compute : s.compute ≡ true
  pub lc : k.address.lc < length ws / 4
  pub word : taken_word ws k < 0x40_0000
  pub top : top_in (taken_word ws k) ≡ code
  pub source : b_in (taken_word ws k) ≡ b
  pub target : a_in (taken_word ws k) ≡ a

-- Ra, or the pair: "A pair is Ra (low) and Ra+1"
abbrev pub registers_from : Bool → ℕ → List ℕ
registers_from false a = a ∷ []
registers_from true a = a ∷ (a + 1) ∷ []

-- in ys Ra, or its pair, already holds what Rb, or its pair, held in xs; every other register is as in xs
pub record Already (word : Bool) (g b a : ℕ) (xs ys : List ℕ) : Type 0 where
  pub held : number_in word ys g a ≡ number_in word xs g b
  pub others : RegistersKept g (registers_from word a) xs ys

-- which is what the move of b to a leaves: MB, 80, or MW, 82
abbrev pub move_for : Bool → ℕ
move_for word = pick word 0x82 0x80

-- all input in range; a left shift of b to a, in ws; its add of a and a, in us; of words, even pairs
pub record Doubling (code b a : ℕ) (ws us : List ℕ) (rs : List Row) (xs ys : List ℕ) (k : Core) (s : Sample) : Type 0 where
  pub shift : is_shift code ≡ true
  pub even : word_code code ≡ true → (a % 2 ≡ 0) × (b % 2 ≡ 0)
  pub shifts : Takes code b a ws k s
  pub adds : Takes (add_for code) a a us k s
  pub rows : rows_in_range rs ≡ true
  pub state : InRange xs k
  pub already : InRange ys k
  pub sample : SampleInRange s
  pub same : Already (word_code code) k.latches.g b a xs ys

-- all 26 registers, and all eight flags: N Z V C, which even codes leave as they were, and NB ZB C4 C8
pub record Agrees (e d : Leaves Outcome) : Type 0 where
  pub registers : e.file ≡ d.file
  pub flags : e.back.core.flags ≡ d.back.core.flags
