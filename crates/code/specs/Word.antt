-- A word taken apart and put together: manual 5.2's formats with the bits of 5.3.2, and 01's bits 16-21.
use Rattle.std.specs.Prelude.{ℕ, ◌+◌, ◌*◌, ◌/◌, ◌%◌, ◌<◌, ◌≡◌, Bool, ◌&&◌, eqb, ltb, Option, Some, None, Result, Ok, Err}
use Rattle.choose.specs.Ranged.{bit, pick}
use Rattle.refusals.specs.declared.Refusal.{Refusal}
use Rattle.code.specs.CodeRows.{class_of, listed, class_number}
use Rattle.code.specs.declared.Class.{Class}
use Rattle.code.specs.declared.Operands.{Operands}
use Rattle.code.specs.declared.Fields.{Fields}
use Rattle.code.specs.declared.Unread.{Unread}

-- a word taken apart, or why it is not
abbrev pub Apart : Type 0
Apart = Result Fields Unread

-- the refusal of a word that is not taken apart
abbrev pub refusal_for : Unread → Refusal
refusal_for Unread.OutOfRange = Refusal.WordRange
refusal_for Unread.Unlisted = Refusal.Unlisted

-- bits 15-8
abbrev pub top_of : ℕ → ℕ
top_of w = w / 0x100 % 0x100

-- the first top byte of the instruction, "when literals and jump addresses are not told apart": JMP has 8, RFS 8, each literal code 16
abbrev pub code_in : Class → ℕ → ℕ
code_in Class.Unlisted top = top
code_in Class.Jump top = top / 8 * 8
code_in Class.Conditional top = top
code_in Class.Literal top = top / 0x10 * 0x10
code_in Class.Register top = top

unfoldable pub code_of : ℕ → ℕ
code_of top = code_in (class_of top) top

-- the last top byte of the instruction
abbrev pub last_in : Class → ℕ → ℕ
last_in Class.Unlisted top = top
last_in Class.Jump top = top / 8 * 8 + 7
last_in Class.Conditional top = top
last_in Class.Literal top = top / 0x10 * 0x10 + 0xF
last_in Class.Register top = top

-- 5.3.2: bits 10-0 of a jump are the address, 7-0 of a conditional jump; 11-4 the literal; 7-4 are b and 3-0 a. "don't-care bits kept".
-- An unlisted top byte has no operands: the 0 stands for none
unfoldable pub operands_in : Class → ℕ → Operands
operands_in Class.Unlisted w = Operands.Jump 0
operands_in Class.Jump w = Operands.Jump (w % 0x800)
operands_in Class.Conditional w = Operands.Jump (w % 0x100)
operands_in Class.Literal w = Operands.Literal (w / 0x10 % 0x100) (w % 0x10)
operands_in Class.Register w = Operands.Two (w / 0x10 % 0x10) (w % 0x10)

-- the address of a jump; 0 for what is none
abbrev pub target_in : Class → ℕ → ℕ
target_in Class.Unlisted w = 0
target_in Class.Jump w = w % 0x800
target_in Class.Conditional w = w % 0x100
target_in Class.Literal w = 0
target_in Class.Register w = 0

-- "Bits 15-0 are the instruction, 16 loads RR, 17 is RNI, 18-21 are the user's outputs"
unfoldable pub fields_in : Class → ℕ → Fields
fields_in k w =
    record {
      code = code_in k (top_of w);
      class = k;
      operands = operands_in k w;
      load_rr = eqb (w / 0x1_0000 % 2) 1;
      rni = eqb (w / 0x2_0000 % 2) 1;
      user = w / 0x4_0000 % 0x10;
    }

-- where its top byte is of the class k
unfoldable pub apart_as : Class → ℕ → Apart
apart_as k w = pick (ltb w 0x40_0000) (pick (listed k) (Ok (fields_in k w)) (Err Unread.Unlisted)) (Err Unread.OutOfRange)

unfoldable pub apart_of : ℕ → Apart
apart_of w =
    pick (ltb w 0x40_0000)
    (pick (listed (class_of (top_of w))) (Ok (fields_in (class_of (top_of w)) w)) (Err Unread.Unlisted))
    (Err Unread.OutOfRange)

-- 01's number for each case: 2, "a word of 2^22 or more"; 6, "code unlisted"
abbrev pub number_of : Apart → ℕ
number_of (Ok f) = 0
number_of (Err Unread.OutOfRange) = 2
number_of (Err Unread.Unlisted) = 6

abbrev pub same : Class → Class → Bool
same k l = eqb (class_number k) (class_number l)

-- how many addresses a jump of the class reaches
abbrev pub reach_of : Class → ℕ
reach_of Class.Unlisted = 0
reach_of Class.Jump = 0x800
reach_of Class.Conditional = 0x100
reach_of Class.Literal = 0
reach_of Class.Register = 0

-- the operands are of the class's kind, and in the range of their bits
unfoldable pub fits_in : Class → Operands → Bool
fits_in k (Operands.Jump n) = ltb n (reach_of k)
fits_in k (Operands.Literal v r) = ltb v 0x100 && ltb r 0x10 && same k Class.Literal
fits_in k (Operands.Two b a) = ltb b 0x10 && ltb a 0x10 && same k Class.Register

-- the class is the code's, the code is the first top byte of its instruction, and operands and user bits are in range
unfoldable pub well_formed : Fields → Bool
well_formed f =
    same f.class (class_of f.code) && eqb (code_in f.class f.code) f.code && fits_in f.class f.operands &&
    ltb f.user 0x10

-- the four kinds of operands that fit
pub data Fit : Class → Operands → Type 0 where
  jump : {n : ℕ} → n < 0x800 → Fit Class.Jump (Operands.Jump n)
  conditional : {n : ℕ} → n < 0x100 → Fit Class.Conditional (Operands.Jump n)
  literal : {v r : ℕ} → v < 0x100 → r < 0x10 → Fit Class.Literal (Operands.Literal v r)
  register : {b a : ℕ} → b < 0x10 → a < 0x10 → Fit Class.Register (Operands.Two b a)

-- what the test of well-formed fields says
pub record WellFormed (f : Fields) : Type 0 where
  pub own : f.class ≡ class_of f.code
  pub first : code_in f.class f.code ≡ f.code
  pub fitting : Fit f.class f.operands
  pub in-range : f.user < 0x10

-- the operands' bits
abbrev pub low_of : Operands → ℕ
low_of (Operands.Jump n) = n
low_of (Operands.Literal v r) = v * 0x10 + r
low_of (Operands.Two b a) = b * 0x10 + a

unfoldable pub word_of : Fields → ℕ
word_of f =
    low_of f.operands + f.code * 0x100 + bit f.load_rr * 0x1_0000 + bit f.rni * 0x2_0000 + f.user * 0x4_0000

unfoldable pub together_of : Fields → Option ℕ
together_of f = pick (well_formed f) (Some (word_of f)) None
