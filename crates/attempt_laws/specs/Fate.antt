-- What an attempt is: "a refusal, a wait, a RESET or a COMPUTE-low one exactly when 01 says so, and every other attempt completes its
-- microinstruction". The conditions are 01's own lists, of the word's bits: they use none of the engine's tables.
use Rattle.std.specs.Prelude.{ℕ, ◌*◌, ◌/◌, ◌%◌, ◌^◌, ◌≡◌, Bool, false, not, ◌&&◌, ◌||◌, List, [], ◌∷◌, eqb, leb, ltb, length, Ok}
use Rattle.choose.specs.Ranged.{pick, ranged}
use Rattle.code.specs.Word.{apart_of}
use Rattle.code.specs.declared.Fields.{Fields}
use Rattle.rows.specs.declared.Outputs.{Outputs}
use Rattle.state.specs.declared.Core.{Core}
use Rattle.state.specs.declared.Sample.{Sample}
use Rattle.attempt.specs.Attempt.{executed_of, modified_of}
use Rattle.numbers.specs.Numbers.{word_at}
use Rattle.state.specs.File.{Leaves}
use Rattle.attempt.specs.Outcome.{Outcome}

pub data Fate : Type 0 where
  refused : ℕ → Fate
  waited : Fate
  reset : Fate
  compute-low : Fate
  completed : Fate

-- ---- 01's lists of codes

-- a range of codes, both ends in it
abbrev pub within : ℕ → ℕ → ℕ → Bool
within first last code = leb first code && leb code last

abbrev pub odd : ℕ → Bool
odd n = eqb (n % 2) 1

-- 6, "code unlisted, or AC": "unlisted are 78-7F, AD, D4-D7 and E8-EB"
unfoldable pub no_code : ℕ → Bool
no_code code =
    within 0x78 0x7F code || eqb code 0xAD || within 0xD4 0xD7 code || within 0xE8 0xEB code ||
    eqb code 0xAC

abbrev pub one_of : ℕ → List ℕ → Bool
one_of code [] = false
one_of code (c ∷ cs) = eqb code c || one_of code cs

-- the even ones of 5.3.2's two-cycle codes 82-DF, from MW, CMW, SLWC, SLW to SRWC, SRW; IW is E2 and E3, ISW E6 and E7
abbrev pub even_words : List ℕ
even_words =
    0x82 ∷ 0x86 ∷ 0x8A ∷ 0x8E ∷ 0x92 ∷ 0x96 ∷ 0x9A ∷ 0x9E ∷ 0xA2 ∷ 0xA6 ∷ 0xAA ∷ 0xAE ∷ 0xB2 ∷ 0xB6 ∷ 0xBA ∷ 0xBE ∷
    0xC2 ∷ 0xC6 ∷ 0xCA ∷ 0xCE ∷ 0xD2 ∷ 0xDA ∷ 0xDE ∷ []

abbrev pub two_cycle : ℕ → Bool
two_cycle code = one_of (code / 2 * 2) even_words

abbrev pub input_word : ℕ → Bool
input_word code = within 0xE2 0xE3 code || within 0xE6 0xE7 code

-- 8, "IB and IW take b 0-7, ISB 0-3": IB and IW are E0-E3, ISB E4 and E5
unfoldable pub no_option : ℕ → ℕ → Bool
no_option code b =
    (within 0xE0 0xE3 code && ltb 7 b) ||
    (within 0xE4 0xE5 code && ltb 3 b)

-- "R, W, RA, WA and the F0-F7 codes wait if REPLY or BUSY is high; IB, IW, OB, OW wait if REPLY is low": the first are F0-FB, OB and OW FC and FD
unfoldable pub must_wait : ℕ → Bool → Bool → Bool
must_wait code reply busy =
    (within 0xF0 0xFB code && (reply || busy)) ||
    ((within 0xE0 0xE3 code || within 0xFC 0xFD code) && not reply)

-- ---- the fate

-- bits 18-21, 15-8, 7-4 and 3-0 of a word
abbrev pub user_bits : ℕ → ℕ
user_bits word = word / 2 ^ 18 % 2 ^ 4

abbrev pub top_in : ℕ → ℕ
top_in word = word / 0x100 % 0x100

abbrev pub b_in : ℕ → ℕ
b_in word = word / 0x10 % 0x10

abbrev pub a_in : ℕ → ℕ
a_in word = word % 0x10

-- "at each attempt 5, 6, 7, 8", and 02, L6: "7 no longer occurs"; "Then refusals, then waiting, then execution". A word of 2^22 or more is 2, which a
-- run refuses before its first attempt
unfoldable pub word_fate : ℕ → Sample → Fate
word_fate word s =
    pick (ltb word 0x40_0000)
    (pick (no_code (top_in word)) (refused 6)
    (pick (no_option (top_in word) (b_in word)) (refused 8)
    (pick (must_wait (top_in word) s.reply s.busy) waited
    completed)))
    (refused 2)

-- a number that is none of these
pub record OtherNumber (n : ℕ) : Type 0 where
  pub none : n ≡ 0 → ⊥
  pub two : n ≡ 2 → ⊥
  pub five : n ≡ 5 → ⊥
  pub six : n ≡ 6 → ⊥
  pub eight : n ≡ 8 → ⊥

-- "the word at LC is taken and a waiting modification is ORed into its low 16 bits"
abbrev pub taken_word : List ℕ → Core → ℕ
taken_word ws k = modified_of (word_at ws k.address.lc) k.latches

-- "RESET high: ..; Else COMPUTE low: ..; Else the word at LC is taken", or 5, "LC has no word". A word is four bytes
unfoldable pub fate_of : List ℕ → Core → Sample → Fate
fate_of ws k s =
    pick s.reset reset
    (pick s.compute
    (pick (ltb k.address.lc (length ws / 4))
    (word_fate (taken_word ws k) s)
    (refused 5))
    compute-low)

-- ---- what the attempt gives then, whole

-- "LC becomes 1, SYNC and IACK go low, the waiting modification is dropped, nothing else changes"
abbrev pub after_reset : Core → Core
after_reset k =
    record {
      flags = k.flags;
      address = record { lc = 1; rr = k.address.rr; tsr = k.address.tsr };
      bus = record { m = k.bus.m; sync = false; iack = false };
      latches = record { g = k.latches.g; tr = k.latches.tr; ics = k.latches.ics; interrupts = k.latches.interrupts; marked = false; modification = 0 };
      outputs = k.outputs;
      marking = k.marking;
    }

-- the file, the state, the request, the microcycles and the refusal's number
abbrev pub ends : List ℕ → Core → ℕ → ℕ → ℕ → Leaves Outcome
ends xs k request cycles refusal = record { file = xs; back = record { core = k; request = request; cycles = cycles; refusal = refusal } }

-- "Numbers 5-8 return the state before the refused attempt"; "A wait costs 1, changes nothing and has kind 10"; RESET "kind 11", COMPUTE low "nothing
-- changes (kind 12). Both cost 1"; and else the taken word is executed, with the rows' outputs o
abbrev pub EndsAs : ℕ → List ℕ → Core → Sample → Outputs → Leaves Outcome → Fate → Type 0
EndsAs word xs k s o e (refused n) = (n ≡ 0 → ⊥) × (e ≡ ends xs k 0 0 n)
EndsAs word xs k s o e waited = e ≡ ends xs k (10 * 65536) 1 0
EndsAs word xs k s o e reset = e ≡ ends xs (after_reset k) (11 * 65536) 1 0
EndsAs word xs k s o e compute-low = e ≡ ends xs k (12 * 65536) 1 0
EndsAs word xs k s o e completed = (w : Fields) × (apart_of word ≡ Ok w) × (e ≡ executed_of xs k w s o)

-- the fate that a caller sees, from the refusal's number and the request's kind: a completed attempt has refusal 0 and a kind from 0 to 9
unfoldable pub seen : Leaves Outcome → Fate
seen e =
    pick (eqb e.back.refusal 0)
    (ranged (e.back.request / 65536) ((10, completed) ∷ (11, waited) ∷ (12, reset) ∷ []) compute-low)
    (refused e.back.refusal)
