-- What 01's lists say of the codes of left shifts and their adds: tests that antt computes over the codes; and so both are completed. Assumes nothing.
use Prim.Native.Nat.{ℕ, ◌+◌, ◌%◌, ◌<◌, ◌≤◌}
use mathlib.Core.Path.{◌≡◌, refl}
use mathlib.Core.Bool.{Bool, true, false, not, ◌||◌}
use mathlib.Core.List.{List, [], ◌∷◌}
use native.Mathlib.Omega.{arith}
use lib.Dec.{T, leb, ltb}
use borrow.Author.Tests.{lt-ltb, ltb-true, leb-true}
use Rattle.attempt_laws.specs.Fate.{within, no_code, no_option, must_wait, word_fate, taken_word, fate_of, completed}
use Rattle.choose.proofs.Table.{SameTests, all-same-tests, below}
use Rattle.choose.specs.Below.{all_below, all_same}
use Rattle.choose.specs.Ranged.{pick}
use Rattle.state.proofs.Pairs.{inverted-of-even}
use Rattle.state.specs.Pairs.{inverted}
use Rattle.state.specs.declared.Core.{Core}
use Rattle.state.specs.declared.Sample.{Sample}
use Rattle.table_laws.proofs.Lines.{within-is, under}
use Rattle.table_laws.specs.Registers.{stores_both, stores_ra, stored_in}
use Rattle.table_laws.specs.Set.{condition_fails, ConditionHolds, odd_code, word_code, stores_word, stores_byte}
use Rattle.table_laws.specs.Table.{compares_or_tests}
use Rattle.shifts.specs.Shifts.{is_shift, add_for, Takes, registers_from, move_for}

-- ---- the codes

-- from 80 to DF, listed, without condition; writes the pair, or Ra
abbrev facts : ℕ → List (Bool × Bool)
facts x =
    (leb 0x80 x, true) ∷ (ltb x 0xE0, true) ∷ (no_code x, false) ∷ (within 0x84 0x87 x || within 0xA4 0xA7 x, false) ∷ (within 0xAE 0xAF x, false) ∷
    (stores_word x, word_code x) ∷ (stores_both x, false) ∷ (stores_ra x, not (word_code x)) ∷
    []

pub record Plain (x : ℕ) : Type 0 where
  pub from : 0x80 ≤ x
  pub till : x < 0xE0
  pub listed : no_code x ≡ false
  pub no-c : within 0x84 0x87 x || within 0xA4 0xA7 x ≡ false
  pub no-ics : within 0xAE 0xAF x ≡ false
  pub pair : stores_word x ≡ word_code x
  pub no-rb : stores_both x ≡ false
  pub ra : stores_ra x ≡ not (word_code x)

plain : (x : ℕ) → SameTests (facts x) → Plain x
plain x (f, (h, (l, (c, (i, (p, (b, (r, u)))))))) =
    record {
      from = leb-true 0x80 x f;
      till = ltb-true x 0xE0 h;
      listed = l;
      no-c = c;
      no-ics = i;
      pair = p;
      no-rb = b;
      ra = r;
    }

-- the shift with carry beside the add with carry, words beside words, odd codes beside odd codes
abbrev alike : ℕ → List (Bool × Bool)
alike x =
    (within 0x8C 0x8F x, not (within 0x88 0x8B x)) ∷ (within 0xA8 0xAB (add_for x), within 0x88 0x8B x) ∷
    (within 0xA0 0xA7 (add_for x), not (within 0x88 0x8B x)) ∷ (word_code (add_for x), word_code x) ∷ (odd_code (add_for x), odd_code x) ∷
    []

pub record Alike (x : ℕ) : Type 0 where
  pub no-carry : within 0x8C 0x8F x ≡ not (within 0x88 0x8B x)
  pub with-carry : within 0xA8 0xAB (add_for x) ≡ within 0x88 0x8B x
  pub without : within 0xA0 0xA7 (add_for x) ≡ not (within 0x88 0x8B x)
  pub word : word_code (add_for x) ≡ word_code x
  pub odd : odd_code (add_for x) ≡ odd_code x

module _ (code : ℕ) (shift : is_shift code ≡ true) where
  of-shifts : (test : ℕ → List (Bool × Bool)) → T (all_below 0x90 (λ x. pick (is_shift x) (all_same (test x)) true)) → SameTests (test code)
  of-shifts test t =
      let h = within-is 0x88 0x8F code shift in
      all-same-tests (test code) (rw shift at (below 0x90 (λ x. pick (is_shift x) (all_same (test x)) true) t code (omega arith)))

  pub shift-plain : Plain code
  unfolding no_code stores_word stores_both stores_ra stores_byte compares_or_tests
  shift-plain = plain code (of-shifts facts tt)

  pub add-plain : Plain (add_for code)
  unfolding no_code stores_word stores_both stores_ra stores_byte compares_or_tests
  add-plain = plain (add_for code) (of-shifts (λ x. facts (add_for x)) tt)

  pub both-alike : Alike code
  unfolding odd_code
  both-alike =
      let (n, (c, (p, (w, (o, u))))) = of-shifts alike tt in
      record { no-carry = n; with-carry = c; without = p; word = w; odd = o }

pub move-plain : (word : Bool) → Plain (move_for word)
unfolding no_code stores_word stores_both stores_ra stores_byte compares_or_tests
move-plain true = plain (move_for true) (all-same-tests (facts (move_for true)) tt)
move-plain false = plain (move_for false) (all-same-tests (facts (move_for false)) tt)

-- ---- an instruction of such a code

module _ (code b a : ℕ) (is : Plain code) where
  no-option : no_option code b ≡ false
  unfolding no_option
  no-option = rw (under 0xE0 0xE3 code is.till, under 0xE4 0xE5 code (omega (arith, is.till)))

  goes_on : (reply busy : Bool) → must_wait code reply busy ≡ false
  unfolding must_wait
  goes_on reply busy = rw (under 0xF0 0xFB code (omega (arith, is.till)), under 0xE0 0xE3 code is.till, under 0xFC 0xFD code (omega (arith, is.till)))

  module _ (ws : List ℕ) (k : Core) (s : Sample) (takes : Takes code b a ws k s) where
    pub completes : fate_of ws k s ≡ completed
    unfolding fate_of word_fate
    completes =
        rw (
          takes.reset,
          takes.compute,
          lt-ltb _ _ takes.lc,
          lt-ltb _ _ takes.word,
          takes.top,
          takes.source,
          is.listed,
          no-option,
          goes_on s.reply s.busy,
        )

    pub unconditional : ConditionHolds ws k
    unfolding condition_fails
    unconditional = rw (takes.top, is.no-c, is.no-ics)

    pub stores : (word_code code ≡ true → a % 2 ≡ 0) → stored_in (taken_word ws k) ≡ registers_from (word_code code) a
    unfolding stored_in
    stores even = rw (takes.top, takes.target, is.pair, is.no-rb, is.ra) (go (word_code code) even)
      where
        go : (t : Bool) → (t ≡ true → a % 2 ≡ 0) → pick t (a ∷ inverted a ∷ []) (pick (not t) (a ∷ []) []) ≡ registers_from t a
        go true e = rw (inverted-of-even a (e refl))
        go false e = refl
