-- A left shift leaves the registers and the flags that its add leaves: both attempts perform the same result, and write the same registers.
-- Assumes nothing.
use Prim.Native.Nat.{ℕ, ◌+◌, ◌%◌, ◌<◌}
use mathlib.Core.Path.{◌≡◌, refl, ap, sym, ◌∙◌}
use mathlib.Core.Bool.{Bool, true, false, not}
use mathlib.Core.List.{List}
use native.Mathlib.Omega.{arith}
use lib.Dec.{eqb}
use lib.ListN.{length, get_or}
use lib.Seq.{ext_get_or}
use borrow.Author.Tests.{eqb-true, eqb-false}
use Rattle.alu.specs.declared.Flags.{Flags}
use Rattle.attempt.specs.Attempt.{attempt_of}
use Rattle.attempt.specs.Outcome.{Outcome}
use Rattle.attempt_laws.proofs.Range.{attempt-in-range}
use Rattle.attempt_laws.specs.Fate.{within}
use Rattle.choose.specs.Ranged.{pick}
use Rattle.rows.specs.Range.{rows_in_range}
use Rattle.rows.specs.declared.Row.{Row}
use Rattle.state.proofs.Pairs.{inverted-of-even}
use Rattle.state.specs.File.{Leaves, slot_of, register_of}
use Rattle.state.specs.Range.{InRange, SampleInRange}
use Rattle.state.specs.declared.Core.{Core}
use Rattle.state.specs.declared.Sample.{Sample}
use Rattle.table_laws.proofs.Arithmetic.{no}
use Rattle.table_laws.proofs.Found.{found_alike}
use Rattle.table_laws.proofs.Lines.{above, under}
use Rattle.table_laws.proofs.Performed.{register-below}
use Rattle.table_laws.proofs.Registers.{attempt-places}
use Rattle.table_laws.proofs.Set.{attempt-sets, no_line, each_at}
use Rattle.table_laws.specs.Operations.{Result, Line, logical_of, operations, shift_left_of, sum_of}
use Rattle.table_laws.specs.Set.{odd_code, word_code, number_in, range_of, Performed, pair_found, shifts_right}
use Rattle.table_laws.specs.Table.{Elsewhere}
use Rattle.shifts.specs.Shifts.{add_for, Takes, registers_from, Already, move_for, Doubling, Agrees}
use Rattle.shifts.proofs.Codes.{Plain, Alike, move-plain, shift-plain, add-plain, both-alike, completes, unconditional, stores}
use Rattle.shifts.proofs.Doubled.{doubled}

-- ---- one attempt

-- where the code is one of the line's, the attempt leaves what the line gives of Ra and Rb, or their pairs
abbrev Gives : List ℕ → List Row → List ℕ → Core → Sample → ℕ → ℕ → ℕ → Line → Type 0
Gives ws rs xs k s code b a line =
    let g = k.latches.g in
    let word = word_code code in
    let e = attempt_of ws rs xs k s in
    within line.first line.last code ≡ true
    → Performed (line.gives (range_of word) (number_in word xs g a) (number_in word xs g b) k.flags) line.writes word (odd_code code) g a xs e.file
    k.flags e.back.core.flags

module _ (code b a : ℕ) (is : Plain code) (even : word_code code ≡ true → (a % 2 ≡ 0) × (b % 2 ≡ 0))
    (ws : List ℕ) (rs : List Row) (xs : List ℕ) (k : Core) (s : Sample) (takes : Takes code b a ws k s) (range : InRange xs k) (sample : SampleInRange s) where
  -- even pairs are found as they were
  found : (i : ℕ)
      → let g = k.latches.g in
      pick (word_code code) (pair_found (get_or operations i no_line) (shifts_right code) xs g k.flags b a) (register_of xs g b)
      ≡ number_in (word_code code) xs g b
  found i = go (word_code code) even
    where
      go : (w : Bool) → (w ≡ true → (a % 2 ≡ 0) × (b % 2 ≡ 0))
          → let g = k.latches.g in
          pick w (pair_found (get_or operations i no_line) (shifts_right code) xs g k.flags b a) (register_of xs g b) ≡ number_in w xs g b
      go true e = found_alike (get_or operations i no_line) xs k.latches.g k.flags (shifts_right code) b a ((e refl).0 ∙ sym (e refl).1)
      go false e = refl

  performs : (i : ℕ) → i < length operations → Gives ws rs xs k s code b a (get_or operations i no_line)
  performs i h here =
      let sets = attempt-sets ws rs xs k s range sample (completes code b a is ws k s takes) (unconditional code b a is ws k s takes) in
      rw (takes.top, takes.source, takes.target, above 0x20 0x6F code (omega (arith, is.from)), under 0xE0 0xE7 code is.till, found i) at
      ((each_at sets.operation i h).performed (rw takes.top here))

  -- and every other register as it was
  places : (i : ℕ) → Elsewhere k.latches.g (registers_from (word_code code) a) i → get_or (attempt_of ws rs xs k s).file i 0 ≡ get_or xs i 0
  places i n = attempt-places ws rs xs k s i (rw (stores code b a is ws k s takes (λ e. (even e).0)) n)

-- ---- two attempts

module _ (g a : ℕ) where
  -- a place is that of Ra, that of the pair's high byte, or of neither
  by_place : (P : ℕ → Type 0) (word : Bool) → P (slot_of g a) → (word ≡ true → P (slot_of g (a + 1)))
      → ((i : ℕ) → Elsewhere g (registers_from word a) i → P i) → (i : ℕ) → P i
  by_place P word ra high others i = go word refl (eqb i (slot_of g a)) refl (eqb i (slot_of g (a + 1))) refl
    where
      go : (w : Bool) → word ≡ w → (s : Bool) → eqb i (slot_of g a) ≡ s → (t : Bool) → eqb i (slot_of g (a + 1)) ≡ t → P i
      go w e true j t l = rw (eqb-true i (slot_of g a) j) ra
      go false e false j t l = others i (rw e (eqb-false i (slot_of g a) j, tt))
      go true e false j true l = rw (eqb-true i (slot_of g (a + 1)) l) (high e)
      go true e false j false l = others i (rw e (eqb-false i (slot_of g a) j, (eqb-false i (slot_of g (a + 1)) l, tt)))

  -- files with the same number in Ra, or in the pair, and the same bytes elsewhere are the same
  same-files : (word : Bool) → (word ≡ true → a % 2 ≡ 0) → (es ds : List ℕ) (k m : Core) → InRange es k → InRange ds m
      → number_in word es g a ≡ number_in word ds g a
      → ((i : ℕ) → Elsewhere g (registers_from word a) i → get_or es i 0 ≡ get_or ds i 0) → es ≡ ds
  unfolding register_of
  same-files word even es ds k m h l number others =
      ext_get_or 0 es ds (h.size ∙ sym l.size) (λ i j. by_place (λ (n : ℕ). get_or es n 0 ≡ get_or ds n 0) word (ra word number)
      (high word even number) others i)
    where
      ra : (w : Bool) → number_in w es g a ≡ number_in w ds g a → register_of es g a ≡ register_of ds g a
      ra false e = e
      ra true e = omega (arith, register-below g es h.bytes a, register-below g ds l.bytes a)

      high : (w : Bool) → (w ≡ true → a % 2 ≡ 0) → number_in w es g a ≡ number_in w ds g a → w ≡ true
          → register_of es g (a + 1) ≡ register_of ds g (a + 1)
      high false v e i = no i
      high true v e i =
          let same = rw (inverted-of-even a (v refl)) at e in
          omega (arith, register-below g es h.bytes a, register-below g ds l.bytes a)

same_flags : {r : Result} {word odd : Bool} {g a : ℕ} {xs ys es ds : List ℕ} {f e d : Flags} → Performed r true word odd g a xs es f e
    → Performed r true word odd g a ys ds f d → e ≡ d
same_flags h l =
    λ i. record {
      n = (h.n ∙ sym l.n) i;
      z = (h.z ∙ sym l.z) i;
      v = (h.v ∙ sym l.v) i;
      c = (h.c ∙ sym l.c) i;
      nb = (h.nb ∙ sym l.nb) i;
      zb = (h.zb ∙ sym l.zb) i;
      c4 = (h.c4 ∙ sym l.c4) i;
      c8 = (h.c8 ∙ sym l.c8) i;
    }

module _ (code b a : ℕ) (ws us : List ℕ) (rs : List Row) (xs ys : List ℕ) (k : Core) (s : Sample) (given : Doubling code b a ws us rs xs ys k s) where
  abbrev g : ℕ
  g = k.latches.g

  abbrev word : Bool
  word = word_code code

  abbrev shifted : Leaves Outcome
  shifted = attempt_of ws rs xs k s

  abbrev added : Leaves Outcome
  added = attempt_of us rs ys k s

  is-alike : Alike code
  is-alike = both-alike code given.shift

  even-a : word_code (add_for code) ≡ true → (a % 2 ≡ 0) × (a % 2 ≡ 0)
  even-a e = let (l, h) = given.even (sym is-alike.word ∙ e) in (l, l)

  -- no other register changes, of either attempt, and they were the same
  others : (i : ℕ) → Elsewhere g (registers_from word a) i → get_or shifted.file i 0 ≡ get_or added.file i 0
  others i n =
      places code b a (shift-plain code given.shift) given.even ws rs xs k s given.shifts given.state given.sample i n
      ∙ sym (given.same.others.byte i n)
      ∙ sym (places (add_for code) a a (add-plain code given.shift) even-a us rs ys k s given.adds given.already given.sample i
      (rw is-alike.word n))

  abbrev Leaving : List ℕ → Leaves Outcome → Result → Type 0
  Leaving before e r = Performed r true word (odd_code code) g a before e.file k.flags e.back.core.flags

  -- the operand twice, with the same carry in
  agree : (c : Bool) → Leaving xs shifted (shift_left_of (range_of word) (number_in word xs g b) c)
      → Leaving ys added (sum_of (range_of word) (number_in word ys g a) (number_in word ys g a) c) → Agrees shifted added
  agree c h l =
      let twice : shift_left_of (range_of word) (number_in word xs g b) c ≡ sum_of (range_of word) (number_in word ys g a) (number_in word ys g a) c
      = ap (λ (q : ℕ). shift_left_of (range_of word) q c) (sym given.same.held) ∙ doubled word ys g a c k.flags given.already.bytes in
      let same = rw twice at h in
      record {
        registers = same-files g a word (λ e. (given.even e).0) _ _ _ _ (attempt-in-range ws rs xs k s given.rows given.state given.sample)
            (attempt-in-range us rs ys k s given.rows given.already given.sample)
            (same.stored refl ∙ sym (l.stored refl)) others;
        flags = same_flags same l;
      }

  shift-performs : (i : ℕ) → i < length operations → Gives ws rs xs k s code b a (get_or operations i no_line)
  shift-performs = performs code b a (shift-plain code given.shift) given.even ws rs xs k s given.shifts given.state given.sample

  add-performs : (i : ℕ) → i < length operations → Gives us rs ys k s (add_for code) a a (get_or operations i no_line)
  add-performs = performs (add_for code) a a (add-plain code given.shift) even-a us rs ys k s given.adds given.already given.sample

  -- 02, L2. Counted from 0, lines 8 and 15 of the operations are the shifts and the adds with carry, 9 and 14 those without
  pub left-shift-agrees : Agrees shifted added
  left-shift-agrees = go (within 0x88 0x8B code) refl
    where
      go : (t : Bool) → within 0x88 0x8B code ≡ t → Agrees shifted added
      go true e =
          agree k.flags.c (shift-performs 8 (omega arith) e)
          (rw (is-alike.word, is-alike.odd) at (add-performs 15 (omega arith) (is-alike.with-carry ∙ e)))
      go false e =
          agree false (shift-performs 9 (omega arith) (is-alike.no-carry ∙ ap not e))
          (rw (is-alike.word, is-alike.odd) at (add-performs 14 (omega arith) (is-alike.without ∙ ap not e)))

-- ---- where Ra already holds it

move-word : (word : Bool) → word_code (move_for word) ≡ word
move-word true = refl
move-word false = refl

move-within : (word : Bool) → within 0x80 0x87 (move_for word) ≡ true
move-within true = refl
move-within false = refl

-- there are such registers for every state: the move of b to a leaves them. Line 7 is the moves
pub moved-already : (word : Bool) (b a : ℕ) (vs : List ℕ) (rs : List Row) (xs : List ℕ) (k : Core) (s : Sample) → rows_in_range rs ≡ true → InRange xs k
    → SampleInRange s → (word ≡ true → (a % 2 ≡ 0) × (b % 2 ≡ 0)) → Takes (move_for word) b a vs k s
    → let ys = (attempt_of vs rs xs k s).file in
    Already word k.latches.g b a xs ys × InRange ys k
unfolding logical_of
moved-already word b a vs rs xs k s rows range sample even takes =
    let is = move-plain word in
    let same = move-word word in
    let even-pair : word_code (move_for word) ≡ true → (a % 2 ≡ 0) × (b % 2 ≡ 0) = λ e. even (sym same ∙ e) in
    let moves = performs (move_for word) b a is even-pair vs rs xs k s takes range sample 7 (omega arith) (move-within word) in
    let after = attempt-in-range vs rs xs k s rows range sample in (
      record {
        held = rw same at (moves.stored refl);
        others = record {
          size = after.size ∙ sym range.size;
          byte = λ i n. places (move_for word) b a is even-pair vs rs xs k s takes range sample i (rw same n);
        };
      },
      record {
        size = after.size;
        bytes = after.bytes;
        g = range.g;
        lc = range.lc;
        rr = range.rr;
        tr = range.tr;
        m = range.m;
        tsr = range.tsr;
        interrupts = range.interrupts;
        modification = range.modification;
        unmarked = range.unmarked;
        outputs = range.outputs;
      },
    )
