-- Every part of the state after a completed word but registers and flags, its request and its microcycles, by 01's sentences; the user's outputs after any
-- attempt. Assumes nothing.
use Prim.Native.Nat.{ℕ, ◌*◌, ◌/◌, ◌≤◌, ◌<◌}
use mathlib.Core.Path.{◌≡◌, refl, sym}
use mathlib.Core.Bool.{Bool, true, false, ◌&&◌, ◌||◌, false≢true}
use mathlib.Core.List.{List}
use native.Mathlib.Omega.{arith}
use lib.Dec.{eqb, eqb→eq, ltb}
use lib.ListN.{length}
use borrow.Author.Tests.{ltb-false, ne_eqb}
use Rattle.attempt.specs.Attempt.{executed_of, outputs_of, attempt_of}
use Rattle.attempt.specs.Effect.{jumped_of, literal_effect, register_effect, effect_of}
use Rattle.attempt.specs.Outcome.{Outcome}
use Rattle.choose.proofs.Table.{below}
use Rattle.choose.specs.Ranged.{pick, ranged}
use Rattle.code.proofs.Words.{apart-is}
use Rattle.code.specs.CodeRows.{class_of, listed, cycles_of}
use Rattle.code.specs.Word.{code_in, operands_in, fields_in}
use Rattle.code.specs.declared.Class.{Class}
use Rattle.control.specs.Latches.{used}
use Rattle.numbers.specs.Numbers.{word_at}
use Rattle.rows.specs.Scan.{scan_of}
use Rattle.rows.specs.declared.Outputs.{Outputs}
use Rattle.rows.specs.declared.Row.{Row}
use Rattle.state.specs.File.{Leaves, register_of}
use Rattle.state.specs.declared.Core.{Core}
use Rattle.state.specs.declared.Latches.{Latches}
use Rattle.state.specs.declared.Sample.{Sample}
use Rattle.attempt_laws.specs.After.{pair_in, ra_in, rows_see, AddressIs, is_rmw, BusIs, request_is, LatchesAre, outputs_after, cost_is}
use Rattle.attempt_laws.specs.Fate.{Fate, refused, waited, reset, compute-low, completed, no_code, no_option, must_wait}
use Rattle.attempt_laws.specs.Fate.{within, top_in, b_in, word_fate, taken_word, fate_of, after_reset, ends, EndsAs}
use Rattle.attempt_laws.proofs.Fate.{attempt-fate}
use Rattle.attempt_laws.proofs.Next.{past_is, jump-is, conditional-is, address_is, rows-see}
use Rattle.attempt_laws.proofs.Bus.{rmw-is, bus-left, bus-is, request-none, request-is}
use Rattle.attempt_laws.proofs.Latches.{latches-left, latches-are}
use Rattle.attempt_laws.proofs.Where.{other, ◌next◌, ranged-where, inside}

-- ---- an executed word, by its format: the ranges of its top byte

record Formats (P : Leaves Outcome → Type 0) (xs : List ℕ) (k : Core) (s : Sample) (o : Outputs) (word : ℕ) : Type 0 where
  pub jump : top_in word < 0x10 → P (executed_of xs k (fields_in Class.Jump word) s o)
  pub conditional : 0x10 ≤ top_in word → top_in word < 0x20 → P (executed_of xs k (fields_in Class.Conditional word) s o)
  pub literal : 0x20 ≤ top_in word → top_in word < 0x70 → P (executed_of xs k (fields_in Class.Literal word) s o)
  pub register : 0x70 ≤ top_in word → P (executed_of xs k (fields_in Class.Register word) s o)

module _ (P : Leaves Outcome → Type 0) (xs : List ℕ) (k : Core) (s : Sample) (o : Outputs) (word : ℕ) (f : Formats P xs k s o word) where
  abbrev Executed : Class → Type 0
  Executed c = listed c ≡ true → P (executed_of xs k (fields_in c word) s o)

  unlisted : Executed Class.Unlisted
  unlisted l = absurd (false≢true l)

  executed-all : Executed (class_of (top_in word))
  unfolding class_of
  executed-all =
      ranged-where Executed (top_in word) {from = 0} (omega arith)
      ((λ lo hi l. f.jump hi) next
      (λ lo hi l. f.conditional lo hi) next
      (λ lo hi l. f.literal lo hi) next
      (λ lo hi l. f.register lo) next
      (λ lo hi. unlisted) next
      (λ lo hi l. f.register (omega arith)) next
      (λ lo hi. unlisted) next
      (λ lo hi l. f.register (omega arith)) next
      (λ lo hi. unlisted) next
      (λ lo hi l. f.register (omega arith)) next
      (λ lo hi. unlisted) next
      (λ lo hi l. f.register (omega arith)) next
      other (λ lo. unlisted))

-- ---- a completed word is there, and its b is listed

pub completed-there : (ws : List ℕ) (k : Core) (s : Sample) → fate_of ws k s ≡ completed
    → (ltb k.address.lc (length ws / 4) ≡ true) × (word_fate (taken_word ws k) s ≡ completed)
unfolding fate_of
completed-there ws k s e = go s.reset s.compute (ltb k.address.lc (length ws / 4)) e
  where
    go : (r c t : Bool) → pick r reset (pick c (pick t (word_fate (taken_word ws k) s) (refused 5)) compute-low) ≡ completed
        → (t ≡ true) × (word_fate (taken_word ws k) s ≡ completed)
    go true c t e = let z : ◌≡◌ {A = ℕ} 0 1 = cc in absurd (omega arith)
    go false false t e = let z : ◌≡◌ {A = ℕ} 0 1 = cc in absurd (omega arith)
    go false true false e = let z : ◌≡◌ {A = ℕ} 0 1 = cc in absurd (omega arith)
    go false true true e = (refl, e)

completed-option : (word : ℕ) (s : Sample) → word_fate word s ≡ completed → no_option (top_in word) (b_in word) ≡ false
unfolding word_fate
completed-option word s e = go (ltb word 0x40_0000) (no_code (top_in word)) (no_option (top_in word) (b_in word)) e
  where
    rest : Fate
    rest = pick (must_wait (top_in word) s.reply s.busy) waited completed

    go : (h u q : Bool) → pick h (pick u (refused 6) (pick q (refused 8) rest)) (refused 2) ≡ completed → q ≡ false
    go h u false e = refl
    go false u true e = let z : ◌≡◌ {A = ℕ} 0 1 = cc in absurd (omega arith)
    go true true true e = let z : ◌≡◌ {A = ℕ} 0 1 = cc in absurd (omega arith)
    go true false true e = let z : ◌≡◌ {A = ℕ} 0 1 = cc in absurd (omega arith)

small-option : (code b : ℕ) → no_option code b ≡ false → 0xE0 ≤ code → code ≤ 0xE3 → b < 8
unfolding no_option
small-option code b e lo hi = omega (arith, ltb-false 7 b (go (ltb 7 b) (rw (inside 0xE0 0xE3 code (lo, hi)) at e)))
  where
    go : (t : Bool) → ((true && t) || (within 0xE4 0xE5 code && ltb 3 b)) ≡ false → t ≡ false
    go true e = absurd (false≢true (sym e))
    go false e = refl

-- ---- the microcycles: a test over the codes, which the checker computes

cost-is : (code : ℕ) → code < 256 → listed (class_of code) ≡ true → cycles_of (code_in (class_of code) code) ≡ cost_is code
unfolding class_of cycles_of ranged
cost-is code h l =
    let test : ℕ → Bool = λ c. pick (listed (class_of c)) (eqb (cycles_of (code_in (class_of c) c)) (cost_is c)) true in
    eqb→eq _ _ (rw l at (below 256 test tt code h))

-- ---- the laws

-- RTSR is none of the codes below 70
not-rtsr : (code top : ℕ) → code < 0x70 → top < 0x70 → eqb code 0x74 ≡ eqb top 0x74
not-rtsr code top p q = rw (ne_eqb code 0x74 (omega arith), ne_eqb top 0x74 (omega arith))

module _ (ws : List ℕ) (rs : List Row) (xs : List ℕ) (k : Core) (s : Sample) where
  -- "RESET high: LC becomes 1, .., nothing else changes (request kind 11)"
  pub attempt-reset : s.reset ≡ true → attempt_of ws rs xs k s ≡ ends xs (after_reset k) (11 * 65536) 1 0
  unfolding fate_of
  attempt-reset e =
      let fate : fate_of ws k s ≡ reset = rw e in
      rw fate at (attempt-fate ws rs xs k s)

  abbrev word : ℕ
  word = taken_word ws k

  -- Ra, and Rb:Ra
  abbrev ra : ℕ
  ra = ra_in xs k.latches.g word

  abbrev rb-ra : ℕ
  rb-ra = pair_in xs k.latches.g word

  -- "Outputs of all matching rows": of what they see
  abbrev row_outputs : Outputs
  row_outputs = scan_of rs (rows_see (word_at ws k.address.lc) k s)

  -- the word at LC is there, so the rows are looked at
  outputs-are : fate_of ws k s ≡ completed → outputs_of ws rs k s ≡ row_outputs
  unfolding outputs_of
  outputs-are completes = rw ((completed-there ws k s completes).0, rows-see (word_at ws k.address.lc) k s)

  small_b : fate_of ws k s ≡ completed → 0xE0 ≤ top_in word → top_in word ≤ 0xE3 → b_in word < 8
  small_b completes = small-option (top_in word) (b_in word) (completed-option word s (completed-there ws k s completes).1)

  completed-all : (P : Leaves Outcome → Type 0) → fate_of ws k s ≡ completed
      → Formats P xs k s (outputs_of ws rs k s) word → P (attempt_of ws rs xs k s)
  completed-all P completes f =
      let (w, a, q) = rw completes at (attempt-fate ws rs xs k s) in
      let (h, l, p) = apart-is word w a in
      rw (q, ← p) (executed-all P xs k s (outputs_of ws rs k s) word f l)

  -- LC, RR and TSR after a completed word, by the outputs of the rows
  pub attempt-next : fate_of ws k s ≡ completed → AddressIs word k row_outputs (attempt_of ws rs xs k s).back.core.address
  unfolding executed_of effect_of fields_in operands_in jumped_of literal_effect register_effect
  attempt-next completes =
      let o = outputs_of ws rs k s in
      let by = address_is word k o in
      rw (← outputs-are completes)
      (completed-all (λ e. AddressIs word k o e.back.core.address) completes
      (record {
        jump = λ h. by _ (top_in word / 8 * 8) (jump-is word k o h) (not-rtsr (top_in word / 8 * 8) (top_in word) (omega arith) (omega arith));
        conditional = λ lo hi. by _ (top_in word) (conditional-is word k o lo hi) refl;
        literal =
            λ lo hi.
            by _ (top_in word / 0x10 * 0x10) (past_is word k o lo) (not-rtsr (top_in word / 0x10 * 0x10) (top_in word) (omega arith) (omega arith));
        register = λ h. by _ (top_in word) (past_is word k o (omega arith)) refl;
      }))

  abbrev rmw : Bool
  rmw = is_rmw k.marking k.latches.tr (b_in word)

  -- M, SYNC and IACK
  pub attempt-bus : fate_of ws k s ≡ completed → BusIs (top_in word) rmw rb-ra k.bus (attempt_of ws rs xs k s).back.core.bus
  unfolding executed_of effect_of fields_in operands_in jumped_of literal_effect register_effect register_of
  attempt-bus completes =
      let left : top_in word < 0x70 → BusIs (top_in word) rmw rb-ra k.bus k.bus = λ h. bus-left _ _ _ _ (omega arith) in
      completed-all (λ e. BusIs (top_in word) rmw rb-ra k.bus e.back.core.bus) completes
      (record {
        jump = λ h. left (omega arith);
        conditional = λ lo hi. left (omega arith);
        literal = λ lo hi. left hi;
        register = λ h. bus-is _ _ _ _ _ (λ lo hi. rmw-is k.marking k.latches.tr (b_in word) (small_b completes lo hi));
      })

  -- its request
  pub attempt-request-is : fate_of ws k s ≡ completed → (attempt_of ws rs xs k s).back.request ≡ request_is (top_in word) rb-ra s.dal
  unfolding executed_of effect_of fields_in operands_in jumped_of literal_effect register_effect register_of
  attempt-request-is completes =
      let none : top_in word < 0x70 → 0 ≡ request_is (top_in word) rb-ra s.dal = λ h. request-none _ _ _ (omega arith) (omega arith) in
      completed-all (λ e. e.back.request ≡ request_is (top_in word) rb-ra s.dal) completes
      (record {
        jump = λ h. none (omega arith);
        conditional = λ lo hi. none (omega arith);
        literal = λ lo hi. none hi;
        register = λ h. request-is _ _ _ (omega arith);
      })

  -- its microcycles
  pub attempt-cost : fate_of ws k s ≡ completed → (attempt_of ws rs xs k s).back.cycles ≡ cost_is (top_in word)
  unfolding executed_of fields_in
  attempt-cost completes =
      let (w, a, q) = rw completes at (attempt-fate ws rs xs k s) in
      let (h, l, p) = apart-is word w a in
      rw (q, ← p) (cost-is (top_in word) (omega arith) l)

  -- G, TR, ICS, I4-I6 and the modification
  pub attempt-latches : fate_of ws k s ≡ completed
      → LatchesAre (top_in word) (b_in word) ra rb-ra s k.latches (attempt_of ws rs xs k s).back.core.latches
  unfolding executed_of effect_of fields_in operands_in jumped_of literal_effect register_effect register_of
  attempt-latches completes =
      let after : Latches → Type 0 = LatchesAre (top_in word) (b_in word) ra rb-ra s k.latches in
      let left : top_in word < 0x70 → after (used k.latches) = λ h. latches-left _ _ _ _ _ _ (omega arith) in
      completed-all (λ e. after e.back.core.latches) completes
      (record {
        jump = λ h. left (omega arith);
        conditional = λ lo hi. left (omega arith);
        literal = λ lo hi. left hi;
        register = λ h. latches-are _ _ _ _ _ _;
      })

  -- the user's outputs after any attempt
  pub attempt-outputs : (attempt_of ws rs xs k s).back.core.outputs ≡ outputs_after (fate_of ws k s) word k.outputs
  unfolding executed_of fields_in
  attempt-outputs = go (attempt_of ws rs xs k s) (fate_of ws k s) (attempt-fate ws rs xs k s)
    where
      go : (e : Leaves Outcome) (f : Fate) → EndsAs word xs k s (outputs_of ws rs k s) e f → e.back.core.outputs ≡ outputs_after f word k.outputs
      go e (refused n) (z, q) = rw q
      go e waited q = rw q
      go e reset q = rw q
      go e compute-low q = rw q
      go e completed (w, a, q) = rw (q, ← (apart-is word w a).2)

  -- "A run names its marking": no attempt changes it
  pub attempt-marking : (attempt_of ws rs xs k s).back.core.marking ≡ k.marking
  unfolding executed_of
  attempt-marking = go (attempt_of ws rs xs k s) (fate_of ws k s) (attempt-fate ws rs xs k s)
    where
      go : (e : Leaves Outcome) (f : Fate) → EndsAs word xs k s (outputs_of ws rs k s) e f → e.back.core.marking ≡ k.marking
      go e (refused n) (z, q) = rw q
      go e waited q = rw q
      go e reset q = rw q
      go e compute-low q = rw q
      go e completed (w, a, q) = rw q
