-- An attempt that takes data in (request 5) is an IB or IW that saw REPLY high, and takes the data it saw: the bytes of the history. Assumes nothing.
use Prim.Native.Nat.{ℕ, ◌<◌, ◌≤◌}
use mathlib.Core.Path.{◌≡◌, refl, sym, ap}
use mathlib.Core.Bool.{Bool, true, false, not, ◌&&◌, ◌||◌, false≢true, and-eq-true_iff}
use mathlib.Core.List.{List}
use native.Mathlib.Omega.{arith}
use lib.Dec.{T, eqb, ltb}
use borrow.Author.Tests.{eq-eqb}
use Rattle.choose.specs.Ranged.{pick}
use Rattle.choose.specs.Below.{all_below}
use Rattle.choose.proofs.Choice.{pick_all}
use Rattle.choose.proofs.Table.{below}
use Rattle.choose.proofs.Tests.{holds}
use Rattle.attempt.specs.Attempt.{attempt_of, outputs_of}
use Rattle.attempt.specs.Outcome.{Outcome}
use Rattle.attempt_laws.specs.Fate.{Fate, refused, waited, reset, compute-low, completed, within, no_code}
use Rattle.attempt_laws.specs.Fate.{no_option, must_wait, top_in, a_in, b_in, taken_word, word_fate, fate_of, EndsAs}
use Rattle.attempt_laws.specs.After.{pair_in, kind_of, value_of}
use Rattle.attempt_laws.proofs.After.{completed-there, attempt-request-is}
use Rattle.attempt_laws.proofs.Fate.{attempt-fate}
use Rattle.numbers.proofs.Laws.{byte-below}
use Rattle.rows.specs.declared.Row.{Row}
use Rattle.state.specs.File.{Leaves, slot_of}
use Rattle.state.specs.Range.{InRange, SampleInRange}
use Rattle.state.specs.declared.Core.{Core}
use Rattle.state.specs.declared.Sample.{Sample}
use Rattle.memory_laws.specs.History.{kind, value, is_transfer}

-- a completed word does not wait
completed-waits : (word : ℕ) (s : Sample) → word_fate word s ≡ completed → must_wait (top_in word) s.reply s.busy ≡ false
unfolding word_fate
completed-waits word s e = go (ltb word 0x40_0000) (no_code (top_in word)) (no_option (top_in word) (b_in word)) (must_wait (top_in word) s.reply s.busy) e
  where
    go : (h u q w : Bool) → pick h (pick u (refused 6) (pick q (refused 8) (pick w waited completed))) (refused 2) ≡ completed → w ≡ false
    go h u q false e = refl
    go false u q true e = let z : ◌≡◌ {A = ℕ} 0 1 = cc in absurd (omega arith)
    go true true q true e = let z : ◌≡◌ {A = ℕ} 0 1 = cc in absurd (omega arith)
    go true false true true e = let z : ◌≡◌ {A = ℕ} 0 1 = cc in absurd (omega arith)
    go true false false true e = let z : ◌≡◌ {A = ℕ} 0 1 = cc in absurd (omega arith)

transfer-replies : (code : ℕ) (reply busy : Bool) → is_transfer code ≡ true → must_wait code reply busy ≡ false → reply ≡ true
unfolding must_wait
transfer-replies code reply busy is e = go (within 0xF0 0xFB code && (reply || busy)) reply (rw is at e)
  where
    go : (a r : Bool) → (a || (true && not r)) ≡ false → r ≡ true
    go a true e = refl
    go true false e = absurd (false≢true (sym e))
    go false false e = absurd (false≢true (sym e))

-- what is true of every code that makes requests of kind q: a test that the checker computes
of-kind : (q : ℕ) (test : ℕ → Bool) → T (all_below 256 (λ (c : ℕ). pick (eqb (kind_of c) q) (test c) true)) → (code : ℕ) → code < 256 → kind_of code ≡ q
    → test code ≡ true
of-kind q test t code l is = holds _ (rw (eq-eqb _ q is) at (below 256 (λ (c : ℕ). pick (eqb (kind_of c) q) (test c) true) t code l))

-- IB and IW take data in, ISB and ISW status; OW and OB put data out
input-code : (code : ℕ) → code < 256 → kind_of code ≡ 5 → (within 0xE0 0xE3 code && within 0xE0 0xE7 code) ≡ true
unfolding kind_of
input-code = of-kind 5 (λ c. within 0xE0 0xE3 c && within 0xE0 0xE7 c) tt

status-code : (code : ℕ) → code < 256 → kind_of code ≡ 9 → (not (within 0xE0 0xE3 code) && within 0xE0 0xE7 code) ≡ true
unfolding kind_of
status-code = of-kind 9 (λ c. not (within 0xE0 0xE3 c) && within 0xE0 0xE7 c) tt

word-out-code : (code : ℕ) → code < 256 → kind_of code ≡ 6 → is_transfer code ≡ true
unfolding kind_of
word-out-code = of-kind 6 is_transfer tt

byte-out-code : (code : ℕ) → code < 256 → kind_of code ≡ 7 → is_transfer code ≡ true
unfolding kind_of
byte-out-code = of-kind 7 is_transfer tt

module _ (ws : List ℕ) (rs : List Row) (xs : List ℕ) (k : Core) (s : Sample) (fair : InRange xs k) (d : SampleInRange s) where
  abbrev word : ℕ
  word = taken_word ws k

  abbrev e : Leaves Outcome
  e = attempt_of ws rs xs k s

  pair_small : pair_in xs k.latches.g word < 65536
  pair_small =
      let a = byte-below xs fair.bytes (slot_of k.latches.g (a_in word)) in
      let b = byte-below xs fair.bytes (slot_of k.latches.g (b_in word)) in
      omega (arith, a, b)

  value-small : value_of (top_in word) (pair_in xs k.latches.g word) s.dal < 65536
  value-small =
      let pair = pair_in xs k.latches.g word in
      let none : 0 < 65536 = omega arith in
      pick_all (λ (n : ℕ). n < 65536) (within 0xE0 0xE7 (top_in word)) s.dal _ d.dal
      (pick_all (λ (n : ℕ). n < 65536) (within 0xF0 0xFE (top_in word)) pair 0 pair_small none)

  -- an attempt with a request of kind 1 to 9 completed a word whose code makes such requests
  pub record AskedBy (q : ℕ) : Type 0 where
    pub fate : fate_of ws k s ≡ completed
    pub code : kind_of (top_in word) ≡ q
    pub value-is : value e.back.request ≡ value_of (top_in word) (pair_in xs k.latches.g word) s.dal

  asked_by : (q : ℕ) → 1 ≤ q → q ≤ 9 → kind e.back.request ≡ q → AskedBy q
  asked_by q some few is = go (fate_of ws k s) refl (attempt-fate ws rs xs k s)
    where
      go : (f : Fate) → fate_of ws k s ≡ f → EndsAs word xs k s (outputs_of ws rs k s) e f → AskedBy q
      go (refused n) h ends = absurd (omega (arith, is, ap (λ (x : Leaves Outcome). x.back.request) ends.1))
      go waited h ends = absurd (omega (arith, is, ap (λ (x : Leaves Outcome). x.back.request) ends))
      go reset h ends = absurd (omega (arith, is, ap (λ (x : Leaves Outcome). x.back.request) ends))
      go compute-low h ends = absurd (omega (arith, is, ap (λ (x : Leaves Outcome). x.back.request) ends))
      go completed h ends =
          let asked = attempt-request-is ws rs xs k s h in
          record { fate = h; code = omega (arith, asked, is, value-small); value-is = omega (arith, asked, value-small) }

  replied : fate_of ws k s ≡ completed → is_transfer (top_in word) ≡ true → s.reply ≡ true
  replied f is = transfer-replies (top_in word) s.reply s.busy is (completed-waits word s (completed-there ws k s f).1)

  abbrev byte : top_in word < 256
  byte = omega arith

  -- data in: an IB or IW, with REPLY high, and its data
  pub takes-in : kind e.back.request ≡ 5 → (within 0xE0 0xE3 (top_in word) ≡ true) × (s.reply ≡ true) × (value e.back.request ≡ s.dal)
  takes-in is =
      let a = asked_by 5 (omega arith) (omega arith) is in
      let codes = (and-eq-true_iff (within 0xE0 0xE3 (top_in word)) (within 0xE0 0xE7 (top_in word))).0 (input-code (top_in word) byte a.code) in
      let transfer : is_transfer (top_in word) ≡ true = rw codes.0 in
      (codes.0, replied a.fate transfer, rw codes.1 at a.value-is)

  -- status in: an ISB or ISW, and its data
  pub takes-status : kind e.back.request ≡ 9 → (within 0xE0 0xE3 (top_in word) ≡ false) × (value e.back.request ≡ s.dal)
  takes-status is =
      let a = asked_by 9 (omega arith) (omega arith) is in
      let codes = (and-eq-true_iff (not (within 0xE0 0xE3 (top_in word))) (within 0xE0 0xE7 (top_in word))).0 (status-code (top_in word) byte a.code) in
      (unset _ codes.0, rw codes.1 at a.value-is)
    where
      unset : (t : Bool) → not t ≡ true → t ≡ false
      unset true h = sym h
      unset false h = refl

  -- word out and byte out: REPLY was high
  pub puts_word : kind e.back.request ≡ 6 → s.reply ≡ true
  puts_word is = let a = asked_by 6 (omega arith) (omega arith) is in replied a.fate (word-out-code (top_in word) byte a.code)

  pub puts-byte : kind e.back.request ≡ 7 → s.reply ≡ true
  puts-byte is = let a = asked_by 7 (omega arith) (omega arith) is in replied a.fate (byte-out-code (top_in word) byte a.code)
