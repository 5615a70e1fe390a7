-- The history of a run: the last bytes stored, and what each input takes. Assumes nothing.
use Prim.Native.Nat.{ℕ, zero, suc, ◌+◌, ◌*◌, ◌%◌, ◌<◌, ◌≤◌}
use mathlib.Core.Path.{subst, ◌≡◌, refl, sym, ◌∙◌, ap}
use mathlib.Core.Bool.{Bool, true, false, ◌&&◌, and-eq-true_iff}
use mathlib.Core.List.{List}
use native.Mathlib.Omega.{arith}
use lib.Dec.{ltb, leb}
use lib.ListN.{length, get_or}
use borrow.Author.Tests.{le-leb, lt-leb, ltb-true, ltb-false}
use Rattle.attempt_laws.specs.Fate.{within}
use Rattle.bus_memory.specs.Memory.{nothing_kept, kept_address, even_of, word_in, data_of, seen_of}
use Rattle.bus_memory.specs.declared.Kept.{Kept}
use Rattle.memory.specs.Run.{Together, code_at, seen_by}
use Rattle.rows.specs.Range.{rows_in_range}
use Rattle.rows.specs.declared.Row.{Row}
use Rattle.state.specs.Range.{InRange, SampleInRange}
use Rattle.state.specs.declared.Sample.{Sample}
use Rattle.memory_laws.specs.History.{is_access, kind, value, lines_for, accessed_before}
use Rattle.memory_laws.specs.History.{address_before, since_access, stores_at, byte_before, LastStore, NoStore}
use Rattle.memory_laws.specs.Attempts.{together_after, seen_at, code_before, request_at}
use Rattle.memory_laws.proofs.Inputs.{takes-in, takes-status, puts_word, puts-byte}
use Rattle.memory_laws.proofs.Kept.{data-stay, code_below, kept-is, address-is, bytes-are, reply-is}
use Rattle.memory_laws.proofs.Range.{AllInRange, fair-after, seen-fair}
use Rattle.memory_laws.proofs.Words.{input-is}

-- ---- the byte of the history is the one that was stored last, or the starting one
module _ (r : ℕ → ℕ) (x first : ℕ) where
  pub never-stored : (n : ℕ) → NoStore r x n → byte_before r x first n ≡ first
  unfolding byte_before
  never-stored zero none = refl
  never-stored (suc n) none = rw (none n (omega arith)) (never-stored n (λ j l. none j (omega arith)))

  -- past the last store the byte stays
  stays : (n : ℕ) → stores_at r x n ≡ false → byte_before r x first (suc n) ≡ byte_before r x first n
  unfolding byte_before
  stays n none = rw none

  kept-since : (i n : ℕ) → i < n → ((j : ℕ) → i < j → j < n → stores_at r x j ≡ false) → byte_before r x first n ≡ byte_before r x first (suc i)
  kept-since i zero l none = absurd (omega (arith, l))
  kept-since i (suc n) l none = go (ltb i n) refl (kept-since i n)
    where
      go : (b : Bool) → ltb i n ≡ b → (i < n → ((j : ℕ) → i < j → j < n → stores_at r x j ≡ false) → byte_before r x first n ≡ byte_before r x first (suc i))
          → byte_before r x first (suc n) ≡ byte_before r x first (suc i)
      go true e before = stays n (none n (ltb-true i n e) (omega arith)) ∙ before (ltb-true i n e) (λ j p q. none j p (omega arith))
      go false e before =
          let same : n ≡ i = omega (arith, l, ltb-false i n e) in
          ap (λ (k : ℕ). byte_before r x first (suc k)) same

  pub last_stored : (i n : ℕ) → LastStore r x i n → byte_before r x first n ≡ lines_for x (value (r i))
  unfolding byte_before
  last_stored i n h = kept-since i n h.made h.last ∙ rw h.stores

-- ---- after an access at attempt i without a later one before attempt n: its address, and the attempts between
pub record Since (r : ℕ → ℕ) (i n : ℕ) : Type 0 where
  pub accessed : accessed_before r n ≡ true
  pub address : address_before r n ≡ value (r i)
  pub between : since_access r n + i + 1 ≡ n

module _ (r : ℕ → ℕ) (i : ℕ) (is : is_access (r i) ≡ true) where
  at_once : Since r i (suc i)
  unfolding accessed_before address_before since_access
  at_once = record { accessed = rw is; address = rw is; between = rw is (omega arith) }

  one_later : (n : ℕ) → is_access (r n) ≡ false → Since r i n → Since r i (suc n)
  unfolding accessed_before address_before since_access
  one_later n other s = record { accessed = rw other s.accessed; address = rw other s.address; between = rw other (omega (arith, s.between)) }

  pub after-access : (n : ℕ) → i < n → ((j : ℕ) → i < j → j < n → is_access (r j) ≡ false) → Since r i n
  after-access zero l later = absurd (omega (arith, l))
  after-access (suc n) l later = go (ltb i n) refl (after-access n)
    where
      go : (b : Bool) → ltb i n ≡ b → (i < n → ((j : ℕ) → i < j → j < n → is_access (r j) ≡ false) → Since r i n) → Since r i (suc n)
      go true e before = one_later n (later n (ltb-true i n e) (omega arith)) (before (ltb-true i n e) (λ j p q. later j p (omega arith)))
      go false e before =
          let same : i ≡ n = omega (arith, l, ltb-false i n e) in
          subst (λ (k : ℕ). Since r i (suc k)) same at_once

closed : (a b : Bool) → (a && false && b) ≡ false
closed true b = refl
closed false b = refl

first-closed : (a b c : Bool) → (a && false && b && c) ≡ false
first-closed true b c = refl
first-closed false b c = refl

opened : (a b : Bool) → (a && true && true && b) ≡ (a && b)
opened true b = refl
opened false b = refl

-- ---- what each IB or IW takes
module _ (ws : List ℕ) (rs : List Row) (delay : ℕ) (at : ℕ → Sample) (first : Together) (begins : first.kept ≡ nothing_kept)
    (good : rows_in_range rs ≡ true) (fair : AllInRange first) (even : length first.bytes % 2 ≡ 0)
    (n : ℕ) (samples : (j : ℕ) → j < n → SampleInRange (at j)) where
  abbrev r : ℕ → ℕ
  r = request_at ws rs delay at first

  abbrev after : ℕ → Together
  after = together_after ws rs delay at first

  abbrev size : ℕ
  size = length first.bytes

  -- the byte of the history at an address
  abbrev standing : ℕ → ℕ → ℕ
  standing i x = byte_before r x (get_or first.bytes x 0) i

  -- REPLY was high: there was an access, its delay is over, and its address is inside
  module _ (i : ℕ) (high : (seen_at ws rs delay at first i).reply ≡ true) where
    pub replied : (accessed_before r i ≡ true) × (leb delay (since_access r i) ≡ true) × (address_before r i < size)
    replied =
        let sync = (after i).world.core.bus.sync in
        let over = leb delay (since_access r i) in
        let all = (and-eq-true_iff (sync && accessed_before r i && over) (ltb (address_before r i) size)).0 (sym
        (reply-is ws rs delay at first begins i) ∙ high) in
        let two = (and-eq-true_iff (sync && accessed_before r i) over).0 all.0 in
        let one = (and-eq-true_iff sync (accessed_before r i)).0 two.0 in
        (one.1, two.1, ltb-true (address_before r i) size all.1)

  module _ (i : ℕ) (l : i < n) where
    abbrev s : Sample
    s = seen_at ws rs delay at first i

    state-fair : InRange (after i).world.file (after i).world.core
    state-fair = (fair-after ws rs delay at first good fair n samples i (omega arith)).state

    sample-fair : SampleInRange s
    sample-fair = seen-fair ws rs delay at first good fair n samples i l

    -- an output (6, 7) goes to the address of an access, inside the memory
    pub word-inside : kind (r i) ≡ 6 → (accessed_before r i ≡ true) × (address_before r i < size)
    word-inside is = let t = replied i (puts_word ws rs _ _ s state-fair sample-fair is) in (t.0, t.2)

    pub byte_inside : kind (r i) ≡ 7 → (accessed_before r i ≡ true) × (address_before r i < size)
    byte_inside is = let t = replied i (puts-byte ws rs _ _ s state-fair sample-fair is) in (t.0, t.2)

    -- "status inputs read the external data"
    pub status-takes : kind (r i) ≡ 9 → value (r i) ≡ (at i).dal
    unfolding code_at
    status-takes is = let t = takes-status ws rs _ _ s state-fair sample-fair is in t.1 ∙ data-stay ws rs delay at first i t.0

    module _ (five : kind (r i) ≡ 5) where
      taken : (within 0xE0 0xE3 (code_before ws rs delay at first i) ≡ true) × (s.reply ≡ true) × (value (r i) ≡ s.dal)
      unfolding code_at
      taken = takes-in ws rs _ _ s state-fair sample-fair five

      seen-word : s.dal ≡ word_in (after i).bytes (kept_address (after i).kept)
      unfolding seen_by seen_of data_of
      seen-word = rw (taken.1, input-is (code_before ws rs delay at first i) (code_below ws (after i).world.core), taken.0)

      -- "Each IB or IW returns the last bytes stored there in the history, or the starting ones"
      pub input-takes : let a = address_before r i in
          (accessed_before r i ≡ true) × (a < size) × (value (r i) ≡ standing i (even_of a) + 256 * standing i (even_of a + 1))
      input-takes =
          let a = address_before r i in
          let there = replied i taken.1 in
          let address : kept_address (after i).kept ≡ a = ap kept_address (kept-is ws rs delay at first begins i) ∙ address-is r i in
          let low = bytes-are ws rs delay at first begins (even_of a) (omega (arith, there.2)) i in
          let high = bytes-are ws rs delay at first begins (even_of a + 1) (omega (arith, there.2)) i in
          (there.0, there.2, taken.2 ∙ seen-word ∙ rw (address, low, high))

  -- ---- REPLY as it is read: attempt n after an access at attempt i, without a later one
  module _ (i n' : ℕ) (is : is_access (r i) ≡ true) (l : i < n') (later : (j : ℕ) → i < j → j < n' → is_access (r j) ≡ false) where
    abbrev since : Since r i n'
    since = after-access r i is n' l later

    -- "With delay d the d attempts after the accepting one see it low, whatever they are"
    pub low-in-the-delay : n' ≤ i + delay → (seen_at ws rs delay at first n').reply ≡ false
    low-in-the-delay soon =
        let over : leb delay (since_access r n') ≡ false = lt-leb delay (since_access r n') (omega (arith, since.between)) in
        reply-is ws rs delay at first begins n' ∙ rw over (closed ((after n').world.core.bus.sync && accessed_before r n') _)

    -- then it is high while SYNC is and where the address is inside
    pub then-as-sync : i + delay < n' → (seen_at ws rs delay at first n').reply ≡ (after n').world.core.bus.sync && ltb (value (r i)) size
    then-as-sync late =
        let over : leb delay (since_access r n') ≡ true = le-leb delay (since_access r n') (omega (arith, since.between)) in
        reply-is ws rs delay at first begins n' ∙ rw (over, since.accessed, since.address) (opened (after n').world.core.bus.sync _)

  -- "low before the first access"
  pub low-before : (i : ℕ) → accessed_before r i ≡ false → (seen_at ws rs delay at first i).reply ≡ false
  low-before i none = reply-is ws rs delay at first begins i ∙ rw none (first-closed (after i).world.core.bus.sync _ _)
