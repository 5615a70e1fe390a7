-- What the memory keeps and holds after any number of attempts is what their requests say, and the lines that an attempt sees come of that. Assumes nothing.
use Prim.Native.Nat.{ℕ, zero, suc, ◌+◌, ◌-◌, ◌<◌, min}
use mathlib.Core.Path.{◌≡◌, refl, sym, ◌∙◌, ap}
use mathlib.Core.Bool.{Bool, true, false, ◌&&◌, ◌||◌, false≢true}
use mathlib.Core.List.{List}
use native.Mathlib.Omega.{arith}
use lib.Dec.{eqb, ltb, leb}
use lib.ListN.{length, get_or}
use borrow.Author.Tests.{eq-eqb, ne_eqb, eqb-true, leb-true, leb-false, le-leb, lt-leb}
use Rattle.choose.specs.Ranged.{pick}
use Rattle.std.specs.Prelude.{Option, Some, None, is_some, unwrap_or}
use Rattle.bus_memory.specs.Memory.{data_of, kept_of, nothing_kept, accesses, transfers, transfer_waits, waits_after, kept_after, stuck_of, reply_of, seen_of}
use Rattle.bus_memory.specs.declared.Kept.{Kept}
use Rattle.bus_memory.proofs.Laws.{stored-length}
use Rattle.attempt_laws.specs.Fate.{within}
use Rattle.memory.specs.Run.{Together, code_at, seen_by, taken_in}
use Rattle.rows.specs.declared.Row.{Row}
use Rattle.state.specs.declared.Core.{Core}
use Rattle.state.specs.declared.Sample.{Sample}
use Rattle.memory_laws.specs.History.{kind, value, is_access, is_transfer, accessed_before, address_before, since_access, stores_at, byte_before, waits_before}
use Rattle.memory_laws.specs.Attempts.{together_after, seen_at, code_before, request_at, stuck_at}
use Rattle.memory_laws.proofs.Words.{access-is, input-is, transfer-waits-is, stored-byte}

-- a code is a byte
pub code_below : (ws : List ℕ) (k : Core) → code_at ws k < 0x100
unfolding code_at
code_below ws k = omega arith

-- the address of an access, if there was one
abbrev pub access_of : Bool → ℕ → Option ℕ
access_of accessed address = pick accessed (Some address) None

-- one attempt more, of what is kept: whether it is an access, and whether it is a wait of IB, IW, OB or OW
module _ (delay address since waits : ℕ) (transfer : Bool) (request : ℕ) where
  keeps-by : (t w accessed : Bool) → accesses request ≡ t → transfer_waits transfer request ≡ w → (t ≡ true → w ≡ false)
      → kept_after delay (kept_of (access_of accessed address) (pick accessed (delay - since) 0) (min waits 32)) transfer request
      ≡ kept_of (access_of (t || accessed) (pick t (value request) address)) (pick (t || accessed) (delay - pick t 0 (since + 1)) 0)
      (min (pick w (waits + 1) 0) 32)
  unfolding kept_after waits_after
  keeps-by true true accessed e f apart = absurd (false≢true (sym (apart refl)))
  keeps-by true false accessed e f apart = rw e (ap (λ (n : ℕ). kept_of (Some (value request)) n 0) (omega arith))
  keeps-by false true true e f apart =
      rw (e, f) (ap (λ (n : ℕ). kept_of (Some address) n (min (min waits 32 + 1) 32)) (omega arith)
      ∙ ap (kept_of (Some address) (delay - (since + 1))) (omega arith))
  keeps-by false true false e f apart = rw (e, f) (ap (kept_of None 0) (omega arith))
  keeps-by false false true e f apart = rw (e, f) (ap (λ (n : ℕ). kept_of (Some address) n 0) (omega arith))
  keeps-by false false false e f apart = rw (e, f)

-- no access is a wait
access-no-wait : (request code : ℕ) → is_access request ≡ true → eqb (kind request) 10 && is_transfer code ≡ false
access-no-wait request code is = go (eqb (kind request) 10) refl
  where
    go : (t : Bool) → eqb (kind request) 10 ≡ t → t && is_transfer code ≡ false
    go true e = absurd (false≢true (rw (eqb-true (kind request) 10 e) at is))
    go false e = refl

keeps_on : (delay : ℕ) (accessed : Bool) (address since waits code request : ℕ) → code < 0x100
    → kept_after delay (kept_of (access_of accessed address) (pick accessed (delay - since) 0) (min waits 32)) (transfers code) request
    ≡ kept_of (access_of (is_access request || accessed) (pick (is_access request) (value request) address))
    (pick (is_access request || accessed) (delay - pick (is_access request) 0 (since + 1)) 0)
    (min (pick (eqb (kind request) 10 && is_transfer code) (waits + 1) 0) 32)
keeps_on delay accessed address since waits code request byte =
    keeps-by delay address since waits (transfers code) request (is_access request) (eqb (kind request) 10 && is_transfer code) accessed
    (access-is request) (transfer-waits-is code request byte) (access-no-wait request code)

-- the delay is over when as many attempts have come since
over : (delay since : ℕ) → eqb (delay - since) 0 ≡ leb delay since
over delay since = go (leb delay since) refl
  where
    go : (t : Bool) → leb delay since ≡ t → eqb (delay - since) 0 ≡ t
    go true e = eq-eqb (delay - since) 0 (omega (arith, leb-true delay since e))
    go false e = ne_eqb (delay - since) 0 (λ z. omega (arith, z, leb-false delay since e))

replies-by : (sync accessed : Bool) (address size delay since : ℕ) → let access = access_of accessed address in
    (sync && is_some access && eqb (pick accessed (delay - since) 0) 0 && ltb (unwrap_or access 0) size)
    ≡ (sync && accessed && leb delay since && ltb address size)
replies-by false false address size delay since = refl
replies-by false true address size delay since = refl
replies-by true false address size delay since = refl
replies-by true true address size delay since = ap (λ (t : Bool). t && ltb address size) (over delay since)

beyond-by : (late accessed : Bool) (address size : ℕ) → let access = access_of accessed address in
    (late && is_some access && leb size (unwrap_or access 0)) ≡ (late && accessed && leb size address)
beyond-by late true address size = refl
beyond-by true false address size = refl
beyond-by false false address size = refl

-- before the first access the address is 0
address-by : (t accessed : Bool) (a address : ℕ) → unwrap_or (access_of accessed address) 0 ≡ address
    → unwrap_or (access_of (t || accessed) (pick t a address)) 0 ≡ pick t a address
address-by true accessed a address same = refl
address-by false accessed a address same = same

pub address-is : (r : ℕ → ℕ) (i : ℕ) → unwrap_or (access_of (accessed_before r i) (address_before r i)) 0 ≡ address_before r i
unfolding accessed_before address_before
address-is r zero = refl
address-is r (suc i) = address-by (is_access (r i)) (accessed_before r i) (value (r i)) (address_before r i) (address-is r i)

-- counted up to 32
up-to-32 : (n : ℕ) → leb 32 (min n 32) ≡ leb 32 n
up-to-32 n = go (leb 32 n) refl
  where
    go : (t : Bool) → leb 32 n ≡ t → leb 32 (min n 32) ≡ t
    go true e = le-leb 32 (min n 32) (omega (arith, leb-true 32 n e))
    go false e = lt-leb 32 (min n 32) (omega (arith, leb-false 32 n e))

neither : (t : Bool) (x y : ℕ) → pick (t && false) x y ≡ y
neither true x y = refl
neither false x y = refl

module _ (ws : List ℕ) (rs : List Row) (delay : ℕ) (at : ℕ → Sample) (first : Together) where
  abbrev after : ℕ → Together
  after = together_after ws rs delay at first

  abbrev r : ℕ → ℕ
  r = request_at ws rs delay at first

  abbrev c : ℕ → ℕ
  c = code_before ws rs delay at first

  -- the memory's length stays
  pub size-stays : (i : ℕ) → length (after i).bytes ≡ length first.bytes
  unfolding together_after taken_in
  size-stays zero = refl
  size-stays (suc i) = stored-length (after i).bytes (after i).kept (r i) ∙ size-stays i

  -- "REPLY of the external lines is not used, BUSY, COMPUTE, RESET, ICS and I0-I3 are"
  pub lines_stay : (i : ℕ) → let s = seen_at ws rs delay at first i in
      (s.busy ≡ (at i).busy) × (s.compute ≡ (at i).compute) × (s.reset ≡ (at i).reset) × (s.ics ≡ (at i).ics) × (s.interrupts ≡ (at i).interrupts)
  unfolding seen_by seen_of
  lines_stay i = (refl, refl, refl, refl, refl)

  -- "status inputs read the external data": every code but IB and IW sees them
  pub data-stay : (i : ℕ) → within 0xE0 0xE3 (c i) ≡ false → (seen_at ws rs delay at first i).dal ≡ (at i).dal
  unfolding seen_by seen_of data_of
  data-stay i other = rw (input-is (c i) (code_below ws (after i).world.core), other) (neither (reply_of (after i).kept (length (after i).bytes) _) _ _)

  module _ (begins : first.kept ≡ nothing_kept) where
    -- the address of the last access, how much of its delay is left, and the waits in a row
    pub kept-is : (i : ℕ) → (after i).kept
        ≡ kept_of (access_of (accessed_before r i) (address_before r i)) (pick (accessed_before r i) (delay - since_access r i) 0)
        (min (waits_before c r i) 32)
    unfolding together_after taken_in accessed_before address_before since_access waits_before
    kept-is zero = begins
    kept-is (suc i) =
        ap (λ (k : Kept). kept_after delay k (transfers (c i)) (r i)) (kept-is i)
        ∙ keeps_on delay (accessed_before r i) (address_before r i) (since_access r i) (waits_before c r i) (c i) (r i) (code_below ws (after i).world.core)

    -- "Each IB or IW returns the last bytes stored there in the history, or the starting ones": the byte that stands at an address
    pub bytes-are : (x : ℕ) → x < length first.bytes → (i : ℕ) → get_or (after i).bytes x 0 ≡ byte_before r x (get_or first.bytes x 0) i
    unfolding together_after taken_in byte_before stores_at
    bytes-are x inside zero = refl
    bytes-are x inside (suc i) =
        stored-byte (after i).bytes (after i).kept (r i) x (rw (size-stays i) inside)
        ∙ rw (kept-is i, address-is r i, bytes-are x inside i)

    -- "REPLY falls when SYNC falls; it is low before the first access and beyond the memory", and for `delay` attempts after an access
    pub reply-is : (i : ℕ) → (seen_at ws rs delay at first i).reply
        ≡ (after i).world.core.bus.sync && accessed_before r i && leb delay (since_access r i) && ltb (address_before r i) (length first.bytes)
    unfolding seen_by seen_of reply_of
    reply-is i =
        rw (kept-is i, size-stays i)
        (replies-by (after i).world.core.bus.sync (accessed_before r i) (address_before r i) (length first.bytes) delay (since_access r i))

    -- the test for 17
    pub stuck-is : (i : ℕ) → stuck_of (length (after i).bytes) (after i).kept (transfers (c i)) (r i) ≡ stuck_at ws rs delay at first i
    unfolding stuck_of
    stuck-is i =
        rw (kept-is i, size-stays i, transfer-waits-is (c i) (r i) (code_below ws (after i).world.core), up-to-32 (waits_before c r i))
        (beyond-by (eqb (kind (r i)) 10 && is_transfer (c i) && leb 32 (waits_before c r i)) (accessed_before r i) (address_before r i) (length first.bytes))
