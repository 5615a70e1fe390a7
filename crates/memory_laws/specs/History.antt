-- What the bus saw, told by the requests alone: r i is the request of attempt i, counted from 0. 02, L7.
use Rattle.std.specs.Prelude.{ℕ, zero, suc, ◌+◌, ◌/◌, ◌%◌, ◌<◌, ◌≡◌, Bool, true, false, ◌&&◌, ◌||◌, [], ◌∷◌, eqb}
use Rattle.choose.specs.Ranged.{pick}
use Rattle.attempt_laws.specs.Fate.{within, one_of}

-- "A request is kind times 65,536 plus a value"
abbrev pub kind : ℕ → ℕ
kind request = request / 65536

abbrev pub value : ℕ → ℕ
value request = request % 65536

-- "an accepted read or write", "acknowledges too": 1 read, 2 write, 3 read acknowledge, 4 write acknowledge
abbrev pub is_access : ℕ → Bool
is_access request = one_of (kind request) (1 ∷ 2 ∷ 3 ∷ 4 ∷ [])

-- "IB, IW, OB or OW": E0-E3, FC and FD
abbrev pub is_transfer : ℕ → Bool
is_transfer code = within 0xE0 0xE3 code || within 0xFC 0xFD code

-- "a byte output stores the lower lines at an even address and the upper at an odd one", and a word output both
abbrev pub lines_for : ℕ → ℕ → ℕ
lines_for x lines = pick (eqb (x % 2) 0) (lines % 256) (lines / 256)

module _ (r : ℕ → ℕ) where
  -- before attempt i: whether there was an access, its address, and how many attempts there were since
  unfoldable pub accessed_before : ℕ → Bool
  accessed_before zero = false
  accessed_before (suc i) = is_access (r i) || accessed_before i

  unfoldable pub address_before : ℕ → ℕ
  address_before zero = 0
  address_before (suc i) = pick (is_access (r i)) (value (r i)) (address_before i)

  unfoldable pub since_access : ℕ → ℕ
  since_access zero = 0
  since_access (suc i) = pick (is_access (r i)) 0 (since_access i + 1)

  -- attempt i is an OW to the word of x, or an OB to x
  unfoldable pub stores_at : ℕ → ℕ → Bool
  stores_at x i = (eqb (kind (r i)) 6 && eqb (address_before i / 2) (x / 2)) || (eqb (kind (r i)) 7 && eqb (address_before i) x)

  -- the byte at x before attempt i, where it began as `first`
  unfoldable pub byte_before : ℕ → ℕ → ℕ → ℕ
  byte_before x first zero = first
  byte_before x first (suc i) = pick (stores_at x i) (lines_for x (value (r i))) (byte_before x first i)

  -- "the last bytes stored there in the history, or the starting ones": attempt i is the last of the first n that stores at x; none of them does
  pub record LastStore (x i n : ℕ) : Type 0 where
    pub made : i < n
    pub stores : stores_at x i ≡ true
    pub last : (j : ℕ) → i < j → j < n → stores_at x j ≡ false

  abbrev pub NoStore : ℕ → ℕ → Type 0
  NoStore x n = (j : ℕ) → j < n → stores_at x j ≡ false

-- how many waits of IB, IW, OB and OW came in a row before attempt i; c i is the code at LC before it
unfoldable pub waits_before : (ℕ → ℕ) → (ℕ → ℕ) → ℕ → ℕ
waits_before c r zero = 0
waits_before c r (suc i) = pick (eqb (kind (r i)) 10 && is_transfer (c i)) (waits_before c r i + 1) 0
