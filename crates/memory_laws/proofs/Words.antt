-- The memory's definitions are 02's words: which requests are accesses, which codes transfer, and where an output stores. Assumes nothing.
use Prim.Native.Nat.{ℕ, ◌+◌, ◌*◌, ◌/◌, ◌%◌, ◌<◌, ◌≤◌}
use mathlib.Core.Path.{◌≡◌, refl, sym, ◌∙◌}
use mathlib.Core.Bool.{Bool, true, false, ◌&&◌, ◌||◌, beq}
use mathlib.Core.List.{List, [], ◌∷◌}
use native.Mathlib.Omega.{arith}
use lib.Dec.{eqb, ltb, leb}
use lib.ListN.{length, get_or, set, length-set}
use lib.Seq.{get_or-set_same, get_or-set_other}
use borrow.Author.Tests.{eq-eqb, ne_eqb, eqb-true, eqb-false, ltb-true, ltb-false, le-leb}
use Rattle.choose.specs.Ranged.{pick, ranged}
use Rattle.std.specs.Prelude.{Some}
use Rattle.choose.proofs.Ranged.{in_rest}
use Rattle.choose.proofs.Table.{below}
use Rattle.choose.proofs.Tests.{equal-tests}
use Rattle.attempt_laws.specs.Fate.{within, one_of}
use Rattle.bus_memory.specs.Memory.{accesses, transfers, transfer_waits, output_byte, stored_in, takes_in}
use Rattle.bus_memory.specs.Memory.{kept_of, kept_address, even_of, word_in, memory_refusal_of}
use Rattle.bus_memory.specs.declared.Kept.{Kept}
use Rattle.memory_laws.specs.History.{kind, value, is_access, is_transfer, lines_for}

abbrev by_range : ℕ → Bool
by_range k = ranged k ((1, false) ∷ (5, true) ∷ []) false

abbrev by_list : ℕ → Bool
by_list k = one_of k (1 ∷ 2 ∷ 3 ∷ 4 ∷ [])

kinds-alike : (k : ℕ) → by_range k ≡ by_list k
unfolding ranged
kinds-alike k = go (ltb k 5) refl
  where
    go : (t : Bool) → ltb k 5 ≡ t → by_range k ≡ by_list k
    go true e = equal-tests _ _ (below 5 (λ n. beq (by_range n) (by_list n)) tt k (ltb-true _ _ e))
    go false e =
        let l = ltb-false _ _ e in
        rw (
          in_rest k ((1, false) ∷ (5, true) ∷ []) false 5 tt l,
          ne_eqb k 1 (λ z. omega arith),
          ne_eqb k 2 (λ z. omega arith),
          ne_eqb k 3
              (λ z. omega arith),
          ne_eqb k 4 (λ z. omega arith),
        )

pub access-is : (request : ℕ) → accesses request ≡ is_access request
unfolding accesses
access-is request = kinds-alike (kind request)

pub input-is : (code : ℕ) → code < 0x100 → takes_in code ≡ within 0xE0 0xE3 code
unfolding takes_in ranged
input-is code l = equal-tests _ _ (below 0x100 (λ c. beq (takes_in c) (within 0xE0 0xE3 c)) tt code l)

pub transfer-is : (code : ℕ) → code < 0x100 → transfers code ≡ is_transfer code
unfolding transfers ranged
transfer-is code l = equal-tests _ _ (below 0x100 (λ n. beq (transfers n) (is_transfer n)) tt code l)

pub transfer-waits-is : (code request : ℕ) → code < 0x100 → transfer_waits (transfers code) request ≡ eqb (kind request) 10 && is_transfer code
unfolding transfer_waits
transfer-waits-is code request l = rw (transfer-is code l)

or-none : (t : Bool) (x y : ℕ) → pick (t || false) x y ≡ pick t x y
or-none true x y = refl
or-none false x y = refl

other-kind : (k m n : ℕ) → eqb k m ≡ true → (m ≡ n → ⊥) → eqb k n ≡ false
other-kind k m n e d = ne_eqb k n (λ z. d (sym (eqb-true k m e) ∙ z))

-- a request of an output to the address a: whether it stores at x
abbrev pub stores_by : ℕ → ℕ → ℕ → Bool
stores_by a x request = (eqb (kind request) 6 && eqb (a / 2) (x / 2)) || (eqb (kind request) 7 && eqb a x)

module _ (bytes : List ℕ) (a v x : ℕ) (inside : x < length bytes) where
  abbrev even : ℕ
  even = a / 2 * 2

  abbrev low : List ℕ
  low = set bytes even (v % 256)

  -- a word output: both bytes of the word, and no other
  word_at : (t u : Bool) → eqb (a / 2) (x / 2) ≡ t → eqb (x % 2) 0 ≡ u
      → get_or (set low (even + 1) (v / 256)) x 0 ≡ pick t (pick u (v % 256) (v / 256)) (get_or bytes x 0)
  word_at true true e p =
      let here : x ≡ even = omega (arith, eqb-true (a / 2) (x / 2) e, eqb-true (x % 2) 0 p) in
      rw here (get_or-set_other low (even + 1) even (v / 256) 0 (λ z. omega (arith, z)) ∙ get_or-set_same bytes even (v % 256) 0 (rw (← here) inside))
  word_at true false e p =
      let here : x ≡ even + 1 = omega (arith, eqb-true (a / 2) (x / 2) e, eqb-false (x % 2) 0 p) in
      rw here (get_or-set_same low (even + 1) (v / 256) 0 (rw (length-set, ← here) inside))
  word_at false u e p =
      get_or-set_other low (even + 1) x (v / 256) 0 (λ z. eqb-false (a / 2) (x / 2) e (omega (arith, z)))
      ∙ get_or-set_other bytes even x (v % 256) 0 (λ z. eqb-false (a / 2) (x / 2) e (omega (arith, z)))

  -- a byte output: the byte at its own address
  byte_at : (t : Bool) → eqb a x ≡ t → get_or (set bytes a (output_byte a v)) x 0 ≡ pick t (lines_for x v) (get_or bytes x 0)
  byte_at true e = rw (eqb-true a x e) (get_or-set_same bytes x (lines_for x v) 0 inside)
  byte_at false e = get_or-set_other bytes a x (output_byte a v) 0 (λ z. eqb-false a x e (omega (arith, z)))

pub stored-byte : (bytes : List ℕ) (k : Kept) (request x : ℕ) → x < length bytes
    → get_or (stored_in bytes k request) x 0 ≡ pick (stores_by (kept_address k) x request) (lines_for x (value request)) (get_or bytes x 0)
unfolding stored_in
stored-byte bytes k request x inside = go (eqb (kind request) 6) (eqb (kind request) 7) refl refl
  where
    go : (a b : Bool) → eqb (kind request) 6 ≡ a → eqb (kind request) 7 ≡ b
        → get_or (stored_in bytes k request) x 0 ≡ pick (stores_by (kept_address k) x request) (lines_for x (value request)) (get_or bytes x 0)
    go true b e f =
        rw (e, other-kind (kind request) 6 7 e (λ z. omega (arith, z)))
        (word_at bytes (kept_address k) (value request) x inside (eqb (kept_address k / 2) (x / 2)) (eqb (x % 2) 0) refl refl ∙ sym (or-none (eqb
        (kept_address k / 2) (x / 2)) _ _))
    go false true e f = rw (e, f) (byte_at bytes (kept_address k) (value request) x inside (eqb (kept_address k) x) refl)
    go false false e f = rw (e, f)

-- "A word access ignores the lowest address bit": the word at an odd address is the one at the even address below it, taken and stored
pub word_even : (bytes : List ℕ) (address : ℕ) → word_in bytes address ≡ word_in bytes (even_of address)
word_even bytes address =
    let same : even_of (even_of address) ≡ even_of address = omega arith in
    rw same

pub word-stored-even : (bytes : List ℕ) (address low waits request : ℕ) → kind request ≡ 6
    → stored_in bytes (kept_of (Some address) low waits) request ≡ stored_in bytes (kept_of (Some (even_of address)) low waits) request
unfolding stored_in
word-stored-even bytes address low waits request six =
    let same : even_of (even_of address) ≡ even_of address = omega arith in
    rw (eq-eqb (kind request) 6 six, same)

-- "A byte output stores the lower lines at an even address and the upper at an odd one", at its own address, and leaves all others, its neighbour among them
module _ (bytes : List ℕ) (k : Kept) (request : ℕ) (seven : kind request ≡ 7) where
  pub byte-stored : kept_address k < length bytes → get_or (stored_in bytes k request) (kept_address k) 0 ≡ lines_for (kept_address k) (value request)
  byte-stored inside =
      stored-byte bytes k request (kept_address k) inside ∙ rw (
        ne_eqb (kind request) 6 (λ z. omega (arith, seven, z)),
        eq-eqb _ 7 seven,
        eq-eqb
            (kept_address k) (kept_address k) refl,
      )

  pub neighbour-stays : (x : ℕ) → x < length bytes → (kept_address k ≡ x → ⊥) → get_or (stored_in bytes k request) x 0 ≡ get_or bytes x 0
  neighbour-stays x inside other =
      stored-byte bytes k request x inside ∙ rw (ne_eqb (kind request) 6 (λ z. omega (arith, seven, z)), eq-eqb _ 7 seven, ne_eqb (kept_address k) x other)

-- "16 memory length odd or over the limit, or delay over 15", exactly
pub sixteen-else : (size delay : ℕ) → (memory_refusal_of size delay ≡ 0 → ⊥) → memory_refusal_of size delay ≡ 16
unfolding memory_refusal_of
sixteen-else size delay h = go (eqb (size % 2) 0 && leb size 65536 && leb delay 15) h
  where
    go : (t : Bool) → (◌≡◌ {A = ℕ} (pick t 0 16) 0 → ⊥) → ◌≡◌ {A = ℕ} (pick t 0 16) 16
    go true h = absurd (h refl)
    go false h = refl

pub sixteen-not : (size delay : ℕ) → size % 2 ≡ 0 → size ≤ 65536 → delay ≤ 15 → memory_refusal_of size delay ≡ 0
unfolding memory_refusal_of
sixteen-not size delay even few soon = rw (eq-eqb (size % 2) 0 even, le-leb size 65536 few, le-leb delay 15 soon)
