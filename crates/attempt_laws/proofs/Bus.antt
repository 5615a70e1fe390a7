-- M, SYNC and IACK, and the request, of a completed word. Assumes nothing.
use Prim.Native.Nat.{ℕ, ◌+◌, ◌-◌, ◌*◌, ◌/◌, ◌%◌, ◌≤◌, ◌<◌}
use mathlib.Core.Path.{◌≡◌, refl}
use mathlib.Core.Bool.{Bool, true, false, not, ◌&&◌, ◌||◌, beq}
use native.Mathlib.Omega.{arith}
use lib.Dec.{T, eqb, eqb→eq}
use Rattle.choose.proofs.Table.{below}
use Rattle.choose.proofs.Tests.{equal-tests}
use Rattle.choose.specs.Below.{all_below}
use Rattle.choose.specs.Ranged.{pick}
use Rattle.control.specs.Bus.{bus_with, tr_bit, q1_of, rmw_of, after_input, bus_after, request_of}
use Rattle.state.specs.declared.Bus.{Bus}
use Rattle.state.specs.declared.Marking.{Marking}
use Rattle.attempt_laws.specs.After.{q1, is_rmw, drops_lines, BusIs, kind_of, request_is}
use Rattle.attempt_laws.specs.Fate.{within}
use Rattle.attempt_laws.proofs.Where.{other, ◌next◌, ranged-where, Outside, inside, outside}

-- ---- RMW

-- Q1 by the bits of its terms
q1-is : (tr : ℕ) → q1 tr ≡ q1_of tr
unfolding q1_of
q1-is tr = go (tr_bit 14 tr) (tr_bit 13 tr) (tr_bit 12 tr) (tr_bit 11 tr) (tr_bit 10 tr) (tr_bit 9 tr) (tr_bit 8 tr) (tr_bit 7 tr) (tr_bit 6 tr)
  where
    is : Bool → Bool → Bool → Bool
    is b t rest = beq b t && rest

    go : (b14 b13 b12 b11 b10 b9 b8 b7 b6 : Bool)
        → is b14 false (is b13 true true)
        || is b14 false (is b12 false (is b11 true (is b10 false (is b9 true (is b8 true (is b7 true (is b6 true true)))))))
        ≡ (not b14 && b13) || (not b14 && not b12 && b11 && not b10 && b9 && b8 && b7 && b6)
    go true b13 b12 b11 b10 b9 b8 b7 b6 = refl
    go false true b12 b11 b10 b9 b8 b7 b6 = refl
    go false false true b11 b10 b9 b8 b7 b6 = refl
    go false false false false b10 b9 b8 b7 b6 = refl
    go false false false true true b9 b8 b7 b6 = refl
    go false false false true false false b8 b7 b6 = refl
    go false false false true false true false b7 b6 = refl
    go false false false true false true true false b6 = refl
    go false false false true false true true true true = refl
    go false false false true false true true true false = refl

-- b that is no option is refused before
pub rmw-is : (marking : Marking) (tr b : ℕ) → b < 8 → is_rmw marking tr b ≡ rmw_of marking tr b
unfolding is_rmw rmw_of
rmw-is marking tr b small = go marking
  where
    four : within 4 7 b ≡ eqb (b / 4 % 2) 1
    four = equal-tests _ _ (below 8 (λ n. beq (within 4 7 n) (eqb (n / 4 % 2) 1)) tt b small)

    all : (t : Bool) → t && true ≡ t
    all true = refl
    all false = refl

    go : (m : Marking) → is_rmw m tr b ≡ rmw_of m tr b
    go Marking.CP1661B = rw four (all (eqb (b / 4 % 2) 1))
    go Marking.CP1621B = rw (four, q1-is tr)

-- ---- the bus

module _ (code : ℕ) (rmw : Bool) (pair : ℕ) (h : Bus) where
  abbrev Right : Bus → Type 0
  Right = BusIs code rmw pair h

  -- by the lists that the code is in
  by-lists : {m s a d : Bool} → within 0xF0 0xFE code ≡ m → within 0xF0 0xFB code ≡ s → within 0xFA 0xFB code ≡ a → drops_lines code rmw ≡ d
      → Right (bus_with (pick m pair h.m) (pick s true (pick d false h.sync)) (pick a true (pick d false h.iack)))
  by-lists p q r e = record { m = rw p; sync = rw (q, e); iack = rw (r, e) }

  drops : {i n o : Bool} → within 0xE0 0xE3 code ≡ i → rmw ≡ n → within 0xFC 0xFD code ≡ o → drops_lines code rmw ≡ (i && not n) || o
  drops p q r = rw (p, q, r)

  -- a code of none of the lists
  pub bus-left : Outside 0xE0 0xE3 code × Outside 0xF0 0xFE code × Outside 0xF0 0xFB code × Outside 0xFA 0xFB code × Outside 0xFC 0xFD code → Right h
  bus-left (inputs, ms, syncs, iacks, outs) =
      by-lists (outside 0xF0 0xFE code ms) (outside 0xF0 0xFB code syncs) (outside 0xFA 0xFB code iacks)
      (drops (outside 0xE0 0xE3 code inputs) refl (outside 0xFC 0xFD code outs))

  input-is : 0xE0 ≤ code → code ≤ 0xE3 → (r : Bool) → rmw ≡ r → Right (after_input h r)
  unfolding after_input
  input-is lo hi = go
    where
      both : (t : Bool) → Right (bus_with h.m (pick (not t || false) false h.sync) (pick (not t || false) false h.iack))
          → Right (pick t h (bus_with h.m false false))
      both true p = p
      both false p = p

      go : (t : Bool) → rmw ≡ t → Right (pick t h (bus_with h.m false false))
      go t e =
          both t
          (by-lists (outside 0xF0 0xFE code (omega arith)) (outside 0xF0 0xFB code (omega arith)) (outside 0xFA 0xFB code (omega arith))
          (drops (inside 0xE0 0xE3 code (lo, hi)) e (outside 0xFC 0xFD code (omega arith))))

  -- RMW counts only of IB and IW
  pub bus-is : (r : Bool) → (0xE0 ≤ code → code ≤ 0xE3 → rmw ≡ r) → Right (bus_after h code r pair)
  unfolding bus_after
  bus-is r same =
      ranged-where Right code {from = 0} (omega arith)
      ((λ l u. bus-left (omega arith)) next
      (λ l u. input-is l (omega arith) r (same l (omega arith))) next
      (λ l u. bus-left (omega arith)) next
      (λ l u.
      by-lists (inside 0xF0 0xFE code (omega arith)) (inside 0xF0 0xFB code (omega arith)) (outside 0xFA 0xFB code (omega arith))
      (drops (outside 0xE0 0xE3 code (omega arith)) refl (outside 0xFC 0xFD code (omega arith)))) next
      (λ l u.
      by-lists (inside 0xF0 0xFE code (omega arith)) (inside 0xF0 0xFB code (omega arith)) (inside 0xFA 0xFB code (omega arith))
      (drops (outside 0xE0 0xE3 code (omega arith)) refl (outside 0xFC 0xFD code (omega arith)))) next
      (λ l u.
      by-lists (inside 0xF0 0xFE code (omega arith)) (outside 0xF0 0xFB code (omega arith)) (outside 0xFA 0xFB code (omega arith))
      (drops (outside 0xE0 0xE3 code (omega arith)) refl (inside 0xFC 0xFD code (omega arith)))) next
      (λ l u.
      by-lists (inside 0xF0 0xFE code (omega arith)) (outside 0xF0 0xFB code (omega arith)) (outside 0xFA 0xFB code (omega arith))
      (drops (outside 0xE0 0xE3 code (omega arith)) refl (outside 0xFC 0xFD code (omega arith)))) next
      other (λ l. bus-left (omega arith)))

-- ---- the request

-- the kind of the codes from first to last, which the checker computes
kind-is : (first last : ℕ) (kind : ℕ → ℕ) → T (all_below 256 (λ c. pick (within first last c) (eqb (kind_of c) (kind c)) true))
    → (code : ℕ) → code < 256 → (first ≤ code) × (code ≤ last) → kind_of code ≡ kind code
kind-is first last kind t code h in-it =
    let here = below 256 (λ c. pick (within first last c) (eqb (kind_of c) (kind c)) true) t code h in
    eqb→eq (kind_of code) (kind code) (rw (inside first last code in-it) at here)

module _ (code pair dal : ℕ) (h : code < 256) where
  abbrev Asked : ℕ → Type 0
  Asked r = r ≡ request_is code pair dal

  no_value : {n : ℕ} → kind_of code ≡ n → Outside 0xE0 0xE7 code × Outside 0xF0 0xFE code → Asked (n * 65536)
  no_value {n} p (not-data, not-pair) = rw (p, outside 0xE0 0xE7 code not-data, outside 0xF0 0xFE code not-pair) (omega arith)

  with-data : {n : ℕ} → kind_of code ≡ n → (0xE0 ≤ code) × (code ≤ 0xE7) → Asked (n * 65536 + dal)
  with-data p is-data = rw (p, inside 0xE0 0xE7 code is-data)

  with_pair : {n : ℕ} → kind_of code ≡ n → (0xF0 ≤ code) × (code ≤ 0xFE) → Asked (n * 65536 + pair)
  with_pair p is-pair = rw (p, outside 0xE0 0xE7 code (omega arith), inside 0xF0 0xFE code is-pair)

  pub request-none : code < 0xE0 → Asked 0
  unfolding kind_of
  request-none u = no_value (kind-is 0 0xDF (λ c. 0) tt code h (omega arith)) (omega arith)

  pub request-is : Asked (request_of code pair dal)
  unfolding request_of kind_of
  request-is =
      ranged-where Asked code {from = 0} (omega arith)
      ((λ l u. request-none u) next
      (λ l u. with-data (kind-is 0xE0 0xE3 (λ c. 5) tt code h (omega arith)) (omega arith)) next
      (λ l u. with-data (kind-is 0xE4 0xE7 (λ c. 9) tt code h (omega arith)) (omega arith)) next
      (λ l u. no_value (kind-is 0xE8 0xEF (λ c. 0) tt code h (omega arith)) (omega arith)) next
      (λ l u. with_pair (kind-is 0xF0 0xF9 (λ c. 1 + c % 2) tt code h (omega arith)) (omega arith)) next
      (λ l u. with_pair (kind-is 0xFA 0xFB (λ c. 3 + c % 2) tt code h (omega arith)) (omega arith)) next
      (λ l u. with_pair (kind-is 0xFC 0xFD (λ c. 7 - c % 2) tt code h (omega arith)) (omega arith)) next
      (λ l u. with_pair (kind-is 0xFE 0xFE (λ c. 8) tt code h (omega arith)) (omega arith)) next
      other (λ l. no_value (kind-is 0xFF 0xFF (λ c. 0) tt code h (omega arith)) (omega arith)))
