-- "Marks, after the operands, in any order, each at most once": pieces are good marks exactly where each is of one of the four kinds, and no kind comes twice.
-- Assumes nothing.
use Prim.Native.Nat.{ℕ, zero, suc, ◌+◌, ◌≤◌, ◌<◌}
use mathlib.Core.Path.{◌≡◌, refl, ◌∙◌, sym}
use mathlib.Core.Bool.{Bool, true, false, not, ◌&&◌, ◌||◌, or-true, or-false, and-false, not-not, false≢true}
use mathlib.Core.List.{List, [], ◌∷◌}
use mathlib.Core.Logic.{◌↔◌}
use native.Mathlib.Nat.{zero-add}
use native.Mathlib.Omega.{arith}
use lib.Dec.{eqb, ltb}
use borrow.Author.Tests.{ltb-true, lt-ltb, eq-eqb, ne_eqb, eqb-true, not-true}
use Rattle.choose.specs.Ranged.{bit, pick}
use Rattle.choose.proofs.Tests.{both_true, bit_le}
use Rattle.names.specs.Mnemonics.{letters_from}
use Rattle.pieces.specs.Read.{name_of}
use Rattle.pieces.proofs.Laws.{cases}
use Rattle.line.specs.Marks.{Marks, no_marks, user_in, with_user, with_mark, marks_from}
use Rattle.line.specs.Kinds.{kind_of, count_of, user_of}

-- whether a mark of the kind can't come any more: it was there, or is none
abbrev pub seen : Marks → ℕ → Bool
seen m zero = m.odd
seen m (suc zero) = m.load_rr
seen m (suc (suc zero)) = m.rni
seen m (suc (suc (suc zero))) = not (eqb m.user 0x10)
seen m (suc (suc (suc (suc k)))) = true

-- ---- one mark more

-- n are the marks m and one of kind k, with U's digit u
pub record Step (m n : Marks) (k u : ℕ) : Type 0 where
  pub good : n.good ≡ m.good && not (seen m k)
  pub after : (j : ℕ) → j < 5 → seen n j ≡ (seen m j || eqb k j)
  pub user : n.user ≡ pick (eqb k 3) u m.user

five : (P : ℕ → Type 0) → P 0 → P 1 → P 2 → P 3 → P 4 → (j : ℕ) → j < 5 → P j
five P a b c d e zero h = a
five P a b c d e (suc zero) h = b
five P a b c d e (suc (suc zero)) h = c
five P a b c d e (suc (suc (suc zero))) h = d
five P a b c d e (suc (suc (suc (suc zero)))) h = e
five P a b c d e (suc (suc (suc (suc (suc j))))) h = absurd (omega arith)

same : (b : Bool) → b ≡ (b || false)
same b = sym (or-false b)

now : (b : Bool) → true ≡ (b || true)
now b = sym (or-true b)

pub step : (m : Marks) (name : ℕ) → Step m (with_mark m name) (kind_of name) (user_in name)
unfolding with_mark with_user kind_of
step m name =
    cases (eqb name (letters_from 0 4 "ODD"))
    (λ e. rw e (record { good = refl; after = five _ (now m.odd) (same _) (same _) (same _) refl; user = refl }))
    (λ e.
    cases (eqb name (letters_from 0 4 "RR"))
    (λ f. rw (e, f) (record { good = refl; after = five _ (same _) (now m.load_rr) (same _) (same _) refl; user = refl }))
    (λ f.
    cases (eqb name (letters_from 0 4 "RNI"))
    (λ g. rw (e, f, g) (record { good = refl; after = five _ (same _) (same _) (now m.rni) (same _) refl; user = refl }))
    (λ g.
    cases (ltb (user_in name) 0x10)
    (λ l.
    let digit = ne_eqb (user_in name) 0x10 (λ q. omega (arith, ltb-true (user_in name) 0x10 l)) in
    let there = now (not (eqb m.user 0x10)) in
    rw (e, f, g, l) (record { good = rw not-not; after = five _ (same _) (same _) (same _) (rw digit there) refl; user = refl }))
    (λ l. rw (e, f, g, l) (record { good = sym (and-false m.good); after = five _ (same _) (same _) (same _) (same _) refl; user = refl })))))

kind-below : (name : ℕ) → kind_of name < 5
unfolding kind_of
kind-below name = go (eqb name (letters_from 0 4 "ODD")) (eqb name (letters_from 0 4 "RR")) (eqb name (letters_from 0 4 "RNI")) (ltb (user_in name) 0x10)
  where
    go : (a b c d : Bool) → pick a 0 (pick b 1 (pick c 2 (pick d 3 4))) < 5
    go true b c d = omega arith
    go false true c d = omega arith
    go false false true d = omega arith
    go false false false true = omega arith
    go false false false false = omega arith

-- ---- the marks m, and these pieces after them

-- no kind comes twice, those of m counted
abbrev Once : Marks → List (List ℕ) → Type 0
Once m ps = (j : ℕ) → j < 5 → bit (seen m j) + count_of j ps ≤ 1

counted : (before now : Bool) (later : ℕ) → (now ≡ true → before ≡ false) → bit (before || now) + later ≡ bit before + (bit now + later)
counted true true later h = absurd (false≢true (sym (h refl)))
counted true false later h = omega arith
counted false now later h = omega arith

unseen : (before : Bool) → bit before ≡ 0 → before ≡ false
unseen true e = absurd (omega arith)
unseen false e = refl

good-once : (m : Marks) (ps : List (List ℕ)) → ((marks_from m ps).good ≡ true) ↔ (m.good ≡ true) × Once m ps
unfolding marks_from count_of
good-once m [] = ((λ e. (e, λ j h. omega (arith, bit_le (seen m j)))), (λ h. h.0))
good-once m (p ∷ ps) =
    let k = kind_of (name_of p) in
    let s = step m (name_of p) in
    let later = good-once (with_mark m (name_of p)) ps in
    let new : seen m k ≡ false → (j : ℕ) → eqb k j ≡ true → seen m j ≡ false = λ e j q. rw (eqb-true k j q) at e in (
      (λ e.
          let (good, once) = later.0 e in
          let (mine, first) = both_true m.good _ (sym s.good ∙ good) in
          (mine, λ j h. rw (← counted (seen m j) (eqb k j) (count_of j ps) (new (not-true _ first) j)) (rw (s.after j h) at (once j h)))),
      (λ (mine, once).
          let here : bit (seen m k) ≡ 0 = omega (arith, rw (eq-eqb k k refl) at (once k (kind-below (name_of p)))) in
          let first = unseen _ here in
          later.1
          (s.good ∙ rw (first, mine), λ j h. rw (s.after j h, counted (seen m j) (eqb k j) (count_of j ps) (new first j)) (once j h))),
    )

-- a kind is there where a piece of it is
there : (before now : Bool) (later : ℕ) → (before || now || ltb 0 later) ≡ (before || ltb 0 (bit now + later))
there true now later = refl
there false true later = sym (lt-ltb 0 (1 + later) (omega arith))
there false false later = rw zero-add

seen-after : (m : Marks) (ps : List (List ℕ)) (j : ℕ) → j < 5 → seen (marks_from m ps) j ≡ (seen m j || ltb 0 (count_of j ps))
unfolding marks_from count_of
seen-after m [] j h = sym (or-false _)
seen-after m (p ∷ ps) j h =
    seen-after (with_mark m (name_of p)) ps j h ∙ rw ((step m (name_of p)).after j h) (there (seen m j) (eqb (kind_of (name_of p)) j) (count_of j ps))

-- without a U the digit stays, and with one U it is that of it
no-user : (e : Bool) (n : ℕ) → bit e + n ≡ 0 → (e ≡ false) × (n ≡ 0)
no-user true n h = absurd (omega arith)
no-user false n h = (refl, omega arith)

user-kept : (m : Marks) (ps : List (List ℕ)) → count_of 3 ps ≡ 0 → (marks_from m ps).user ≡ m.user
unfolding marks_from count_of
user-kept m [] e = refl
user-kept m (p ∷ ps) e =
    let (other, none) = no-user (eqb (kind_of (name_of p)) 3) (count_of 3 ps) e in
    user-kept (with_mark m (name_of p)) ps none ∙ (step m (name_of p)).user ∙ rw other

user-said : (m : Marks) (ps : List (List ℕ)) → m.user ≡ 0x10 → count_of 3 ps ≤ 1 → (marks_from m ps).user ≡ user_of ps
unfolding marks_from count_of user_of
user-said m [] e h = e
user-said m (p ∷ ps) e h =
    let n = with_mark m (name_of p) in
    let s = step m (name_of p) in
    cases (eqb (kind_of (name_of p)) 3)
    (λ q. user-kept n ps (omega (arith, rw q at h)) ∙ s.user ∙ rw q)
    (λ q. rw q (user-said n ps (s.user ∙ rw q e) (omega (arith, rw q at h))))

-- ---- the marks of a line

pub marks-exactly : (ps : List (List ℕ)) → ((marks_from no_marks ps).good ≡ true) ↔ (count_of 4 ps ≡ 0) × ((k : ℕ) → k < 4 → count_of k ps ≤ 1)
marks-exactly ps =
    let (says, said) = good-once no_marks ps in (
      (λ e.
          let once = (says e).1 in
          (omega (arith, once 4 (omega arith)), λ k h. omega (arith, once k (omega arith)))),
      (λ (none, once).
          said (
            refl,
            five (λ j. bit (seen no_marks j) + count_of j ps ≤ 1)
                (omega (arith, once 0 (omega arith))) (omega (arith, once 1 (omega arith))) (omega (arith, once 2 (omega arith)))
                (omega (arith, once 3 (omega arith)))
                (omega arith),
          )),
    )

-- which are there
pub record Says (m : Marks) (ps : List (List ℕ)) : Type 0 where
  pub odd : m.odd ≡ ltb 0 (count_of 0 ps)
  pub load_rr : m.load_rr ≡ ltb 0 (count_of 1 ps)
  pub rni : m.rni ≡ ltb 0 (count_of 2 ps)
  pub user : count_of 3 ps ≤ 1 → m.user ≡ user_of ps

pub marks-say : (ps : List (List ℕ)) → Says (marks_from no_marks ps) ps
marks-say ps =
    record {
      odd = seen-after no_marks ps 0 (omega arith);
      load_rr = seen-after no_marks ps 1 (omega arith);
      rni = seen-after no_marks ps 2 (omega arith);
      user = user-said no_marks ps refl;
    }
