-- What the check tells is one of the cases of 02, and each case tells nothing else. Assumes nothing.
use Prim.Native.Nat.{ℕ, zero, suc, ◌+◌, ◌/◌, ◌<◌, ◌≤◌}
use mathlib.Core.Path.{◌≡◌, refl, sym, ap, subst, ◌∙◌}
use mathlib.Core.Bool.{Bool, true, false}
use mathlib.Core.List.{List, [], ◌∷◌}
use mathlib.Core.Logic.{◌⊎◌, inl, inr, ⊎_elim}
use native.Mathlib.Omega.{arith}
use borrow.Author.Tests.{ne_eqb, eqb-true, eqb-false, ltb-true, ltb-false}
use lib.Dec.{eqb, ltb}
use lib.ListN.{length}
use Rattle.choose.specs.Below.{firsts}
use Rattle.deck.specs.Slip.{FirstFailing}
use Rattle.deck.proofs.Slip.{one_number}
use Rattle.listing.specs.Listed.{listed_of}
use Rattle.listing.specs.declared.Report.{Report as Listed}
use Rattle.listing_laws.proofs.Exact.{lists-only}
use Rattle.listing_laws.proofs.Told.{lists}
use Rattle.listing_laws.specs.Told.{None, FirstAt, answers_in, Whole, Lists}
use Rattle.numbers.specs.Numbers.{word_at}
use Rattle.profile.specs.Profile.{report_of, rule_of, broken_from, profile_of}
use Rattle.profile.specs.declared.Report.{Report}
use Rattle.profile_laws.specs.Rules.{rules, Kept, Keeps, Broken, Tells}
use Rattle.profile_laws.proofs.Rules.{kept-none, rule-exactly, rule-kept}

-- ---- the words one after the other

none_first : (k : ℕ) (xs : List ℕ) (j : ℕ) → None k xs → FirstAt k xs j → ⊥
none_first k [] j none f = f
none_first k (x ∷ xs) zero none f = none.0 f
none_first k (x ∷ xs) (suc j) none f = none_first k xs j none.1 f.1

module _ (s : List ℕ) where
  abbrev KeptAt : ℕ → Type 0
  KeptAt i = Kept (rules i (word_at s i))

  -- of n words from i on: the first that breaks a rule, or none
  abbrev Scanned : ℕ → ℕ → Report → Type 0
  Scanned i n r =
      ((a : ℕ) × (i ≤ a) × (a < i + n) × (rule_of a (word_at s a) ≡ 0 → ⊥) × ((j : ℕ) → i ≤ j → j < a → KeptAt j)
      × (r ≡ report_of 25 a (rule_of a (word_at s a))))
      ⊎ (((j : ℕ) → i ≤ j → j < i + n → KeptAt j) × (r ≡ report_of 0 0 0))

  -- one more kept before
  more : (i n : ℕ) → KeptAt i → (r : Report) → Scanned (suc i) n r → Scanned i (suc n) r
  more i n k r =
      ⊎_elim
      (λ (a, lo, hi, z, before, e). inl (a, omega arith, omega arith, z, (λ j l u. from j l (λ q. before j q u)), e))
      (λ (all, e). inr ((λ j l u. from j l (λ q. all j q (omega arith))), e))
    where
      from : (j : ℕ) → i ≤ j → (suc i ≤ j → KeptAt j) → KeptAt j
      from j l rest = go (ltb i j) refl
        where
          go : (t : Bool) → ltb i j ≡ t → KeptAt j
          go true q = rest (omega (arith, ltb-true i j q))
          go false q = let e : i ≡ j = omega (arith, ltb-false i j q) in subst KeptAt e k

  scanned : (i n : ℕ) → Scanned i n (broken_from i (firsts (word_at s) i n))
  unfolding broken_from
  scanned i zero = inr ((λ j l u. absurd (omega arith)), refl)
  scanned i (suc n) = go (eqb (rule_of i (word_at s i)) 0) refl (scanned (suc i) n)
    where
      go : (t : Bool) → eqb (rule_of i (word_at s i)) 0 ≡ t → Scanned (suc i) n (broken_from (suc i) (firsts (word_at s) (suc i) n))
          → Scanned i (suc n) (broken_from i (firsts (word_at s) i (suc n)))
      go true q rest = rw q (more i n (rule-kept i (word_at s i) (eqb-true _ 0 q)) _ rest)
      go false q rest = rw q (inl (i, omega arith, omega arith, eqb-false _ 0 q, (λ j l u. absurd (omega arith)), refl))

  -- ---- there is one first offending address, and one first rule
  clash : (a r b : ℕ) → Broken s a r → ((i : ℕ) → i < b → KeptAt i) → b ≤ a
  clash a r b x before = go (ltb a b) refl
    where
      go : (t : Bool) → ltb a b ≡ t → b ≤ a
      go true q = absurd (x.some (kept-none (rules a (word_at s a)) r (before a (ltb-true a b q)) x.first))
      go false q = ltb-false a b q

  one-broken : (a r b q : ℕ) → Broken s a r → Broken s b q → report_of 25 a r ≡ report_of 25 b q
  one-broken a r b q x y =
      let same : a ≡ b = omega (arith, clash a r b x y.before, clash b q a y x.before) in
      let first = subst (λ (i : ℕ). FirstFailing (rules i (word_at s i)) r) same x.first in
      ap (λ (i : ℕ). report_of 25 i r) same ∙ ap (report_of 25 b) (one_number (rules b (word_at s b)) r q first y.first)

  -- words that the lister gives no 2
  abbrev Rest : Report
  Rest = broken_from 0 (firsts (word_at s) 0 (length s / 4))

  rest-is : ((a : ℕ) × (r : ℕ) × Broken s a r × (Rest ≡ report_of 25 a r)) ⊎ (Keeps s × (Rest ≡ report_of 0 0 0))
  rest-is =
      ⊎_elim
      (λ (a, lo, hi, z, before, e).
      inl (
        a,
        rule_of a (word_at s a),
        record { there = omega arith; some = z; before = λ i l. before i (omega arith) l; first = rule-exactly a (word_at s a) },
        e,
      ))
      (λ (all, e). inr ((λ i l. all i (omega arith) (omega arith)), e))
      (scanned 0 (length s / 4))

  rest-tells : None 2 (answers_in s) → Whole s → Tells s Rest
  rest-tells none whole =
      ⊎_elim (λ (a, r, x, e). rw e (Tells.broken none whole a r x)) (λ (keeps, e). rw e (Tells.accepted none whole keeps)) rest-is

  rest-only : (r : Report) → ((a q : ℕ) → Broken s a q → r ≡ report_of 25 a q) → (Keeps s → r ≡ report_of 0 0 0) → r ≡ Rest
  rest-only r broken kept = ⊎_elim (λ (a, q, x, e). broken a q x ∙ sym e) (λ (keeps, e). kept keeps ∙ sym e) rest-is

  -- ---- the lister's answer decides, with room for one byte
  abbrev room : List ℕ
  room = 0 ∷ []

  is-two : (at n : ℕ) → listed_of s 1 ≡ record { answer = 2; at = at; length = n } → profile_of s ≡ report_of 2 at 0
  unfolding profile_of
  is-two at n e = rw e

  no-two : ((listed_of s 1).answer ≡ 2 → ⊥) → profile_of s ≡ Rest
  unfolding profile_of
  no-two z = rw (ne_eqb _ 2 z)

  -- the lister answers something else
  not-two : {r : Listed} → r ≡ listed_of s 1 → (r.answer ≡ 2 → ⊥) → profile_of s ≡ Rest
  not-two e z = no-two (λ two. z (ap (λ (x : Listed). x.answer) e ∙ two))

  -- the lister gives no 2 to whole words in range
  whole-rest : None 2 (answers_in s) → Whole s → profile_of s ≡ Rest
  whole-rest none whole = go (lists s room) refl
    where
      go : {r : Listed} {o : List ℕ} → Lists s room r o → r ≡ listed_of s 1 → profile_of s ≡ Rest
      go (Lists.over j f) e = absurd (none_first 2 (answers_in s) j none f)
      go (Lists.other_length two other) e = absurd (other whole)
      go (Lists.unlisted two w j f) e = not-two e (λ z. omega arith)
      go (Lists.short two w six h) e = not-two e (λ z. omega arith)
      go (Lists.done two w six h) e = not-two e (λ z. omega arith)

  pub tells : Tells s (profile_of s)
  tells = go (lists s room) refl
    where
      rest : None 2 (answers_in s) → Whole s → Tells s (profile_of s)
      rest none whole = rw (whole-rest none whole) (rest-tells none whole)

      go : {r : Listed} {o : List ℕ} → Lists s room r o → r ≡ listed_of s 1 → Tells s (profile_of s)
      go (Lists.over j f) e = rw (is-two j 0 (sym e)) (Tells.over j f)
      go (Lists.other_length none other) e = rw (is-two 2048 0 (sym e)) (Tells.other_length none other)
      go (Lists.unlisted none whole j f) e = rest none whole
      go (Lists.short none whole six h) e = rest none whole
      go (Lists.done none whole six h) e = rest none whole

  -- words that keep all rules break none
  not-both : (a r : ℕ) → Keeps s → Broken s a r → ⊥
  not-both a r keeps x = x.some (kept-none (rules a (word_at s a)) r (keeps a x.there) x.first)

  pub tells-only : {r : Report} → Tells s r → r ≡ profile_of s
  tells-only (Tells.over j f) = sym (is-two j 0 (sym (lists-only {s = s} {out = room} (Lists.over j f)).0))
  tells-only (Tells.other_length none other) = sym (is-two 2048 0 (sym (lists-only {s = s} {out = room} (Lists.other_length none other)).0))
  tells-only (Tells.broken none whole a r x) =
      rest-only (report_of 25 a r) (λ b q y. one-broken a r b q x y) (λ keeps. absurd (not-both a r keeps x)) ∙ sym (whole-rest none whole)
  tells-only (Tells.accepted none whole keeps) =
      rest-only (report_of 0 0 0) (λ b q y. absurd (not-both b q keeps y)) (λ k. refl) ∙ sym (whole-rest none whole)

  -- accepted words keep all rules
  pub accepted-keeps : (profile_of s).answer ≡ 0 → Keeps s
  accepted-keeps = go tells
    where
      go : {r : Report} → Tells s r → r.answer ≡ 0 → Keeps s
      go (Tells.over j f) e = absurd (omega arith)
      go (Tells.other_length none other) e = absurd (omega arith)
      go (Tells.broken none whole a r x) e = absurd (omega arith)
      go (Tells.accepted none whole keeps) e = keeps
