-- The numbers before the first attempt, of what the host is handed back: 1-4, 9 and 24, exactly.
-- Assumes nothing.
use mathlib.Core.Path.{◌≡◌, refl, sym, ap, ◌∙◌}
use mathlib.Core.Bool.{Bool, true, false}
use mathlib.Core.List.{List}
use mathlib.Core.Logic.{◌↔◌, ◌⊎◌, ⊎_elim}
use Prim.Native.Nat.{ℕ, ◌≤◌}
use native.Mathlib.Omega.{arith}
use borrow.Author.Tests.{eqb-true, eqb-false}
use lib.Dec.{eqb}
use lib.ListN.{length}
use Rattle.deck.specs.Ranges.{deck_refusal_of}
use Rattle.deck.specs.Slip.{slip, FirstFailing, BeforeAttempts, Old}
use Rattle.deck.proofs.Slip.{refusal-exactly, old-refused}
use Rattle.engine.specs.Host.{Hosted, hosted, reported, host_of}
use Rattle.engine.proofs.Hosts.{refuses}
use Rattle.numbers.specs.Numbers.{Bytes}
use Rattle.run_laws.specs.Laws.{Number}
use Rattle.run_laws.proofs.Hosts.{host-number}

module _ (deck requests state : List ℕ) (marking : ℕ) (b : Bytes deck) where
  -- "Numbers 1-4 and 9 return no attempts and no microcycles and change nothing", and 24 alike: the report has the number alone, and both buffers are as found
  pub host-untouched : (n : ℕ) → (n ≡ 0 → ⊥) → FirstFailing (slip deck (length requests) (length state) marking) n
      → host_of deck requests state marking ≡ hosted (reported n 0 0) requests state
  host-untouched n z f =
      let e : deck_refusal_of deck (length requests) (length state) marking ≡ n = (refusal-exactly deck b (length requests) (length state) marking n).1 f in
      sym (refuses deck requests state marking (λ h. z (sym e ∙ h))) ∙ ap (λ (m : ℕ). hosted (reported m 0 0) requests state) e

  -- 02, L1: "old 41-byte decks and host state buffers get 9"
  pub host-old : Old deck (length state) → host_of deck requests state marking ≡ hosted (reported 9 0 0) requests state
  host-old old =
      host-untouched 9 (λ z. omega arith)
      ((refusal-exactly deck b (length requests) (length state) marking 9).0 (old-refused deck b (length requests) (length state) marking old))

  -- an answer of 9, 24, 1, 2, 3 or 4 comes from no attempt
  from-slip : (n : ℕ) → BeforeAttempts n → (host_of deck requests state marking).report.answer ≡ n
      → deck_refusal_of deck (length requests) (length state) marking ≡ n
  from-slip n o e = go (eqb (deck_refusal_of deck (length requests) (length state) marking) 0) refl
    where
      never : Number (host_of deck requests state marking).report.answer → ⊥
      never k =
          ⊎_elim (λ (a : n ≡ 9). omega (arith, k (λ z. omega arith)))
          (⊎_elim (λ (a : n ≡ 24). omega (arith, k (λ z. omega arith))) (λ (a : (1 ≤ n) × (n ≤ 4)). omega (arith, k (λ z. omega arith)))) o

      go : (t : Bool) → eqb (deck_refusal_of deck (length requests) (length state) marking) 0 ≡ t
          → deck_refusal_of deck (length requests) (length state) marking ≡ n
      go true q = absurd (never (host-number deck requests state marking (eqb-true _ _ q) b))
      go false q = ap (λ (h : Hosted). h.report.answer) (refuses deck requests state marking (eqb-false _ 0 q)) ∙ e

  not-zero : (n : ℕ) → BeforeAttempts n → n ≡ 0 → ⊥
  not-zero n o z = ⊎_elim (λ (a : n ≡ 9). omega arith) (⊎_elim (λ (a : n ≡ 24). omega arith) (λ (a : (1 ≤ n) × (n ≤ 4)). omega arith)) o

  -- "Given exactly when", "Order: 9, then 1, 2, 3, 4", and 24 "right after 9": the answer is n exactly when test n is the first that fails
  pub host-before : (n : ℕ) → BeforeAttempts n
      → ((host_of deck requests state marking).report.answer ≡ n) ↔ FirstFailing (slip deck (length requests) (length state) marking) n
  host-before n o = (
    (λ e. (refusal-exactly deck b (length requests) (length state) marking n).0 (from-slip n o e)),
    (λ f. ap (λ (h : Hosted). h.report.answer) (host-untouched n (not-zero n o) f)),
  )
