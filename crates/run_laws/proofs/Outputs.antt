-- 02, L1: "The state keeps the last executed word's four bits, as a 42nd byte of the state": of a run, and of what the host is handed back.
-- Assumes nothing.
use mathlib.Core.Path.{◌≡◌, refl, ap, ◌∙◌}
use mathlib.Core.List.{List}
use Prim.Native.Nat.{ℕ, zero, suc, ◌+◌, ◌-◌, ◌≤◌}
use native.Mathlib.Omega.{arith}
use lib.ListN.{length}
use Rattle.attempt_laws.specs.After.{outputs_after}
use Rattle.attempt_laws.specs.Fate.{Fate, refused, waited, reset, compute-low, completed, user_bits, taken_word, fate_of}
use Rattle.attempt_laws.proofs.After.{attempt-outputs}
use Rattle.attempt_laws.proofs.Bits.{taken-outputs}
use Rattle.deck.specs.Ranges.{deck_refusal_of}
use Rattle.deck.specs.Sections.{words_part, state_part}
use Rattle.engine.specs.Host.{host_of}
use Rattle.numbers.specs.Numbers.{byte_at, word_at, Bytes}
use Rattle.rows.specs.declared.Row.{Row}
use Rattle.state.specs.File.{Leaves}
use Rattle.state.specs.declared.Core.{Core}
use Rattle.state.specs.declared.Sample.{Sample}
use Rattle.state_bytes.specs.Bytes.{core_of, tail_of}
use Rattle.state_bytes.proofs.Laws.{tail_at}
use Rattle.run_laws.specs.Attempts.{state_after, NoneCompletes, LastCompleted}
use Rattle.run_laws.specs.Returned.{sample_count, state_in, LastCompletedIn, NoneCompletesIn, Returned}
use Rattle.run_laws.proofs.Returned.{state-each}

-- ---- a run

-- what an attempt that completes no word leaves
unloaded : (f : Fate) (word before : ℕ) → (f ≡ completed → ⊥) → outputs_after f word before ≡ before
unloaded (refused n) word before h = refl
unloaded waited word before h = refl
unloaded reset word before h = refl
unloaded compute-low word before h = refl
unloaded completed word before h = absurd (h refl)

module _ (ws : List ℕ) (rs : List Row) (at : ℕ → Sample) (first : Leaves Core) where
  abbrev outputs : ℕ → ℕ
  outputs i = (state_after ws rs at first i).back.outputs

  one_more : (i : ℕ) → let k = (state_after ws rs at first i).back in
      outputs (suc i) ≡ outputs_after (fate_of ws k (at i)) (taken_word ws k) (outputs i)
  unfolding state_after
  one_more i = attempt-outputs ws rs (state_after ws rs at first i).file (state_after ws rs at first i).back (at i)

  kept : (i n : ℕ) → NoneCompletes ws rs at first i (i + n) → outputs (i + n) ≡ outputs i
  kept i zero none = ap outputs (omega arith)
  kept i (suc n) none =
      ap outputs (omega arith)
      ∙ one_more (i + n)
      ∙ unloaded _ _ _ (none (i + n) (omega arith) (omega arith))
      ∙ kept i n (λ j lo hi. none j lo (omega arith))

  pub outputs-start : (n : ℕ) → NoneCompletes ws rs at first 0 n → outputs n ≡ first.back.outputs
  unfolding state_after
  outputs-start n none = let all : 0 + n ≡ n = omega arith in rw all at (kept 0 n (λ j lo hi. none j lo (omega arith)))

  pub outputs-last : (i n : ℕ) → LastCompleted ws rs at first i n → outputs n ≡ user_bits (taken_word ws (state_after ws rs at first i).back)
  outputs-last i n (l, completes, none) =
      let all : suc i + (n - suc i) ≡ n = omega arith in
      rw all at (kept (suc i) (n - suc i) (λ j lo hi. none j (omega arith) (omega arith)))
      ∙ one_more i
      ∙ rw completes

-- ---- what is handed back after n attempts

module _ (deck requests state : List ℕ) (marking : ℕ) (b : Bytes deck) (h : deck_refusal_of deck (length requests) (length state) marking ≡ 0) (n : ℕ)
    (few : n ≤ sample_count deck) (r : Returned deck requests marking (host_of deck requests state marking) n) where
  last_byte_lem : byte_at (host_of deck requests state marking).state 41 ≡ (state_in deck marking n).back.outputs
  unfolding tail_of
  last_byte_lem =
      let x = state_in deck marking n in
      ap (λ (s : List ℕ). byte_at s 41) r.state ∙ tail_at x.file x.back (state-each deck requests state marking b h n few).size 15

  pub host-outputs-last : (i : ℕ) → LastCompletedIn deck marking i n
      → byte_at (host_of deck requests state marking).state 41 ≡ user_bits (word_at (words_part deck) (state_in deck marking i).back.address.lc)
  host-outputs-last i l =
      let k = (state_in deck marking i).back in
      last_byte_lem
      ∙ outputs-last _ _ _ _ i n l
      ∙ taken-outputs (words_part deck) k (state-each deck requests state marking b h i (omega (arith, l.0))).modification

  pub host-outputs-start : NoneCompletesIn deck marking n → byte_at (host_of deck requests state marking).state 41 ≡ byte_at (state_part deck) 41
  unfolding core_of
  host-outputs-start none = last_byte_lem ∙ outputs-start _ _ _ _ n (λ j lo. none j (omega arith))
