-- Two stretches of a run, one after the other, are one. Assumes nothing.
use Prim.Native.Nat.{ℕ, zero, suc, ◌+◌, ◌*◌, ◌/◌, ◌%◌, ◌<◌, ◌≤◌}
use mathlib.Core.Path.{◌≡◌, refl, ap, ◌∙◌}
use mathlib.Core.Bool.{Bool, true, false}
use mathlib.Core.List.{List}
use native.Mathlib.Omega.{arith}
use lib.Dec.{eqb, ltb}
use lib.ListN.{get_or}
use borrow.Author.Tests.{ltb-true, ltb-false}
use Rattle.choose.specs.Ranged.{pick}
use Rattle.engine.specs.Run.{World}
use Rattle.numbers.specs.Numbers.{word_at}
use Rattle.sums.specs.Sums.{rr_after, Advanced}
use Rattle.attempt_laws.specs.After.{following}
use Rattle.attempt_laws.specs.Fate.{user_bits}

rr-further : (ws : List ℕ) (at n n' rr : ℕ) → at < 2048 → rr_after ws at (n + n') rr ≡ rr_after ws ((at + n) % 2048) n' (rr_after ws at n rr)
rr-further ws at zero n' rr h =
    let here : (at + 0) % 2048 ≡ at = omega arith in
    let all : 0 + n' ≡ n' = omega arith in
    rw (here, all)
rr-further ws at (suc n) n' rr h =
    let next = pick (eqb (word_at ws at / 0x1_0000 % 2) 1) (following at) rr in
    let one_more : suc n + n' ≡ suc (n + n') = omega arith in
    let past : (following at + n) % 2048 ≡ (at + suc n) % 2048 = omega arith in
    rw (one_more, ← past) (rr-further ws (following at) n n' next (omega arith))

module _ (n c n' c' : ℕ) (ws : List ℕ) (v m w : World) (first : Advanced n c ws v m) (second : Advanced n' c' ws m w) where
  places : (i d : ℕ) → v.attempts * 4 ≤ i → i < (v.attempts + (n + n')) * 4 → get_or w.buffer i d ≡ 0
  places i d lo hi = go (ltb i (m.attempts * 4)) refl
    where
      go : (b : Bool) → ltb i (m.attempts * 4) ≡ b → get_or w.buffer i d ≡ 0
      go true t =
          let early = ltb-true i (m.attempts * 4) t in
          second.earlier i d early ∙ first.requests i d lo (omega (arith, first.attempts))
      go false t =
          let late = ltb-false i (m.attempts * 4) t in
          second.requests i d late (omega (arith, first.attempts))

  pub further : v.core.address.lc < 2048 → 1 ≤ n' → Advanced (n + n') (c + c') ws v w
  further h some =
      let at = v.core.address.lc in
      record {
        answer = second.answer;
        attempts = omega (arith, first.attempts, second.attempts);
        spent = omega (arith, first.spent, second.spent);
        lc = omega (arith, first.lc, second.lc);
        rr = rw (rr-further ws at n n' v.core.address.rr h, ← first.lc, ← first.rr) second.rr;
        tsr = second.tsr ∙ first.tsr;
        bus = second.bus ∙ first.bus;
        latches = second.latches ∙ first.latches;
        outputs = second.outputs ∙ ap (λ (a : ℕ). user_bits (word_at ws a)) (omega (arith, first.lc));
        requests = places;
        earlier = λ i d l. second.earlier i d (omega (arith, first.attempts)) ∙ first.earlier i d l;
        later = λ i d l. second.later i d (omega (arith, first.attempts)) ∙ first.later i d (omega arith);
        room = second.room ∙ first.room;
      }
