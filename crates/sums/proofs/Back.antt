-- Adding and then taking the source away again, by what demand 3 says of each: the cuts and what the run does between are of no account. Assumes nothing.
use Prim.Native.Nat.{ℕ, ◌+◌, ◌-◌, ◌^◌, ◌%◌, ◌<◌}
use mathlib.Core.Path.{◌≡◌, refl, ap₂, sym, ◌∙◌}
use mathlib.Core.Bool.{Bool, true, false}
use mathlib.Core.List.{List, [], ◌∷◌}
use native.Mathlib.Omega.{arith}
use native.Mathlib.Nat.{mod-eq_of_lt}
use lib.Dec.{ltb}
use lib.ListN.{length, get_or}
use lib.Seq.{ext_get_or}
use borrow.Author.Tests.{ltb-true, ltb-false}
use Rattle.alu.proofs.Laws.{value-below}
use Rattle.alu.specs.Numbers.{value}
use Rattle.engine.specs.Run.{World}
use Rattle.numbers.specs.Numbers.{Bytes}
use Rattle.sums.specs.Sums.{Cut, targets, sources, byte_count, place_of, registers_at, PlaceOfNone, target_in, source_in, Summed, TwoCuts, Back}
use Rattle.sums.specs.Sums.Sign.{plus, minus}
use Rattle.sums.proofs.Chain.{Separate, separate, separate-tail}
use Rattle.sums.proofs.Given.{same_length, registers-length, registers-bytes, all-agree}
use Rattle.sums.proofs.Numbers.{remainder}

-- ---- numbers

-- x + y - y, all modulo n
number-back : (n x y : ℕ) → x < n → y < n → ((x + y) % n + n - y) % n ≡ x
number-back n x y hx hy = go (ltb (x + y) n) refl
  where
    go : (b : Bool) → ltb (x + y) n ≡ b → ((x + y) % n + n - y) % n ≡ x
    go true t =
        let sum : (x + y) % n ≡ x + y = mod-eq_of_lt (ltb-true (x + y) n t) in
        remainder x n _ 1 hx (omega arith)
    go false t =
        let sum : (x + y) % n ≡ x + y - n = remainder (x + y - n) n (x + y) 1 (omega arith) (omega (arith, ltb-false (x + y) n t)) in
        remainder x n _ 0 hx (omega (arith, ltb-false (x + y) n t))

-- bytes are known by their number
bytes_same : (xs ys : List ℕ) → Bytes xs → Bytes ys → length xs ≡ length ys → value xs ≡ value ys → xs ≡ ys
bytes_same [] [] bx by l e = refl
bytes_same [] (y ∷ ys) bx by l e = absurd (omega arith)
bytes_same (x ∷ xs) [] bx by l e = absurd (omega arith)
bytes_same (x ∷ xs) (y ∷ ys) bx by l e =
    let low : x ≡ y = omega (arith, bx.0, by.0) in
    ap₂ ◌∷◌ low (bytes_same xs ys bx.1 by.1 (omega arith) (omega arith))

-- ---- registers

away : (ds : List ℕ) (e : ℕ) (es : List ℕ) → Separate ds (e ∷ es) → PlaceOfNone (place_of e) ds
away [] e es h = tt
away (d ∷ ds) e es h = ((λ q. h.2.0 (sym q)), away ds e es h.3)

-- where no other register than ds changes, es that stand apart are as before
kept : (xs ys ds es : List ℕ) → Separate ds es → ((i : ℕ) → PlaceOfNone i ds → get_or ys i 0 ≡ get_or xs i 0) → registers_at ys es ≡ registers_at xs es
kept xs ys ds [] h f = refl
kept xs ys ds (e ∷ es) h f = ap₂ ◌∷◌ (f (place_of e) (away ds e es h)) (kept xs ys ds es (separate-tail ds e es h) f)

-- ---- there and back

-- from v by a sum to m, and from a world u with the same registers by a difference to w
module _ (there back : Cut) (ws ws' : List ℕ) (v m u w : World) (two : TwoCuts there back) (size : length v.file ≡ 26) (bytes : Bytes v.file)
    (sum : Summed plus there ws v m) (joined : u.file ≡ m.file) (difference : Summed minus back ws' u w) where
  source-kept : registers_at m.file (sources there) ≡ registers_at v.file (sources there)
  source-kept = kept v.file m.file (targets there) (sources there) (separate (targets there) (sources there) two.fair.different) sum.others

  abbrev n : ℕ
  n = 256 ^ byte_count there

  below : (ds : List ℕ) → length ds ≡ byte_count there → value (registers_at v.file ds) < n
  below ds e =
      rw (registers-length v.file ds ∙ e) at (value-below (registers_at v.file ds) (registers-bytes v.file ds bytes))

  target-back : target_in w.file there ≡ target_in v.file there
  target-back =
      rw (← two.same-targets, ← two.same-sources, joined, source-kept, sum.target) at difference.target
      ∙ number-back n (target_in v.file there) (source_in v.file there) (below (targets there) refl) (below (sources there) (sym (same_length there)))

  bytes_back : registers_at w.file (targets there) ≡ registers_at v.file (targets there)
  bytes_back =
      bytes_same _ _ (registers-bytes w.file (targets there) difference.bytes) (registers-bytes v.file (targets there) bytes)
      (registers-length w.file (targets there) ∙ sym (registers-length v.file (targets there))) target-back

  registers-back : w.file ≡ v.file
  registers-back =
      ext_get_or 0 w.file v.file (difference.file ∙ sym size)
      (λ i l. all-agree v.file w.file i (targets there) bytes_back
      (λ o. rw (← two.same-targets, joined) at (difference.others i) o ∙ sum.others i o))

  pub restored : Back there back v w
  restored =
      record {
        registers = registers-back;
        flags = rw (← two.same-targets, ← two.same-sources, joined, source-kept, sum.target, registers-back) at difference.flags;
      }
