-- Each chunk of four bytes is a word of the part.
use Rattle.std.proofs.Common.{◌≡◌, ◌+◌, ◌*◌, ◌/◌, ◌<◌, List, [], ℕ, zero, suc, length, take, drop, get_or, refl, ap, ◌∙◌, arith, add-one}
use Rattle.std.proofs.Common.{get_or-take, get_or-drop}
use Rattle.std.specs.Simd.{first_chunks}
use lib.Seq.{drop-drop}
use Rattle.numbers.specs.Numbers.{byte_at, quad_of, word_at}
use Rattle.deck.proofs.Every.{or-none}
use Rattle.deck.proofs.every_quad.Goals as goal

chunk_at : (k i : ℕ) (xs d : List ℕ) → i < k → get_or (first_chunks 4 k xs) i d ≡ take 4 (drop (i * 4) xs)
chunk_at zero i xs d l = absurd (omega arith)
chunk_at (suc k) zero xs d l = refl
chunk_at (suc k) (suc i) xs d l =
    let places : 4 + i * 4 ≡ suc i * 4 = omega arith in
    chunk_at k i (drop 4 xs) d (omega arith) ∙ ap (take 4) (drop-drop (i * 4) 4 xs ∙ ap (λ (j : ℕ). drop j xs) places)

byte_in : (xs : List ℕ) (i j : ℕ) → j < 4 → get_or (take 4 (drop (i * 4) xs)) j 0 ≡ byte_at xs (i * 4 + j)
byte_in xs i j l = get_or-take 4 (drop (i * 4) xs) j 0 l ∙ get_or-drop (i * 4) xs j 0

quad_in : (xs : List ℕ) (i : ℕ)
    → let t = take 4 (drop (i * 4) xs) in quad_of (get_or t 0 0) (get_or t 1 0) (get_or t 2 0) (get_or t 3 0) ≡ word_at xs i
unfolding word_at
quad_in xs i =
    let first : i * 4 + 0 ≡ i * 4 = omega arith in
    let last : i * 4 + 3 ≡ i * 4 + 2 + 1 = omega arith in
    rw (byte_in xs i 0 (omega arith), byte_in xs i 1 (omega arith), byte_in xs i 2 (omega arith), byte_in xs i 3 (omega arith), first, last)

pub loop-b0-preserved : goal.loop-b0-preserved
loop-b0-preserved c =
    let s = c.args.part.now in
    let i = c.loop-b0.b0-index in
    let within : i < length s / 4 = omega (arith, c.loop-b0-test.true, c.as_chunks.ensures.front_len) in
    let item : get_or c.as_chunks.result.0.now i [] ≡ take 4 (drop (i * 4) s) =
    ap (λ (l : List (List ℕ)). get_or l i []) c.as_chunks.ensures.front ∙ chunk_at (length s / 4) i s [] within in
    let read : c.quad.result ≡ word_at s i = c.quad.ensures ∙ rw item (quad_in s i) in
    rw (or-none, add-one, read, c.loop-b0.invariant)
