-- Words and the bytes in which they are handed over are the same thing said twice: each comes back from the other. Assumes nothing.
use Prim.Native.Nat.{ℕ, zero, suc, ◌+◌, ◌*◌, ◌/◌, ◌%◌, ◌<◌, ◌≤◌}
use mathlib.Core.Path.{◌≡◌, refl, ◌∙◌, sym}
use mathlib.Core.Bool.{Bool, true, false}
use mathlib.Core.List.{List, [], ◌∷◌, ◌++◌}
use native.Mathlib.Omega.{arith}
use lib.Dec.{ltb}
use lib.ListN.{length, drop, length-drop}
use lib.Seq.{get_or-drop, drop-cons}
use borrow.Author.Tests.{ltb-false, le-ltb}
use Rattle.choose.specs.Below.{firsts}
use Rattle.choose.specs.Ranged.{pick}
use Rattle.code.proofs.Words.{apart-is}
use Rattle.numbers.specs.Numbers.{byte_at, word_at, Bytes}
use Rattle.numbers.proofs.Laws.{byte-below, drop-bytes}
use Rattle.listing.proofs.Laws.{length-firsts, bytes-length}
use Rattle.listing.specs.Assembled.{report_of, bytes_of, assembled_of, assembled_into}
use Rattle.listing.specs.Listed.{word_count, words_in, text_of}
use Rattle.listing_laws.specs.Accepted.{FourBytes, Listed}
use Rattle.listing_laws.proofs.There.{listed-fields, words_back, listing-accepted}

-- ---- one word and its four bytes

abbrev joined : ℕ → ℕ → ℕ → ℕ → ℕ
joined a b c d = a + 256 * b + 65536 * (c + 256 * d)

word-joined : (w : ℕ) → w < 0x1_0000_0000 → joined (w % 0x100) (w / 0x100 % 0x100) (w / 0x1_0000 % 0x100) (w / 0x100_0000 % 0x100) ≡ w
word-joined w h =
    let low : w ≡ w % 0x100 + 256 * (w / 0x100) = omega arith in
    let mid : w / 0x100 ≡ w / 0x100 % 0x100 + 256 * (w / 0x1_0000) = omega arith in
    let high : w / 0x1_0000 ≡ w / 0x1_0000 % 0x100 + 256 * (w / 0x100_0000) = omega arith in
    let top : w / 0x100_0000 % 0x100 ≡ w / 0x100_0000 = omega arith in
    omega arith

record InBytes (w a b c d : ℕ) : Type 0 where
  pub first : w % 0x100 ≡ a
  pub second : w / 0x100 % 0x100 ≡ b
  pub third : w / 0x1_0000 % 0x100 ≡ c
  pub fourth : w / 0x100_0000 % 0x100 ≡ d

in_bytes : (a b c d : ℕ) → a < 256 → b < 256 → c < 256 → d < 256 → InBytes (joined a b c d) a b c d
in_bytes a b c d ha hb hc hd = record { first = omega arith; second = omega arith; third = omega arith; fourth = omega arith }

-- ---- the words after the first four bytes

firsts-later : {A : Type 0} (f g : ℕ → A) → ((i : ℕ) → f (suc i) ≡ g i) → (i n : ℕ) → firsts f (suc i) n ≡ firsts g i n
firsts-later f g e i zero = refl
firsts-later f g e i (suc n) = rw (e i, firsts-later f g e (suc i) n)

byte-later : (s : List ℕ) (i j : ℕ) → j ≡ 4 + i → byte_at s j ≡ byte_at (drop 4 s) i
byte-later s i j e = rw (e, get_or-drop 4 s i 0)

word-later : (s : List ℕ) (i : ℕ) → word_at s (suc i) ≡ word_at (drop 4 s) i
unfolding word_at
word-later s i =
    omega (
      arith,
      byte-later s (i * 4) (suc i * 4) (omega arith),
      byte-later s (i * 4 + 1) (suc i * 4 + 1) (omega arith),
      byte-later s (i * 4 + 2) (suc i * 4 + 2) (omega arith),
      byte-later s (i * 4 + 2 + 1) (suc i * 4 + 2 + 1) (omega arith),
    )

-- ---- words to bytes and back

words-bytes : (ws : List ℕ) → FourBytes ws → firsts (word_at (bytes_of ws)) 0 (length ws) ≡ ws
unfolding bytes_of word_at
words-bytes [] f = refl
words-bytes (w ∷ ws) f =
    let s = bytes_of (w ∷ ws) in
    rw (firsts-later (word_at s) (word_at (drop 4 s)) (word-later s) 0 (length ws), words-bytes ws f.1, word-joined w f.0)

count-all : (s : List ℕ) (n : ℕ) → length s ≡ 4 * n → n ≤ 2048 → word_count s ≡ n
count-all s n e h =
    let same : length s / 4 ≡ n = omega arith in
    rw same (go (ltb n 2048) refl)
  where
    go : (t : Bool) → ltb n 2048 ≡ t → pick t n 2048 ≡ n
    go true q = refl
    go false q = omega (arith, ltb-false n 2048 q)

pub words-bytes-words : (ws : List ℕ) → FourBytes ws → length ws ≤ 2048 → words_in (bytes_of ws) ≡ ws
words-bytes-words ws f h = rw (count-all (bytes_of ws) (length ws) (bytes-length ws) h) (words-bytes ws f)

-- ---- bytes to words and back

first-four : (s : List ℕ) → 4 ≤ length s → s ≡ byte_at s 0 ∷ byte_at s 1 ∷ byte_at s 2 ∷ byte_at s 3 ∷ drop 4 s
first-four s h =
    drop-cons s 0 0 (omega arith)
    ∙ rw (drop-cons s 1 0 (omega arith), drop-cons s 2 0 (omega arith), drop-cons s 3 0 (omega arith))

empty : (s : List ℕ) → length s ≡ 0 → s ≡ []
empty [] e = refl
empty (x ∷ s) e = absurd (omega arith)

bytes-words : (n : ℕ) (s : List ℕ) → Bytes s → length s ≡ 4 * n → bytes_of (firsts (word_at s) 0 n) ≡ s
unfolding bytes_of word_at
bytes-words zero s b e = sym (empty s e)
bytes-words (suc n) s b e =
    let q = in_bytes (byte_at s 0) (byte_at s 1) (byte_at s 2) (byte_at s 3) (byte-below s b 0) (byte-below s b 1) (byte-below s b 2) (byte-below s b 3) in
    let later = bytes-words n (drop 4 s) (drop-bytes 4 s b) (omega (arith, length-drop 4 s)) in
    rw (firsts-later (word_at s) (word_at (drop 4 s)) (word-later s) 0 n, later, q.first, q.second, q.third, q.fourth)
    (sym (first-four s (omega arith)))

pub bytes-words-bytes : (s : List ℕ) → Bytes s → length s % 4 ≡ 0 → length s ≤ 8192 → bytes_of (words_in s) ≡ s
bytes-words-bytes s b e h =
    let n = length s / 4 in
    let all : length s ≡ 4 * n = omega arith in
    rw (count-all s n all (omega arith)) (bytes-words n s b all)

-- ---- listed words fit
pub listed-fitting : (ws : List ℕ) → Listed ws → FourBytes ws
listed-fitting [] l = tt
listed-fitting (w ∷ ws) l =
    let (f, e) = listed-fields w l.0 in
    (omega (arith, (apart-is w f e).0), listed-fitting ws l.1)

-- ---- there and back, of what is handed over

module _ (s out : List ℕ) (b : Bytes s) (e : length s % 4 ≡ 0) (h : length s ≤ 8192) (l : Listed (words_in s)) (room : length s ≤ length out) where
  count : length (words_in s) ≡ length s / 4
  count = length-firsts (word_at s) 0 (word_count s) ∙ count-all s (length s / 4) (omega arith) (omega arith)

  -- the listing of listed words assembles to as many bytes
  pub listing-assembles : assembled_of (text_of s) (length out) ≡ report_of 0 0 (length s)
  unfolding assembled_of
  listing-assembles =
      let size : 4 * length (words_in s) ≡ length s = omega (arith, count) in
      rw (listing-accepted (words_in s) l (omega (arith, count)), size, le-ltb (length out) (length s) room)

  -- and these are the bytes that were listed
  pub bytes_back : assembled_into (text_of s) out ≡ s ++ drop (length s) out
  unfolding assembled_into
  bytes_back = rw (listing-assembles, words_back (words_in s) l (omega (arith, count)), bytes-words-bytes s b e h)
