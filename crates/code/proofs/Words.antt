-- The two ways, word to fields to word and fields to word to fields, from the lemmas over the class and the facts of all top bytes.
use Prim.Native.Nat.{ℕ, ◌+◌, ◌*◌, ◌/◌, ◌%◌, ◌<◌}
use mathlib.Core.Path.{◌≡◌, refl, ◌∙◌, sym, ap}
use mathlib.Core.Bool.{Bool, true, false}
use native.Mathlib.Omega.{arith}
use lib.Dec.{ltb}
use borrow.Author.Tests.{lt-ltb, ltb-true, eq-eqb, eqb-true}
use Rattle.std.specs.Prelude.{Ok, Err}
use Rattle.choose.specs.Ranged.{bit, pick}
use Rattle.code.specs.CodeRows.{class_of, listed, class_number}
use Rattle.choose.proofs.Tests.{both_true, bit_le, is-bit, bit_is}
use Rattle.code.specs.Word.{top_of, code_of, code_in, fields_in, apart_as, apart_of, well_formed, low_of, word_of, WellFormed, Fit}
use Rattle.code.specs.declared.Class.{Class}
use Rattle.code.specs.declared.Operands.{Operands}
use Rattle.code.specs.declared.Fields.{Fields}
use Rattle.code.specs.declared.Unread.{Unread}
use Rattle.code.proofs.Shape.{stride_of, split, code-twice, code-back, back, high, fits-own, low-own, same_class, fit, fit-listed, fit-room, read_back}
use Rattle.code.proofs.Tops.{listed_below, class-of-code, class-kept}

-- the class of a word, and the fields that it has
abbrev pub class_in : ℕ → Class
class_in w = class_of (top_of w)

-- a word is taken apart as its own class
pub apart-as : (w : ℕ) → apart_as (class_in w) w ≡ apart_of w
unfolding apart_as apart_of
apart-as w = refl

-- a word that comes apart is below 2^22 and listed, and the fields are its own
pub apart-is : (w : ℕ) (f : Fields) → apart_of w ≡ Ok f → (w < 0x40_0000) × (listed (class_in w) ≡ true) × (fields_in (class_in w) w ≡ f)
unfolding apart_of
apart-is w f e = go (ltb w 0x40_0000) (listed (class_in w)) refl refl e
  where
    go : (a b : Bool) → ltb w 0x40_0000 ≡ a → listed (class_in w) ≡ b
        → pick a (pick b (Ok (fields_in (class_in w) w)) (Err Unread.Unlisted)) (Err Unread.OutOfRange) ≡ Ok f
        → (w < 0x40_0000) × (listed (class_in w) ≡ true) × (fields_in (class_in w) w ≡ f)
    go true true p q r = (ltb-true w 0x40_0000 p, q, cc)
    go true false p q r = let z : ◌≡◌ {A = ℕ} 0 1 = cc in absurd (omega arith)
    go false b p q r = let z : ◌≡◌ {A = ℕ} 0 1 = cc in absurd (omega arith)

-- and such a word does come apart
pub is-apart : (w : ℕ) → w < 0x40_0000 → listed (class_in w) ≡ true → apart_of w ≡ Ok (fields_in (class_in w) w)
unfolding apart_of
is-apart w h e = rw (lt-ltb w 0x40_0000 h, e)

-- the fields of a listed word are well formed
pub own-well-formed : (w : ℕ) → listed (class_in w) ≡ true → well_formed (fields_in (class_in w) w) ≡ true
unfolding well_formed fields_in code_of
own-well-formed w e =
    let k = class_in w in
    rw (
      class-of-code (top_of w) (omega arith),
      eq-eqb (class_number k) (class_number k) refl,
      eq-eqb _ _ (code-twice k (top_of w)),
      fits-own k w e,
      lt-ltb (w / 0x4_0000 % 0x10) 0x10 (omega arith),
    )

-- and their bits are the word
pub own-word : (w : ℕ) → w < 0x40_0000 → listed (class_in w) ≡ true → word_of (fields_in (class_in w) w) ≡ w
unfolding word_of fields_in
own-word w h e =
    let k = class_in w in
    rw (low-own k w e, split k w, bit_is (w / 0x1_0000 % 2) (omega arith), bit_is (w / 0x2_0000 % 2) (omega arith)) (high w h)

pub well-formed-says : (f : Fields) → well_formed f ≡ true → WellFormed f
unfolding well_formed
well-formed-says f e =
    let (three, user) = both_true _ _ e in
    let (two, operands) = both_true _ _ three in
    let (class, code) = both_true _ _ two in
    record {
      own = same_class f.class (class_of f.code) class;
      first = eqb-true (code_in f.class f.code) f.code code;
      fitting = fit f.class f.operands operands;
      in-range = ltb-true f.user 0x10 user;
    }

module _ (k : Class) (c : ℕ) (o : Operands) (own : k ≡ class_of c) (first : code_in k c ≡ c) (g : Fit k o) where
  -- the top byte of a code and its operands' bits has the code's class
  class_back : class_of (c + low_of o / 0x100) ≡ k
  unfolding code_of
  class_back =
      let here : c < 0x100 = listed_below c (rw own at (fit-listed g)) in
      let code : code_of c ≡ c = rw own at first in
      let room : low_of o / 0x100 < stride_of k = omega (arith, fit-room g) in
      rw code at (class-kept c (low_of o / 0x100) here (rw own at room)) ∙ sym own

  -- with the bits above, such a word comes apart into what it was made of
  word_back : (a b : Bool) (u : ℕ) → u < 0x10
      → apart_of (low_of o + c * 0x100 + bit a * 0x1_0000 + bit b * 0x2_0000 + u * 0x4_0000)
      ≡ Ok (record { code = c; class = k; operands = o; load_rr = a; rni = b; user = u })
  unfolding fields_in
  word_back a b u h =
      let l = low_of o in
      let w = l + c * 0x100 + bit a * 0x1_0000 + bit b * 0x2_0000 + u * 0x4_0000 in
      let page : c + l / 0x100 < 0x100 = listed_below (c + l / 0x100) (rw class_back (fit-listed g)) in
      let s = back k c l (bit a) (bit b) u (omega arith) first (fit-room g) (omega (arith, bit_le a)) (omega (arith, bit_le b)) h in
      let there : class_in w ≡ k = ap class_of s.top ∙ class_back in
      is-apart w s.below (rw there (fit-listed g))
      ∙ rw (
        there,
        s.top,
        code-back k c l first (fit-room g),
        read_back w g s.low,
        s.rr,
        s.rni,
        s.user,
        is-bit a _ refl,
        is-bit b _ refl,
      )

pub word-apart : (f : Fields) → well_formed f ≡ true → apart_of (word_of f) ≡ Ok f
unfolding word_of
word-apart f e =
    let s = well-formed-says f e in
    word_back f.class f.code f.operands s.own s.first s.fitting f.load_rr f.rni f.user s.in-range
