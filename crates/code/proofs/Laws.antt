-- What holds of every word and all fields: from the two ways in Words.antt, and by tests that antt computes over the 256 top bytes.
use Prim.Native.Nat.{ℕ, ◌+◌, ◌<◌}
use mathlib.Core.Path.{◌≡◌, refl}
use mathlib.Core.Bool.{Bool, true, false, not, ◌&&◌, beq}
use mathlib.Core.Logic.{◌↔◌}
use native.Mathlib.Omega.{arith}
use lib.Dec.{eqb, ltb, eqb→eq}
use borrow.Author.Tests.{eq-eqb}
use Rattle.std.specs.Prelude.{Ok, Err, Some, None}
use Rattle.choose.specs.Ranged.{pick, ranged}
use Rattle.choose.specs.Below.{count_below}
use Rattle.choose.proofs.Table.{below}
use Rattle.choose.proofs.Tests.{both_left, both_right, equal-tests}
use Rattle.code.specs.CodeRows.{class_of, listed, unlisted, among}
use Rattle.code.specs.Word.{top_of, code_of, last_in, fields_in, apart_of, number_of, well_formed, word_of, together_of, WellFormed}
use Rattle.code.specs.declared.Fields.{Fields}
use Rattle.code.specs.declared.Unread.{Unread}
use Rattle.code.proofs.Words.{apart-is, is-apart, own-well-formed, own-word, well-formed-says, word-apart}

-- a word that was taken apart goes together again
pub apart-together : (w : ℕ) (f : Fields) → apart_of w ≡ Ok f → together_of f ≡ Some w
unfolding together_of
apart-together w f e =
    let (h, l, q) = apart-is w f e in
    rw (← q, own-well-formed w l, own-word w h l)

-- every word below 2^22 with a listed top byte is taken apart
pub listed-apart : (w : ℕ) → w < 0x40_0000 → listed (class_of (top_of w)) ≡ true → (f : Fields) × (apart_of w ≡ Ok f)
listed-apart w h e = (fields_in (class_of (top_of w)) w, is-apart w h e)

-- 01's numbers: 2 for "a word of 2^22 or more", 6 for "code unlisted", else 0
pub apart-number : (w : ℕ) → number_of (apart_of w) ≡ pick (ltb w 0x40_0000) (pick (listed (class_of (top_of w))) 0 6) 2
unfolding apart_of
apart-number w = go (ltb w 0x40_0000) (listed (class_of (top_of w)))
  where
    go : (a b : Bool)
        → number_of (pick a (pick b (Ok (fields_in (class_of (top_of w)) w)) (Err Unread.Unlisted)) (Err Unread.OutOfRange)) ≡ pick a (pick b 0 6) 2
    go true true = refl
    go true false = refl
    go false b = refl

-- fields that were put together come apart again
pub together-apart : (f : Fields) (w : ℕ) → together_of f ≡ Some w → apart_of w ≡ Ok f
unfolding together_of
together-apart f w e = go (well_formed f) refl e
  where
    go : (b : Bool) → well_formed f ≡ b → pick b (Some (word_of f)) None ≡ Some w → apart_of w ≡ Ok f
    go true t p = let whole : word_of f ≡ w = cc in rw whole at (word-apart f t)
    go false t p = let z : ◌≡◌ {A = ℕ} 0 1 = cc in absurd (omega arith)

-- the refused fields are those that are not well formed
pub malformed : (f : Fields) → (together_of f ≡ None) ↔ (well_formed f ≡ false)
unfolding together_of
malformed f = ((λ e. go (well_formed f) refl e), (λ e. rw e))
  where
    go : (b : Bool) → well_formed f ≡ b → pick b (Some (word_of f)) None ≡ None → well_formed f ≡ false
    go true t p = let z : ◌≡◌ {A = ℕ} 0 1 = cc in absurd (omega arith)
    go false t p = t

-- and those that no word has
pub no_word : (f : Fields) → (together_of f ≡ None) ↔ ((w : ℕ) → apart_of w ≡ Ok f → ⊥)
no_word f = ((λ e w q. never e (apart-together w f q)), (λ none. go none (well_formed f) refl))
  where
    never : {w : ℕ} → together_of f ≡ None → together_of f ≡ Some w → ⊥
    never p q = let z : ◌≡◌ {A = ℕ} 0 1 = cc in omega arith

    go : ((w : ℕ) → apart_of w ≡ Ok f → ⊥) → (b : Bool) → well_formed f ≡ b → together_of f ≡ None
    go none true t = absurd (none (word_of f) (word-apart f t))
    go none false t = (malformed f).1 t

-- the fields of a word are in range, and of one class
pub apart-well-formed : (w : ℕ) (f : Fields) → apart_of w ≡ Ok f → WellFormed f
apart-well-formed w f e =
    let (h, l, q) = apart-is w f e in
    well-formed-says f (rw q at (own-well-formed w l))

-- and the code is that of the top byte
pub apart-code : (w : ℕ) (f : Fields) → apart_of w ≡ Ok f → f.code ≡ code_of (top_of w)
unfolding code_of fields_in
apart-code w f e = let (h, l, q) = apart-is w f e in rw (← q)

-- the last top byte of an instruction is one of its own, and the next is not
pub last-code : (top : ℕ) → top < 0x100
    → let last = last_in (class_of top) top in
    (code_of last ≡ code_of top) × (code_of (last + 1) ≡ code_of top → ⊥)
unfolding class_of code_of ranged
last-code top h =
    let own : ℕ → Bool = λ x. eqb (code_of (last_in (class_of x) x)) (code_of x) in
    let next : ℕ → Bool = λ x. eqb (code_of (last_in (class_of x) x + 1)) (code_of x) in
    let t = below 0x100 (λ x. own x && not (next x)) tt top h in (
      eqb→eq _ _ (both_left (own top) (not (next top)) t),
      λ e. rw (eq-eqb _ _ e) at (both_right (own top) (not (next top)) t),
    )

-- 01: "17 in all"
pub unlisted-17 : count_below 0x100 (λ top. not (listed (class_of top))) ≡ 17
unfolding class_of ranged
unlisted-17 = refl

pub unlisted-exactly : (top : ℕ) → top < 0x100 → listed (class_of top) ≡ not (among top unlisted)
unfolding class_of ranged
unlisted-exactly top h = equal-tests _ _ (below 0x100 (λ x. beq (listed (class_of x)) (not (among x unlisted))) tt top h)

-- 01: "There are 150 listed instructions, CAD among them, when literals and jump addresses are not told apart"
pub listed-150 : count_below 0x100 (λ top. listed (class_of top) && eqb (code_of top) top) ≡ 150
unfolding class_of code_of ranged
listed-150 = refl

pub cad-listed : listed (class_of 0xAC) ≡ true
unfolding class_of ranged
cad-listed = refl
