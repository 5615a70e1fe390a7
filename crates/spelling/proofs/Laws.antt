-- What was added to a line, and then more: one law for every function that adds several things one after the other.
use Prim.Native.Nat.{ℕ, ◌+◌, ◌<◌, ◌≤◌}
use mathlib.Core.Path.{◌≡◌, refl, sym, ◌∙◌, ap}
use mathlib.Core.Bool.{Bool, true, false}
use mathlib.Core.List.{List, [], ◌∷◌, ◌++◌}
use native.Mathlib.Omega.{arith}
use mathlib.Core.Logic.{◌⊎◌, inl, inr}
use native.Mathlib.Numerals.{add-one}
use lib.ListN.{length, length-append, take, set}
use lib.Seq.{take-suc-set}
use Rattle.std.specs.Bool.{then_some}
use Rattle.std.proofs.lemmas.Bool.{cases_lt}
use Rattle.std.proofs.lemmas.List.{append-nil, length-take, take_all, take-append-le, length-take-le, append_assoc}
use Rattle.spelling.specs.Line.{text_of, Adds}
use Rattle.spelling.specs.Spelling.{digit_if, digit_in, operand_of, operand_in, mark_of, mark_in}
use Rattle.spelling.specs.declared.line.Line.{Line}

-- what is let go for want of room is let go of the whole too
take-append : (n : ℕ) (xs ys : List ℕ) → take n (take n xs ++ ys) ≡ take n (xs ++ ys)
take-append n xs ys = go (cases_lt n (length xs))
  where
    go : (n < length xs) ⊎ (length xs ≤ n) → take n (take n xs ++ ys) ≡ take n (xs ++ ys)
    go (inl h) =
        let few : length (take n xs) ≡ n = length-take-le n xs (omega arith) in
        take-append-le n (take n xs) ys (omega arith) ∙ take_all n (take n xs) (omega arith) ∙ sym (take-append-le n xs ys (omega arith))
    go (inr h) = ap (λ (l : List ℕ). take n (l ++ ys)) (take_all n xs h)

infixl 5 ◌then◌
pub ◌then◌ : {before mid after : Line} {xs ys : List ℕ} {most more : ℕ}
    → Adds before xs most mid → Adds mid ys more after → Adds before (xs ++ ys) (most + more) after
◌then◌ {before} {xs = xs} {ys = ys} first second =
    record {
      text = second.text ∙ rw first.text (take-append 40 (text_of before ++ xs) ys ∙ ap (take 40) (append_assoc (text_of before) xs ys));
      short = omega (arith, length-append xs ys, first.short, second.short);
    }

-- nothing was added
pub nothing : (line : Line) (most : ℕ) → Adds line [] most line
nothing line most =
    let few : length (text_of line) ≤ 40 = omega (arith, line.fits, length-take line.length line.bytes) in
    record { text = sym (rw append-nil (take_all 40 (text_of line) few)); short = omega arith }

-- one byte more, where there is room
pub pushed : (line : Line) (b : ℕ) → line.length < 40 → length line.bytes ≡ 40
    → take (line.length + 1) (set line.bytes line.length b) ≡ take 40 (text_of line ++ b ∷ [])
pushed line b h e =
    let one : take (line.length + 1) (set line.bytes line.length b) ≡ text_of line ++ b ∷ [] =
    rw add-one (take-suc-set line.bytes line.length b (omega arith)) in
    let few : length (text_of line ++ b ∷ []) ≤ 40 = omega (arith, length-append (text_of line) (b ∷ []), length-take line.length line.bytes) in
    one ∙ sym (take_all 40 (text_of line ++ b ∷ []) few)

-- and none, where there is none
pub full : (line : Line) (b : ℕ) → 40 ≤ line.length → length line.bytes ≡ 40 → Adds line (b ∷ []) 1 line
full line b h e =
    let all : length (text_of line) ≡ 40 = omega (arith, line.fits, length-take line.length line.bytes) in
    record {
      text = sym (take-append-le 40 (text_of line) (b ∷ []) (omega arith) ∙ take_all 40 (text_of line) (omega arith));
      short = omega arith;
    }

-- what stands in a line that was empty
pub alone : {before after : Line} {bs : List ℕ} {most : ℕ} → Adds before bs most after → text_of before ≡ [] → most ≤ 40 → text_of after ≡ bs
alone {before} {after} {bs} adds e h = adds.text ∙ rw e (take_all 40 bs (omega (arith, adds.short)))

-- what there is or isn't, by its test
pub digit-given : (t : Bool) (n : ℕ) → digit_in (then_some t n) ≡ digit_if t n
digit-given true n = refl
digit-given false n = refl

pub operand-given : (k : ℕ) (t : Bool) (n : ℕ) → operand_in k (then_some t n) ≡ operand_of t k n
operand-given k true n = refl
operand-given k false n = refl

pub mark-given : (t : Bool) (name : ℕ) → mark_in (then_some t name) ≡ mark_of t name
mark-given true name = refl
mark-given false name = refl
