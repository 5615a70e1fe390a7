-- Any two results that the contract of `assemble` permits are equal, and of `list_words` too: what is told as a report is read back from it.
-- Assumes nothing.
use Prim.Native.Nat.{ℕ, ◌/◌, ◌≤◌}
use mathlib.Core.Path.{◌≡◌, refl, sym, ap, ◌∙◌}
use mathlib.Core.Bool.{Bool, true, false}
use mathlib.Core.List.{List, [], ◌∷◌}
use native.Mathlib.Omega.{arith}
use borrow.Author.Tests.{ltb-true, lt-ltb}
use lib.Dec.{eqb, ltb}
use lib.ListN.{length}
use Rattle.std.specs.Prelude.{Result, Ok, Err, IfErr}
use Rattle.choose.specs.Ranged.{pick}
use Rattle.code.specs.declared.Unread.{Unread}
use Rattle.refusals.proofs.One.{refusal_in, refusal_back}
use Rattle.refusals.specs.Refusals.{number_of}
use Rattle.refusals.specs.declared.Refusal.{Refusal}
use Rattle.listing.specs.Assembled.{assembled_of, assembled_into, assembled_report}
use Rattle.listing.specs.Listed.{word_count, listed_of, listed_into, listed_report, IsAmong}
use Rattle.listing.specs.declared.Report.{Report}
use Rattle.listing.specs.declared.TextRefused.{TextRefused}
use Rattle.listing.specs.declared.WordsRefused.{WordsRefused}

-- ---- the assembler: no refusal's number is 0 or 27
text_result : Report → Result ℕ TextRefused
text_result r =
    pick (eqb r.answer 0) (Ok r.length)
    (pick (eqb r.answer 27) (Err (TextRefused.Room r.length))
    (Err (TextRefused.Line r.at (refusal_in r.answer))))

line_back : (number : ℕ) (why : Refusal)
    → ◌≡◌ {A = Result ℕ TextRefused} (Err (TextRefused.Line number (refusal_in (number_of why)))) (Err (TextRefused.Line number why))
line_back number why = ap (λ (r : Refusal). Err (TextRefused.Line number r)) (refusal_back why)

text_back : (x : Result ℕ TextRefused) → text_result (assembled_report x) ≡ x
unfolding text_result
text_back (Ok n) = refl
text_back (Err (TextRefused.Room needed)) = refl
text_back (Err (TextRefused.Line number Refusal.StateRange)) = line_back number Refusal.StateRange
text_back (Err (TextRefused.Line number Refusal.WordRange)) = line_back number Refusal.WordRange
text_back (Err (TextRefused.Line number Refusal.RowRange)) = line_back number Refusal.RowRange
text_back (Err (TextRefused.Line number Refusal.SampleRange)) = line_back number Refusal.SampleRange
text_back (Err (TextRefused.Line number Refusal.NoWord)) = line_back number Refusal.NoWord
text_back (Err (TextRefused.Line number Refusal.Unlisted)) = line_back number Refusal.Unlisted
text_back (Err (TextRefused.Line number Refusal.NotAnOption)) = line_back number Refusal.NotAnOption
text_back (Err (TextRefused.Line number Refusal.NoDeck)) = line_back number Refusal.NoDeck
text_back (Err (TextRefused.Line number Refusal.Mnemonic)) = line_back number Refusal.Mnemonic
text_back (Err (TextRefused.Line number Refusal.Operand)) = line_back number Refusal.Operand
text_back (Err (TextRefused.Line number Refusal.Address)) = line_back number Refusal.Address
text_back (Err (TextRefused.Line number Refusal.Memory)) = line_back number Refusal.Memory
text_back (Err (TextRefused.Line number Refusal.NoReply)) = line_back number Refusal.NoReply
text_back (Err (TextRefused.Line number Refusal.NoMarking)) = line_back number Refusal.NoMarking

pub one-text : (x y : Result ℕ TextRefused) → assembled_report x ≡ assembled_report y → x ≡ y
one-text x y e = sym (text_back x) ∙ ap text_result e ∙ text_back y

-- for the contract of `assemble`
pub one-assemble : (text before : List ℕ) (x y : Result ℕ TextRefused) (a b : List ℕ)
    → (assembled_report x ≡ assembled_of text (length before)) × (a ≡ assembled_into text before)
    → (assembled_report y ≡ assembled_of text (length before)) × (b ≡ assembled_into text before)
    → (x ≡ y) × (a ≡ b)
one-assemble text before x y a b p q = (one-text x y (p.0 ∙ sym q.0), p.1 ∙ sym q.1)

-- ---- the lister: 2 at 2,048 is told of a length and of word 2,048, which is not looked at
pub words_result : Report → Result ℕ WordsRefused
words_result r =
    pick (eqb r.answer 0) (Ok r.length)
    (pick (eqb r.answer 27) (Err (WordsRefused.Room r.length))
    (pick (eqb r.answer 6) (Err (WordsRefused.Word r.at Unread.Unlisted))
    (pick (ltb r.at 2048) (Err (WordsRefused.Word r.at Unread.OutOfRange))
    (Err WordsRefused.Length))))

module _ (s : List ℕ) where
  few : word_count s ≤ 2048
  few = go (ltb (length s / 4) 2048) refl
    where
      go : (t : Bool) → ltb (length s / 4) 2048 ≡ t → pick t (length s / 4) 2048 ≤ 2048
      go true q = omega (arith, ltb-true _ _ q)
      go false q = omega arith

  pub words_back : (x : Result ℕ WordsRefused) → IfErr x (IsAmong s) → words_result (listed_report x) ≡ x
  unfolding words_result
  words_back (Ok n) h = refl
  words_back (Err (WordsRefused.Word address Unread.OutOfRange)) h =
      let t : ltb address 2048 ≡ true = lt-ltb _ _ (omega (arith, few)) in rw t
  words_back (Err (WordsRefused.Word address Unread.Unlisted)) h = refl
  words_back (Err WordsRefused.Length) h = refl
  words_back (Err (WordsRefused.Room needed)) h = refl

  pub one-words : (x y : Result ℕ WordsRefused) → IfErr x (IsAmong s) → IfErr y (IsAmong s) → listed_report x ≡ listed_report y → x ≡ y
  one-words x y h k e = sym (words_back x h) ∙ ap words_result e ∙ words_back y k

  -- for the contract of `list_words`
  pub one-list_words : (before : List ℕ) (x y : Result ℕ WordsRefused) (a b : List ℕ)
      → (listed_report x ≡ listed_of s (length before)) × (a ≡ listed_into s before) → IfErr x (IsAmong s)
      → (listed_report y ≡ listed_of s (length before)) × (b ≡ listed_into s before) → IfErr y (IsAmong s)
      → (x ≡ y) × (a ≡ b)
  one-list_words before x y a b p h q k = (one-words x y h k (p.0 ∙ sym q.0), p.1 ∙ sym q.1)
