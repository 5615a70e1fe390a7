-- Only the registers that a word names change: 01's lists of codes beside the table's column, and 01's names beside the places of the file.
-- Assumes nothing.
use Prim.Native.Nat.{ℕ, ◌<◌}
use mathlib.Core.Path.{◌≡◌, refl, ap, ◌∙◌}
use mathlib.Core.Bool.{Bool, true, false}
use mathlib.Core.List.{List, [], ◌∷◌}
use native.Mathlib.Omega.{arith}
use lib.Dec.{eqb, eqb→eq}
use lib.ListN.{get_or}
use Rattle.attempt.specs.Attempt.{attempt_of}
use Rattle.attempt_laws.specs.Fate.{b_in, a_in, taken_word}
use Rattle.choose.proofs.Table.{below}
use Rattle.choose.specs.Ranged.{pick, ranged}
use Rattle.code.specs.CodeRows.{class_of, listed, stores_number, stores_of, row_of}
use Rattle.code.specs.Word.{top_of}
use Rattle.code.specs.declared.Stores.{Stores}
use Rattle.code.proofs.Digits.{same-stores}
use Rattle.rows.specs.declared.Row.{Row}
use Rattle.state.proofs.Pairs.{high-inverts, lowest-inverted}
use Rattle.state.proofs.Registers.{named}
use Rattle.state.specs.File.{slot_of}
use Rattle.state.specs.Pairs.{inverted}
use Rattle.state.specs.Registers.{name_of, name_at}
use Rattle.state.specs.declared.Core.{Core}
use Rattle.state.specs.declared.Sample.{Sample}
use Rattle.table_laws.specs.Registers.{stores_both, stores_ra, stores_by, stored_in, Unnamed}
use Rattle.table_laws.specs.Set.{stores_byte, stores_word}
use Rattle.table_laws.specs.Table.{compares_or_tests, stored_by, Elsewhere}
use Rattle.table_laws.proofs.Theorem.{attempt-registers}

-- ---- the column by 01's lists: a test that antt computes over the codes

stores-listed : (top : ℕ) → top < 0x100 → listed (class_of top) ≡ true → stores_of top ≡ stores_by top
unfolding class_of ranged stores_of stores_by stores_word stores_both stores_ra stores_byte compares_or_tests
stores-listed top h e =
    let test : ℕ → Bool = λ x. eqb (stores_number (stores_of x)) (stores_number (stores_by x)) in
    same-stores _ _ (eqb→eq _ _ (rw e at (below 0x100 (λ x. pick (listed (class_of x)) (test x) true) tt top h)))

-- each listed code's row names the registers that 01's lists say
pub row-stores : (top : ℕ) → top < 0x100 → listed (class_of top) ≡ true → (row_of top).stores ≡ stores_by top
unfolding row_of
row-stores top h e = rw e (stores-listed top h e)

unlisted-row : (top : ℕ) → listed (class_of top) ≡ false → (row_of top).stores ≡ Stores.Nothing
unfolding row_of
unlisted-row top e = rw e

module _ (g b a i : ℕ) (below-16 : a < 0x10) where
  -- the designators that 01's lists name
  abbrev listing : Bool → Bool → Bool → List ℕ
  listing word both byte = pick word (a ∷ inverted a ∷ []) (pick both (a ∷ b ∷ []) (pick byte (a ∷ []) []))

  listed-elsewhere : (word both byte : Bool) → Elsewhere g (listing word both byte) i
      → Elsewhere g (stored_by (pick word Stores.RaPair (pick both Stores.RaAndRb (pick byte Stores.Ra Stores.Nothing))) b a) i
  unfolding stored_by
  listed-elsewhere true both byte (n, (m, u)) = (n, (rw (high-inverts a below-16) m, u))
  listed-elsewhere false true byte n = n
  listed-elsewhere false false true n = n
  listed-elsewhere false false false n = n

  elsewhere : (top : ℕ) → top < 0x100 → Elsewhere g (listing (stores_word top) (stores_both top) (stores_ra top)) i
      → Elsewhere g (stored_by (row_of top).stores b a) i
  unfolding stored_by stores_by
  elsewhere top h n = go (listed (class_of top)) refl
    where
      go : (t : Bool) → listed (class_of top) ≡ t → Elsewhere g (stored_by (row_of top).stores b a) i
      go true e = rw (row-stores top h e) (listed-elsewhere (stores_word top) (stores_both top) (stores_ra top) n)
      go false e = rw (unlisted-row top e) tt

-- ---- every attempt

-- every place but those of the registers that 01's lists name keeps its byte
pub attempt-places : (ws : List ℕ) (rs : List Row) (xs : List ℕ) (k : Core) (s : Sample) (i : ℕ) → Elsewhere k.latches.g (stored_in (taken_word ws k)) i
    → get_or (attempt_of ws rs xs k s).file i 0 ≡ get_or xs i 0
unfolding stored_in
attempt-places ws rs xs k s i n =
    let word = taken_word ws k in
    (attempt-registers ws rs xs k s).byte i (elsewhere k.latches.g (b_in word) (a_in word) i (omega arith) (top_of word) (omega arith) n)

-- ---- in 01's names

module _ (g : ℕ) (range : g < 8) (i : ℕ) where
  -- a register of another name stands at another place
  other_place : (d : ℕ) → d < 0x10 → (name_at i ≡ name_of g d → ⊥) → i ≡ slot_of g d → ⊥
  other_place d l n e = n (ap name_at e ∙ named g d (range, l))

  unnamed-place : (b a : ℕ) → b < 0x10 → (l : a < 0x10) → (word both byte : Bool)
      → Unnamed g (listing g b a i l word both byte) (name_at i) → Elsewhere g (listing g b a i l word both byte) i
  unnamed-place b a m l true both byte (n, (p, u)) = (other_place a l n, (other_place (inverted a) (omega (arith, (lowest-inverted a).1)) p, u))
  unnamed-place b a m l false true byte (n, (p, u)) = (other_place a l n, (other_place b m p, u))
  unnamed-place b a m l false false true (n, u) = (other_place a l n, u)
  unnamed-place b a m l false false false u = u

module _ (ws : List ℕ) (rs : List Row) (xs : List ℕ) (k : Core) (s : Sample) (range : k.latches.g < 8) (i : ℕ) where
  -- every register that the word taken at LC doesn't name keeps its byte
  pub attempt-named : Unnamed k.latches.g (stored_in (taken_word ws k)) (name_at i) → get_or (attempt_of ws rs xs k s).file i 0 ≡ get_or xs i 0
  unfolding stored_in
  attempt-named n =
      let word = taken_word ws k in
      let code = top_of word in
      attempt-places ws rs xs k s i
      (unnamed-place k.latches.g range i (b_in word) (a_in word) (omega arith) (omega arith) (stores_word code) (stores_both code) (stores_ra code) n)
