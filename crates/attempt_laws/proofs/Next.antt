-- LC, RR and TSR after a completed word, and what the rows see. Assumes nothing.
use Prim.Native.Nat.{ℕ, ◌+◌, ◌-◌, ◌*◌, ◌/◌, ◌%◌, ◌≤◌, ◌<◌}
use mathlib.Core.Path.{◌≡◌, refl, sym}
use mathlib.Core.Bool.{Bool, true, false, not, beq}
use native.Mathlib.Nat.{div-one}
use native.Mathlib.Omega.{arith}
use lib.Dec.{eqb}
use lib.ListN.{get_or}
use Rattle.choose.specs.Ranged.{pick, bit}
use Rattle.choose.proofs.Tests.{bit_is}
use Rattle.alu.specs.declared.Flags.{Flags}
use Rattle.control.specs.Next.{condition_of, jump_taken, within_page, way_of, tr_byte_of, inputs_of, onward_of, next_of, rr_of, tsr_of, address_after}
use Rattle.control.specs.declared.Way.{Way}
use Rattle.rows.specs.declared.Outputs.{Outputs}
use Rattle.state.specs.declared.Core.{Core}
use Rattle.state.specs.declared.Sample.{Sample}
use Rattle.attempt_laws.specs.After.{has_bit, rows_see, conditions, jumps, following, next_lc, AddressIs}
use Rattle.attempt_laws.specs.Fate.{odd, top_in}
use Rattle.attempt_laws.proofs.Where.{other, ◌next◌, ranged-where, inside, outside}

-- ---- the conditions

module _ (code : ℕ) (f : Flags) (ics : Bool) (lo : 0x10 ≤ code) (hi : code < 0x20) where
  abbrev chosen : ℕ → Bool
  chosen n = get_or (conditions f ics) n false

  at : (n : ℕ) → (code - 0x10) / 2 ≡ n → chosen n ≡ chosen ((code - 0x10) / 2)
  at n e = rw e

  condition-is : condition_of code f ics ≡ chosen ((code - 0x10) / 2)
  unfolding condition_of
  condition-is =
      ranged-where (λ (t : Bool). t ≡ chosen ((code - 0x10) / 2)) code {from = 0x10} lo
      ((λ l m. at 0 (omega arith)) next
      (λ l m. at 1 (omega arith)) next
      (λ l m. at 2 (omega arith)) next
      (λ l m. at 3 (omega arith)) next
      (λ l m. at 4 (omega arith)) next
      (λ l m. at 5 (omega arith)) next
      (λ l m. at 6 (omega arith)) next
      other (λ l. at 7 (omega arith)))

  jumps-is : jump_taken code f ics ≡ jumps code f ics
  unfolding jump_taken
  jumps-is = rw (condition-is, inside 0x10 0x1F code (omega arith)) (go (odd code) (chosen ((code - 0x10) / 2)))
    where
      go : (o c : Bool) → pick o c (not c) ≡ beq o c
      go true true = refl
      go true false = refl
      go false true = refl
      go false false = refl

-- ---- the next LC, by the ranges of the top byte

module _ (word : ℕ) (k : Core) (o : Outputs) where
  abbrev Goes : Way → Type 0
  Goes way = next_of k.address way o ≡ next_lc word k o

  onward-is : jumps (top_in word) k.flags k.latches.ics ≡ false → 0x10 ≤ top_in word → Goes Way.Onward
  unfolding next_of onward_of next_lc
  onward-is j h =
      let plus : (k.address.lc % 2048 + 1) % 2048 ≡ following k.address.lc = omega arith in
      rw (outside 0x00 0x07 (top_in word) (omega arith), outside 0x08 0x0F (top_in word) (omega arith), j, div-one o.lines, plus)

  -- past the jumps
  pub past_is : 0x20 ≤ top_in word → Goes Way.Onward
  past_is h = onward-is (rw (outside 0x10 0x1F (top_in word) (omega arith))) (omega arith)

  -- JMP and RFS, whose code is the first of their eight
  pub jump-is : top_in word < 0x10 → Goes (way_of k.address.lc (top_in word / 8 * 8) (word % 0x800) k.flags k.latches.ics)
  unfolding way_of next_of next_lc
  jump-is h =
      ranged-where Goes (top_in word / 8 * 8) {from = 0} (omega arith)
      ((λ l m. rw (inside 0x00 0x07 (top_in word) (omega arith))) next
      (λ l m. rw (outside 0x00 0x07 (top_in word) (omega arith), inside 0x08 0x0F (top_in word) (omega arith))) next
      (λ l m. omega arith) next
      other (λ l. omega arith))

  page-is : (t : Bool) → jumps (top_in word) k.flags k.latches.ics ≡ t → 0x10 ≤ top_in word → Goes (within_page k.address.lc (word % 0x100) t)
  unfolding next_of next_lc
  page-is true e h = rw (outside 0x00 0x07 (top_in word) (omega arith), outside 0x08 0x0F (top_in word) (omega arith), e) (omega arith)
  page-is false e h = onward-is e h

  pub conditional-is : 0x10 ≤ top_in word → top_in word < 0x20
      → Goes (way_of k.address.lc (top_in word) (word % 0x100) k.flags k.latches.ics)
  unfolding way_of
  conditional-is lo hi =
      ranged-where Goes (top_in word) {from = 0} (omega arith)
      ((λ l m. omega arith) next
      (λ l m. omega arith) next
      (λ l m. page-is _ (sym (jumps-is (top_in word) k.flags k.latches.ics lo hi)) lo) next
      other (λ l. omega arith))

  -- RR and TSR with it
  pub address_is : (way : Way) (code : ℕ) → Goes way → eqb code 0x74 ≡ eqb (top_in word) 0x74
      → AddressIs word k o (address_after k.address way code (has_bit 16 word) o)
  unfolding address_after rr_of tsr_of
  address_is way code goes same =
      let plus : (k.address.lc % 2048 + 1) % 2048 ≡ following k.address.lc = omega arith in
      record { lc = goes; rr = rw plus; tsr = rw same }

-- ---- what the rows see

pub rows-see : (word : ℕ) (k : Core) (s : Sample) → inputs_of k (has_bit 17 word) s ≡ rows_see word k s
unfolding inputs_of tr_byte_of
rows-see word k s =
    let rni : bit (has_bit 17 word) ≡ word / 0x2_0000 % 2 = bit_is _ (omega arith) in
    let order : k.latches.interrupts % 8 * 16 ≡ 16 * (k.latches.interrupts % 8) = omega arith in
    rw (rni, order)
