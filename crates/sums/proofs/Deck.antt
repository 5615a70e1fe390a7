-- Demand 3's hypotheses at the entry can be met: 01's deck, "One word A132 hex, no rows, R2 255, R3 1, all else 0, one sample with COMPUTE alone:
-- `0 1 1 1 87`". Assumes nothing.
use Prim.Native.Nat.{ℕ}
use mathlib.Core.Path.{◌≡◌, refl}
use mathlib.Core.Bool.{true, false}
use mathlib.Core.List.{List, [], ◌∷◌, ◌++◌}
use native.Mathlib.Omega.{arith}
use lib.ListN.{get_or, replicate}
use Rattle.numbers.specs.Numbers.{word_at}
use Rattle.deck.specs.Elements.{sample_at}
use Rattle.deck.specs.Ranges.{words_in_range, samples_in_range}
use Rattle.deck.specs.Sections.{section_end, layout_of, whole_of, section_of, words_part}
use Rattle.engine.specs.Host.{reported, host_of}
use Rattle.engine.specs.Run.{World, world, samples_from}
use Rattle.state.specs.FlagByte.{flag_byte_of, nibble_of}
use Rattle.state.specs.Marking.{marking_of}
use Rattle.state_bytes.specs.Bytes.{state_bytes, address_of, latches_of, core_of, file_of}
use Rattle.state_bytes.specs.Range.{address_in_range, latches_in_range, core_in_range, state_in_range}
use Rattle.sums.specs.Host.{deck_start, DeckReady, handed_back}
use Rattle.sums.specs.Sums.{Cut, instructions_of, Fair, Marked, Summed}
use Rattle.sums.specs.Sums.Sign.{plus}
use Rattle.sums.specs.Sums.Step.{byte}
use Rattle.sums.proofs.Given.{bytes-tested}
use Rattle.sums.proofs.Host.{host-sum}
use Rattle.sums.proofs.Read.{Read, let-in}

-- ---- the deck

-- R2 and R3 stand after G0-GB
abbrev file : List ℕ
file = replicate 12 0 ++ (255 ∷ 1 ∷ replicate 12 0)

abbrev before : List ℕ
before = file ++ replicate 16 0

abbrev word : List ℕ
word = 0x32 ∷ 0xA1 ∷ 0 ∷ 0 ∷ []

abbrev sample : List ℕ
sample = 0 ∷ 0 ∷ 4 ∷ 0 ∷ []

-- each section after its count: the word, no rows, the state, the sample
abbrev deck : List ℕ
deck = (1 ∷ 0 ∷ word) ++ ((0 ∷ 0 ∷ 1 ∷ 0 ∷ before) ++ (1 ∷ 0 ∷ sample))

-- a place, with other bytes in it, and a state buffer
abbrev requests : List ℕ
requests = 9 ∷ 9 ∷ 9 ∷ 9 ∷ []

abbrev state : List ℕ
state = replicate state_bytes 9

abbrev marking : ℕ
marking = 1661

-- R2 gains R3
abbrev cut : Cut
cut = byte 2 3 ∷ []

-- ---- it is let in, and demand 3 speaks of it

read : Read deck word before sample
unfolding whole_of layout_of section_end section_of
read = record { whole = refl; words = refl; rows = refl; state = refl; samples = refl }

in-range : (state_in_range before ≡ true) × (words_in_range word ≡ true) × (samples_in_range sample ≡ true)
unfolding state_in_range core_in_range address_in_range latches_in_range core_of address_of latches_of words_in_range samples_in_range word_at
in-range = (refl, refl, refl)

fair : Fair cut
fair = record { some = omega arith; different = omega arith; even = tt }

ready : DeckReady (instructions_of plus false cut) deck requests state marking
unfolding word_at core_of address_of latches_of samples_from sample_at
ready =
    record {
      bytes = bytes-tested deck refl;
      accepted = let-in deck word before sample 4 marking read refl in-range.0 in-range.1 in-range.2 (omega arith);
      in_place = rw (read.words, read.state) (omega arith);
      computing = rw read.samples (refl, refl, tt);
      no_rows = read.rows;
      unmarked = rw read.state refl;
    }

-- ---- so its line is 01's: answer, attempts, microcycles, LC, flag byte; and R2 is 0

flag-byte : (w : World) → Summed plus cut (words_part deck) (deck_start deck requests marking) w → (get_or w.file 12 0 ≡ 0) × (flag_byte_of w.core.flags ≡ 87)
unfolding flag_byte_of nibble_of file_of
flag-byte w h =
    let s : Summed plus cut (words_part deck) (world file (core_of before (marking_of marking)) 0 0 0 requests) w = rw read.state at h in
    let r2 : get_or w.file 12 0 ≡ 0 = omega (arith, s.target) in
    let f : Marked plus 1 255 1 0 w.core.flags = rw r2 at s.flags in
    (r2, rw (f.nb, f.zb, f.n, f.z, f.v, f.c8, f.c, f.c4))

line : let h = host_of deck requests state marking in
    (h.report ≡ reported 0 1 1)
    × ((handed_back marking h).core.address.lc ≡ 1)
    × (get_or (handed_back marking h).file 12 0 ≡ 0)
    × (flag_byte_of (handed_back marking h).core.flags ≡ 87)
unfolding core_of address_of
line =
    let s = host-sum plus cut deck requests state marking fair ready in
    let f = flag-byte (handed_back marking (host_of deck requests state marking)) s.summed in
    (s.handed.report, rw read.state at s.summed.advanced.lc, f.0, f.1)
