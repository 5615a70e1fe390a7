-- Demand 3's hypotheses at the entry can be met for both in one run: a deck whose first words add three bytes, and whose next take them away again, cut
-- otherwise. Assumes nothing.
use Prim.Native.Nat.{ℕ}
use mathlib.Core.Path.{◌≡◌, refl, ◌∙◌}
use mathlib.Core.Bool.{true}
use mathlib.Core.List.{List, [], ◌∷◌, ◌++◌}
use native.Mathlib.Omega.{arith}
use lib.ListN.{replicate}
use borrow.Author.Tests.{ltb-true, leb-true}
use Rattle.deck.specs.Elements.{sample_at}
use Rattle.deck.specs.Ranges.{words_in_range, samples_in_range}
use Rattle.deck.specs.Sections.{section_end, layout_of, whole_of, section_of, words_part}
use Rattle.engine.specs.Host.{Hosted, reported, host_of}
use Rattle.engine.specs.Run.{World, world, samples_from}
use Rattle.numbers.specs.Numbers.{word_at, Bytes}
use Rattle.state.specs.FlagByte.{flag_byte_of, nibble_of}
use Rattle.state.specs.Marking.{marking_of}
use Rattle.state_bytes.specs.Bytes.{state_bytes, address_of, bus_of, latches_of, core_of, file_of, tail_of, bytes_of}
use Rattle.state_bytes.specs.Range.{address_in_range, latches_in_range, core_in_range, state_in_range}
use Rattle.sums.specs.Host.{deck_start, DeckReady, handed_back, HostBackInOneRun}
use Rattle.sums.specs.Sums.{Cut, InPlace, Marked, TwoCuts, there_and_back, BackInOneRun}
use Rattle.sums.specs.Sums.Sign.{minus}
use Rattle.sums.specs.Sums.Step.{byte, pair}
use Rattle.sums.proofs.Given.{bytes-tested}
use Rattle.sums.proofs.Host.{host-back-in-one-run}
use Rattle.sums.proofs.Read.{Read, let-in}
use Rattle.sums.proofs.Words.{words-tested}

-- ---- the deck

-- the number in R5 R4 R2 and the one in R7 R6 R3: the low byte and then the pair; and back byte by byte
abbrev there : Cut
there = byte 2 3 ∷ pair 4 6 ∷ []

abbrev back : Cut
back = byte 2 3 ∷ byte 4 6 ∷ byte 5 7 ∷ []

-- 2,048 words: A132 with the user bits A at 2046 and AB64 with bit 16 at 2047; and back, B132 at 0, B964 and B975 with the user bits 5
words : List ℕ
words =
    (0x32 ∷ 0xB1 ∷ 0 ∷ 0 ∷ 0x64 ∷ 0xB9 ∷ 0 ∷ 0 ∷ 0x75 ∷ 0xB9 ∷ 0x14 ∷ 0 ∷ [])
    ++ (replicate 8172 0 ++ (0x32 ∷ 0xA1 ∷ 0x28 ∷ 0 ∷ 0x64 ∷ 0xAB ∷ 1 ∷ 0 ∷ []))

-- a state of R2-R7, the flag byte, LC, RR and the outputs; all else 0
abbrev state_with : ℕ → ℕ → ℕ → ℕ → ℕ → List ℕ
state_with flags low high rr outputs =
    (replicate 12 0 ++ ((0xFF ∷ 0x02 ∷ 0xFF ∷ 0x80 ∷ 0xFF ∷ 0x80 ∷ []) ++ replicate 8 0))
    ++ ((0 ∷ flags ∷ low ∷ high ∷ rr ∷ 0 ∷ replicate 9 0) ++ (outputs ∷ []))

-- 80FFFF and 80FF02, with C, and LC 2046; their sum, 01FF01, has a carry and does not fit, so the way back has a borrow and does not fit: N, V, C, NB and
-- C4. LC is past the fifth word, RR, which was 9, the address after 2047 by bit 16, and the outputs, which were 3, are the fifth word's
abbrev before : List ℕ
before = state_with 0x10 0xFE 7 9 3

abbrev after : List ℕ
after = state_with 0xBA 3 0 0 5

-- five samples with COMPUTE alone
abbrev lines : List ℕ
lines = 0 ∷ 0 ∷ 4 ∷ 0 ∷ 0 ∷ 0 ∷ 4 ∷ 0 ∷ 0 ∷ 0 ∷ 4 ∷ 0 ∷ 0 ∷ 0 ∷ 4 ∷ 0 ∷ 0 ∷ 0 ∷ 4 ∷ 0 ∷ []

-- each section after its count: the words, no rows, the state, the samples
deck : List ℕ
deck = (0 ∷ 8 ∷ words) ++ ((0 ∷ 0 ∷ 1 ∷ 0 ∷ before) ++ (5 ∷ 0 ∷ lines))

-- five places and a byte more, with other bytes in them, and a state buffer
abbrev requests : List ℕ
requests = replicate 21 9

abbrev state : List ℕ
state = replicate state_bytes 9

abbrev marking : ℕ
marking = 1621

abbrev host : Hosted
host = host_of deck requests state marking

-- ---- it is let in, and demand 3 speaks of it

read : Read deck words before lines
unfolding deck words whole_of layout_of section_end section_of
read = record { whole = refl; words = refl; rows = refl; state = refl; samples = refl }

in-range : (state_in_range before ≡ true) × (samples_in_range lines ≡ true)
unfolding state_in_range core_in_range address_in_range latches_in_range core_of address_of latches_of samples_in_range
in-range = (refl, refl)

two : TwoCuts there back
two =
    record {
      fair = record { some = omega arith; different = omega arith; even = (refl, refl, tt) };
      even = tt;
      same-targets = refl;
      same-sources = refl;
    }

-- at 2046, 2047, 0, 1 and 2
in_place : InPlace words 2046 (there_and_back there back)
unfolding words word_at
in_place =
    (ltb-true _ _ refl, refl, (ltb-true _ _ refl, refl, (ltb-true _ _ refl, refl, (ltb-true _ _ refl, refl, (ltb-true _ _ refl, refl, tt)))))

words-in-range : words_in_range words ≡ true
unfolding words
words-in-range = words-tested words refl (leb-true _ _ refl)

bytes : Bytes deck
unfolding deck words
bytes = bytes-tested deck refl

ready : DeckReady (there_and_back there back) deck requests state marking
unfolding word_at core_of address_of latches_of samples_from sample_at
ready =
    record {
      bytes = bytes;
      accepted = let-in deck words before lines 21 marking read refl in-range.0 words-in-range in-range.1 (omega arith);
      in_place = rw (read.words, read.state) in_place;
      computing = rw read.samples (refl, refl, (refl, refl, (refl, refl, (refl, refl, (refl, refl, tt)))));
      no_rows = read.rows;
      unmarked = rw read.state refl;
    }

-- ---- so it ends as said above: five attempts and six microcycles, all registers as before, and the rest of the state's bytes

both : HostBackInOneRun there back deck requests marking host
both = host-back-in-one-run there back deck requests state marking two ready

report : host.report ≡ reported 0 5 6
report = both.handed.report

flags : flag_byte_of (handed_back marking host).core.flags ≡ 0xBA
unfolding flag_byte_of nibble_of file_of
flags =
    let f : Marked minus 3 0x01FF01 0x80FF02 0x80 (handed_back marking host).core.flags = rw read.state at both.run.restored.flags in
    rw (f.nb, f.zb, f.n, f.z, f.v, f.c8, f.c, f.c4)

-- what is said of the state says each of its bytes
all-bytes : (w : World) → flag_byte_of w.core.flags ≡ 0xBA → BackInOneRun there back (words_part deck) (deck_start deck requests marking) w
    → bytes_of w.file w.core ≡ after
unfolding words tail_of file_of core_of address_of bus_of latches_of nibble_of word_at
all-bytes w f b =
    let c : BackInOneRun there back words (world (file_of before) (core_of before (marking_of marking)) 0 0 0 requests) w = rw (read.words, read.state) at b in
    let a = c.advanced in
    rw (f, a.lc, a.rr, a.tsr, a.bus, a.latches, a.outputs, c.restored.registers)

state-after : host.state ≡ after
state-after = both.handed.state ∙ all-bytes (handed_back marking host) flags both.run
