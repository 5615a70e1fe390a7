-- One whole deck with a memory, which the checker runs: a read, a read-modify-write, a byte output at an odd address, and a 17.
use Rattle.std.specs.Prelude.{ℕ, zero, suc, List, [], ◌∷◌, ◌++◌, replicate}
use Rattle.cuts.specs.Decks.{deck_of}
use Rattle.engine.specs.Host.{hosted, reported}
use Rattle.memory.specs.Host.{Remembered, remembered}

-- 000 R 3 2, 001 IW 4 4 ODD, 002 ICW1 4 4, 003 OW 5 4, 004 W 7 6, 005 OB 9 8, 006 R B A, 007 IB 0 2
abbrev pub words : List ℕ
words =
    0x32 ∷ 0xF8 ∷ 0 ∷ 0 ∷ 0x44 ∷ 0xE3 ∷ 0 ∷ 0 ∷ 0x44 ∷ 0x92 ∷ 0 ∷ 0 ∷ 0x54 ∷ 0xFD ∷ 0 ∷ 0 ∷ 0x76 ∷ 0xF9 ∷ 0 ∷ 0 ∷ 0x98 ∷ 0xFC ∷ 0 ∷ 0 ∷
    0xBA ∷ 0xF8 ∷ 0 ∷ 0 ∷ 0x02 ∷ 0xE0 ∷ 0 ∷ 0 ∷ []

-- R3:R2 0002, R7:R6 0005, R9:R8 BBAA, RB:RA 0100, all else 0
abbrev pub before : List ℕ
before = replicate 12 0 ++ (2 ∷ 0 ∷ 0 ∷ 0 ∷ 5 ∷ 0 ∷ 0xAA ∷ 0xBB ∷ 0 ∷ 1 ∷ replicate 20 0)

-- n times the same bytes
abbrev pub times : ℕ → List ℕ → List ℕ
times zero xs = []
times (suc n) xs = xs ++ times n xs

-- COMPUTE alone, 42 times: no REPLY and no data
abbrev pub samples : List ℕ
samples = times 42 (0 ∷ 0 ∷ 4 ∷ 0 ∷ [])

abbrev pub deck : List ℕ
deck = deck_of words [] before samples

-- eight bytes, with 00FF at 0002
abbrev pub memory : List ℕ
memory = 0x10 ∷ 0x00 ∷ 0xFF ∷ 0x00 ∷ 0x01 ∷ 0x02 ∷ 0x03 ∷ 0x04 ∷ []

abbrev pub requests : List ℕ
requests = replicate 168 9

abbrev pub buffer : List ℕ
buffer = replicate 42 9

-- With a delay of 1 the read at 0002 is accepted, IW waits once and takes 00FF, SYNC stays; R5:R4 gains 1, and OW puts 0100 there. The write at 0005 is
-- accepted, OB waits once and puts BB, the upper lines, there; 0004 stays. The read at 0100 is accepted, and IB waits 32 times: 17 in place of the next, after
-- 41 attempts. The place of the 42nd stays as found
abbrev pub after : Remembered
after =
    remembered
    (hosted (reported 17 41 43)
    ((0x02 ∷ 0x00 ∷ 1 ∷ 0 ∷ 0 ∷ 0 ∷ 10 ∷ 0 ∷ 0xFF ∷ 0x00 ∷ 5 ∷ 0 ∷ 0 ∷ 0 ∷ 0 ∷ 0 ∷ 0x00 ∷ 0x01 ∷ 6 ∷ 0 ∷ 0x05 ∷ 0x00 ∷ 2 ∷ 0 ∷
    0 ∷ 0 ∷ 10 ∷ 0 ∷ 0xAA ∷ 0xBB ∷ 7 ∷ 0 ∷ 0x00 ∷ 0x01 ∷ 1 ∷ 0 ∷ []) ++ (times 32 (0 ∷ 0 ∷ 10 ∷ 0 ∷ []) ++ replicate 4 9))
    ((replicate 12 0 ++ (2 ∷ 0 ∷ 0 ∷ 1 ∷ 5 ∷ 0 ∷ 0xAA ∷ 0xBB ∷ 0 ∷ 1 ∷ replicate 4 0)) ++
    (0 ∷ 0 ∷ 7 ∷ 0 ∷ 0 ∷ 0 ∷ 0 ∷ 0 ∷ 0 ∷ 1 ∷ 0 ∷ 2 ∷ replicate 4 0)))
    (0x10 ∷ 0x00 ∷ 0x00 ∷ 0x01 ∷ 0x01 ∷ 0xBB ∷ 0x03 ∷ 0x04 ∷ [])
