-- One whole deck, which the checker runs whole and cut at every place: a row, a modification that waits, a wait, a bus taken, and a refusal 5 at the end.
use Rattle.std.specs.Prelude.{ℕ, List, [], ◌∷◌, ◌++◌, replicate}
use Rattle.engine.specs.Host.{Hosted, hosted, reported}
use Rattle.cuts.specs.Decks.{deck_of}

-- 000 MI 3 2, 001 LL 01 4, 002 NOP, 003 RA 3 2, 004 AW 2 4
abbrev pub words : List ℕ
words = 0x32 ∷ 0xEC ∷ 0 ∷ 0 ∷ 0x14 ∷ 0x60 ∷ 0 ∷ 0 ∷ 0x00 ∷ 0xFF ∷ 0 ∷ 0 ∷ 0x32 ∷ 0xFA ∷ 0 ∷ 0 ∷ 0x24 ∷ 0xA2 ∷ 0 ∷ 0 ∷ []

-- at LC 001: LTA with address 003
abbrev pub rows : List ℕ
rows = 0xFF ∷ 0x07 ∷ 0x01 ∷ 0x00 ∷ (replicate 8 0 ++ (0x03 ∷ 0x00 ∷ 1 ∷ 0 ∷ []))

-- R2 20, all else 0
abbrev pub before : List ℕ
before = replicate 12 0 ++ (0x20 ∷ replicate 29 0)

-- COMPUTE, and with the third sample BUSY
abbrev pub computing : List ℕ
computing = 0 ∷ 0 ∷ 4 ∷ 0 ∷ []

abbrev pub samples : List ℕ
samples = computing ++ (computing ++ (0 ∷ 0 ∷ 6 ∷ 0 ∷ (computing ++ (computing ++ (computing ++ computing)))))

abbrev pub deck : List ℕ
deck = deck_of words rows before samples

-- seven places and a byte more, with other bytes in them, and a state buffer
abbrev pub requests : List ℕ
requests = replicate 29 9

abbrev pub buffer : List ℕ
buffer = replicate 42 9

-- MI makes 0020 wait, which LL 01 takes up: R4 is 03, and the row leads to 003. RA waits, then takes the bus. AW adds R3:R2 to R5:R4 in two microcycles. LC 005
-- has no word: 5 after five attempts and six microcycles. Two places stay as found, and the byte past them
abbrev pub after : Hosted
after =
    hosted (reported 5 5 6)
    ((replicate 8 0 ++ (0 ∷ 0 ∷ 10 ∷ 0 ∷ 0x20 ∷ 0 ∷ 3 ∷ 0 ∷ replicate 4 0)) ++ replicate 9 9)
    ((replicate 12 0 ++ (0x20 ∷ 0 ∷ 0x23 ∷ replicate 11 0)) ++ (0 ∷ 0 ∷ 5 ∷ 0 ∷ 0 ∷ 0 ∷ 0 ∷ 0 ∷ 0x20 ∷ 0 ∷ 0 ∷ 6 ∷ replicate 4 0))

-- what the first sample alone leaves: 0020 waits, under its mark
abbrev pub at_lunch : Hosted
at_lunch =
    hosted (reported 0 1 1)
    (replicate 4 0 ++ replicate 25 9)
    ((replicate 12 0 ++ (0x20 ∷ replicate 13 0)) ++ (0 ∷ 0 ∷ 1 ∷ replicate 8 0 ++ (8 ∷ 0 ∷ 0x20 ∷ 0 ∷ 0 ∷ [])))
