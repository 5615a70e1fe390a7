-- What a samples section holds; what is missing reads as 0.
use Rattle.std.specs.Prelude.{List, ℕ, ◌+◌, ◌*◌, ◌/◌, ◌%◌, eqb}
use Rattle.numbers.specs.Numbers.{byte_at, pair_of}
use Rattle.state.specs.declared.Sample.{Sample}

-- "Samples: data, lines (bit 0 REPLY, 1 BUSY, 2 COMPUTE, 3 RESET, 4 ICS), I0-I3 in bits 0-3": the sample that four bytes hold
abbrev pub sample_of : ℕ → ℕ → ℕ → ℕ → Sample
sample_of low high lines interrupts =
    record {
      dal = pair_of low high;
      reply = eqb (lines % 2) 1;
      busy = eqb (lines / 2 % 2) 1;
      compute = eqb (lines / 4 % 2) 1;
      reset = eqb (lines / 8 % 2) 1;
      ics = eqb (lines / 16 % 2) 1;
      interrupts = interrupts;
    }

-- two bytes of sample i
abbrev pub lines_at : List ℕ → ℕ → ℕ
lines_at s i = byte_at s (i * 4 + 2)

abbrev pub interrupts_at : List ℕ → ℕ → ℕ
interrupts_at s i = byte_at s (i * 4 + 3)

-- and the whole of it
unfoldable pub sample_at : List ℕ → ℕ → Sample
sample_at s i = sample_of (byte_at s (i * 4)) (byte_at s (i * 4 + 1)) (lines_at s i) (interrupts_at s i)
