-- What a function that puts bytes into an output leaves there.
use Rattle.std.specs.Prelude.{ℕ, ◌+◌, ◌≤◌, ◌≡◌, List, length}
use Rattle.std.proofs.lemmas.List.Edits.{sets}

-- the bytes bs, at most `most` of them, stand from `at` on, and `end` is where they end
pub record Laid (before : List ℕ) (at : ℕ) (bs : List ℕ) (most : ℕ) (after : List ℕ) (end : ℕ) : Type 0 where
  pub bytes : after ≡ sets before at bs
  pub ends : end ≡ at + length bs
  pub short : length bs ≤ most
