-- By a law for every length: this list is too long to be counted.
use Rattle.std.proofs.Common.{ℕ, ◌≡◌, length, sym}
use Rattle.std.proofs.Math.ListN.{replicate}
use Rattle.std.proofs.lemmas.List.{length-replicate}
use Rattle.assemble.proofs.room.Goals as goal

as-long : (n a : ℕ) → n ≡ length (replicate n a)
as-long n a = sym (length-replicate n a)

pub returns : goal.returns
returns c = as-long 1048577 0
