-- The table holds the name of each top byte.
use Rattle.std.proofs.Common.{rules}
use Rattle.choose.proofs.Table.{firsts_at}
use Rattle.names.specs.Mnemonics.{all_mnemonics, mnemonic_of}
use Rattle.names.proofs.mnemonic_of.Goals as goal

pub returns : goal.returns
unfolding all_mnemonics
returns c = rw c.names-all.ensures (firsts_at mnemonic_of _ 0x100 _ (search rules))
