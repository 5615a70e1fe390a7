-- Past the last top byte there is no mnemonic.
use mathlib.Core.Path.{◌≡◌, refl}
use mathlib.Core.Bool.{false}
use Rattle.std.proofs.Common.{ℕ, ◌≤◌, arith, rules}
use Rattle.choose.specs.Ranged.{ranged}
use Rattle.code.specs.CodeRows.{class_of}
use Rattle.names.specs.Mnemonics.{mnemonic_of}
use Rattle.forms.specs.Named.{twinned}
use Rattle.forms.proofs.has_twin.Goals as goal
use Rattle.forms.proofs.has_twin.Goals.{then-top-lt255+in-Register, then-top-lt255+in_default, else-top-lt255}

last : false ≡ twinned 0xFF
unfolding twinned class_of mnemonic_of ranged
last = refl

pub returns-else-matches : goal.returns-else-matches
unfolding twinned
returns-else-matches c =
    elim c.if-top-lt255.branch [
      | then-top-lt255+in-Register w ↦ absurd (search rules)
      | then-top-lt255+in_default w ↦ search rules
      | else-top-lt255 w ↦ let e : c.args.top ≡ 0xFF = omega arith in rw (w.value-is, e) last
    ]
