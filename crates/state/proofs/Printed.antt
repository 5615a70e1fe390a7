-- 02, L14: 1661 is the base, the CP1661B; "the CP1621B, which has Q1", is 1621. Assumes nothing.
use mathlib.Core.Path.{◌≡◌, refl}
use Rattle.state.specs.Marking.{marking_of}
use Rattle.state.specs.declared.Marking.{Marking}

pub printed : (marking_of 1661 ≡ Marking.CP1661B) × (marking_of 1621 ≡ Marking.CP1621B)
unfolding marking_of
printed = (refl, refl)
