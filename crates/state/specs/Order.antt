-- "Flag byte, high to low: N Z V C NB ZB C4 C8", as a list.
use Rattle.std.specs.Prelude.{Bool, List, [], ◌∷◌}
use Rattle.alu.specs.declared.Flags.{Flags}

abbrev pub in_order : Flags → List Bool
in_order f = f.n ∷ f.z ∷ f.v ∷ f.c ∷ f.nb ∷ f.zb ∷ f.c4 ∷ f.c8 ∷ []
