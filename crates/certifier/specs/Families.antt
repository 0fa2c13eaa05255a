-- The children of a fork as the program holds them. Assumes nothing.
use Rattle.std.specs.Prelude.{ℕ, List, map, vec_items}
use Rattle.certifier.specs.declared.effect.Effect.{Effect}
use Rattle.certifier.specs.declared.family.Child.{Child}

abbrev pub child_of : {R : Type 0} → Child R → ℕ × List (Effect R)
child_of c = (c.number, vec_items c.effects)

abbrev pub children_of : {R : Type 0} → List (Child R) → List (ℕ × List (Effect R))
children_of cs = map child_of cs
