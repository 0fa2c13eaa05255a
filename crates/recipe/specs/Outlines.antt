-- Records as far as the walk over statements has to know them. Assumes nothing.
use Rattle.std.specs.Prelude.{◌≡◌, ℕ, true}
use Rattle.recipe.specs.declared.outline.Outline.{Outline}
use Rattle.recipe.specs.declared.outline.Outline.TheVariants.{Operation as OperationOutline, When, Fork, End, Other}
use Rattle.recipe.specs.Kinds.{roomy}
use Rattle.recipe.specs.Rec.{Rec, cell, effect, operation, when, fork, end}

abbrev pub outline_of : {P : Type 0} → Rec P → Outline
outline_of (cell p) = Other
outline_of (effect mode p) = Other
outline_of (operation o) = OperationOutline
outline_of (when r) = When
outline_of (fork f) = Fork f
outline_of end = End

abbrev pub outlined : {P : Type 0} → Rec P × ℕ → Outline × ℕ
outlined (r, after) = (outline_of r, after)

-- a fork that is read may be nested
abbrev pub Roomy : Outline → (forks depth : ℕ) → Type 0
Roomy OperationOutline forks depth = Unit {0}
Roomy When forks depth = Unit {0}
Roomy (Fork f) forks depth = roomy f forks depth ≡ true
Roomy End forks depth = Unit {0}
Roomy Other forks depth = Unit {0}
