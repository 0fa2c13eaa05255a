-- The numbers of a recipe. Assumes nothing.
use Rattle.std.specs.Prelude.{ℕ, length}
use Rattle.recipe.specs.declared.recipe.Recipe.{Recipe}
use Rattle.recipe.specs.Recipes.{Tree}
use Rattle.recipe.specs.Tree.{size}

-- how many cells it lists, where its root block begins, and how many strands it has
pub record Numbers : Type 0 where
  pub cells : ℕ
  pub from : ℕ
  pub strands : ℕ

abbrev pub numbered : {P X : Type 0} → Tree P X → Numbers
numbered t = record { cells = length t.cells; from = t.from; strands = size t.root }

-- as the program holds them
abbrev pub numbers : Recipe → Numbers
numbers r = record { cells = r.cells; from = r.root; strands = r.strands }
