-- The verdict on a recipe: certified with its number of strands, or the first fault. Assumes nothing.
use Rattle.std.specs.Prelude.{ℕ, List, Some, None, Ok, Err, Option, Result}
use Rattle.theory.specs.Meaning.{Meaning}
use Rattle.recipe.specs.declared.fault.Fault.{Fault}
use Rattle.recipe.specs.Recipes.{Tree, recipe_of}
use Rattle.recipe.specs.Tree.{size}
use Rattle.certifier.specs.declared.refusal.Refusal.{Refusal}
use Rattle.certifier.specs.declared.refusal.Refusal.TheVariants.{OtherTheory}
use Rattle.certifier.specs.Faults.{recipe_faults}
use Rattle.certifier.specs.Lists.{first}

-- certified where there is no fault
abbrev pub unless_refused : {X : Type 0} → ℕ → Option (Refusal X) → Result ℕ (Refusal X)
unless_refused strands None = Ok strands
unless_refused strands (Some r) = Err r

module _ {P R C : Type 0} (m : Meaning P R C) where
  abbrev pub tree_verdict : Tree P m.Point → Result ℕ (Refusal m.Point)
  tree_verdict t = unless_refused (size t.root) (first (recipe_faults m t))

  -- a file that the theory does not read is not looked at further
  abbrev pub read_verdict : Result (Tree P m.Point) Fault → Result ℕ (Refusal m.Point)
  read_verdict (Ok t) = tree_verdict t
  read_verdict (Err f) = Err OtherTheory

  unfoldable pub verdict_of : List ℕ → Result ℕ (Refusal m.Point)
  verdict_of file = read_verdict (recipe_of m file)
