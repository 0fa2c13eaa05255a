-- What the verdict means: certified exactly the sound recipes, and what is told of another is so. Assumes nothing.
use Rattle.std.specs.Prelude.{◌≡◌, ℕ, List, Ok, Err}
use Rattle.theory.specs.Meaning.{Meaning}
use Rattle.recipe.specs.declared.fault.Fault.{Fault}
use Rattle.recipe.specs.Recipes.{Tree, recipe_of}
use Rattle.recipe.specs.Tree.{size}
use Rattle.strands.specs.Strands.{Strand}
use Rattle.certifier.specs.declared.effect.Effect.{Effect}
use Rattle.certifier.specs.declared.refusal.Refusal.{Refusal}
use Rattle.certifier.specs.declared.refusal.Refusal.TheVariants.{OtherTheory}
use Rattle.certifier.specs.Faults.{effects_of}
use Rattle.certifier.specs.Lists.{Among}
use Rattle.certifier.specs.Sound.{AllClear, Covered, Inside, Numbered, Parallel, Sound, Wrong}
use Rattle.certifier.specs.Verdicts.{verdict_of}

pub record CertifierLaws {P R C : Type 0} (m : Meaning P R C) : Type 0 where
  -- a recipe that reads is certified exactly when it is sound
  pub certified_sound : (file : List ℕ) (t : Tree P m.Point) (n : ℕ) → recipe_of m file ≡ Ok t → verdict_of m file ≡ Ok n → Sound m t × (n ≡ size t.root)
  pub sound_certified : (file : List ℕ) (t : Tree P m.Point) → recipe_of m file ≡ Ok t → Sound m t → verdict_of m file ≡ Ok (size t.root)
  -- what is told of another is so: the access, the effect or the two effects are there, and are at fault
  pub refused_wrong : (file : List ℕ) (t : Tree P m.Point) (r : Refusal m.Point) → recipe_of m file ≡ Ok t → verdict_of m file ≡ Err r → Wrong m t r
  -- a file that the theory does not read is told as that
  pub unread : (file : List ℕ) (f : Fault) → recipe_of m file ≡ Err f → verdict_of m file ≡ Err OtherTheory
  -- in a sound recipe a strand's effects lie within those of every strand around it
  pub inherited : (t : Tree P m.Point) → Sound m t → (j k : ℕ) (a s : Strand P) → Numbered m t j a → Numbered m t k s → Inside j k a → (e : Effect R) → Among e (effects_of m s) → Covered m (effects_of m a) e
  -- and strands inside two children of one fork, which run side by side, have no interfering effects
  pub apart : (t : Tree P m.Point) → Sound m t → (j k : ℕ) (a b : Strand P) → Numbered m t j a → Numbered m t k b → Parallel m t j k → AllClear m a b
