-- What holds of every file that reads, and which files these are. Assumes nothing.
use Rattle.std.specs.Prelude.{◌≡◌, ℕ, ◌≤◌, List, length, Some, Ok}
use Rattle.theory.specs.Meaning.{Meaning}
use Rattle.recipe.specs.Cells.{at_number, position}
use Rattle.recipe.specs.declared.head.Spot.{Spot}
use Rattle.recipe.specs.Layout.{Laid, MayStand}
use Rattle.recipe.specs.Listed.{listed}
use Rattle.recipe.specs.Rec.{Rec}
use Rattle.recipe.specs.Records.{record_at}
use Rattle.recipe.specs.Recipes.{Tree, recipe_of}
use Rattle.recipe.specs.Tree.{size}
use Rattle.recipe.specs.WellFormed.{Rising, WellFormed, places}

pub record RecipeLaws {P R C : Type 0} (m : Meaning P R C) : Type 0 where
  -- one record is read at a place exactly where it may stand there and is laid there, byte by byte
  pub laid : (file : List ℕ) (spot : Spot) (forks depth at : ℕ) (r : Rec P) (e : ℕ) → record_at m file spot forks depth at ≡ Ok (r, e) → MayStand spot r × Laid m file r forks depth at e
  pub reads : (file : List ℕ) (spot : Spot) (forks depth at : ℕ) (r : Rec P) (e : ℕ) → MayStand spot r → Laid m file r forks depth at e → record_at m file spot forks depth at ≡ Ok (r, e)
  -- it keeps the limits
  pub short : (file : List ℕ) (t : Tree P m.Point) → recipe_of m file ≡ Ok t → length file ≤ 16384
  pub few_cells : (file : List ℕ) (t : Tree P m.Point) → recipe_of m file ≡ Ok t → length t.cells ≤ 128
  pub few_strands : (file : List ℕ) (t : Tree P m.Point) → recipe_of m file ≡ Ok t → size t.root ≤ 1024
  -- its cells are those that its first Cell records name, one after another
  pub in_order : (file : List ℕ) (t : Tree P m.Point) → recipe_of m file ≡ Ok t → t.cells ≡ listed m file (length t.cells) 0
  -- no cell is listed twice: the position of each is where it stands
  pub once : (file : List ℕ) (t : Tree P m.Point) → recipe_of m file ≡ Ok t → (k : ℕ) (x : m.Point) → at_number t.cells k ≡ Some x → position m x t.cells ≡ Some k
  -- it is well-formed, every well-formed file reads, and so it is one recipe only
  pub sound : (file : List ℕ) (t : Tree P m.Point) → recipe_of m file ≡ Ok t → WellFormed m file t
  pub complete : (file : List ℕ) (t : Tree P m.Point) → WellFormed m file t → recipe_of m file ≡ Ok t
  pub unique : (file : List ℕ) (t u : Tree P m.Point) → WellFormed m file t → WellFormed m file u → t ≡ u
  -- the places of the records of its root rise from the place of the root on, and are within the file
  pub rising : (file : List ℕ) (t : Tree P m.Point) → recipe_of m file ≡ Ok t → Rising (places t.root) t.from (length file)
