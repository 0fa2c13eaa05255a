-- The worked examples. Assumes nothing.
use Rattle.std.specs.Prelude.{◌≡◌, ℕ, ◌<◌, List, [], ◌∷◌, Some, None, Ok, Err, slice_set}
use Rattle.sections.specs.declared.pattern.SectionPattern.{SectionPattern}
use Rattle.sections.specs.SectionMeaning.{section_meaning}
use Rattle.sections.specs.Worked.{WorkedSections}
use Rattle.paths.specs.WorkedPaths.{WorkedPaths}
use Rattle.recipe.specs.Records.{mapped}
use Rattle.recipe.specs.Numbers.{numbered}
use Rattle.recipe.specs.Rec.{index, store}
use Rattle.recipe.specs.Recipes.{Tree, recipe_of}
use Rattle.recipe.specs.declared.record.Mode.TheVariants.{Writes}
use Rattle.recipe.specs.Tree.{Block, block, foreach, next, simple, stop}
use Rattle.recipe.specs.WellFormed.{WellFormed}
use Rattle.certifier.specs.declared.refusal.Refusal.TheVariants.{Interfering}
use Rattle.certifier.specs.Faults.{location}
use Rattle.certifier.specs.Verdicts.{verdict_of}

-- three cells, 0, 1 and 2; a root that writes them all, and a foreach of three whose strands each store their index
-- into the cell of that number
abbrev pub three_cells : List ℕ
three_cells =
    0x01 ∷ 0x48 ∷ 0 ∷ 0 ∷ 0 ∷ 0 ∷ 1 ∷ 0 ∷ 1 ∷ 0 ∷
    0x01 ∷ 0x48 ∷ 0 ∷ 0 ∷ 1 ∷ 0 ∷ 1 ∷ 0 ∷ 1 ∷ 0 ∷
    0x01 ∷ 0x48 ∷ 0 ∷ 0 ∷ 2 ∷ 0 ∷ 1 ∷ 0 ∷ 1 ∷ 0 ∷
    0x11 ∷ 0x48 ∷ 0 ∷ 0 ∷ 0 ∷ 0 ∷ 1 ∷ 0 ∷ 3 ∷ 0 ∷
    0x31 ∷ 3 ∷
    0x11 ∷ 0x48 ∷ 1 ∷ 1 ∷ 0 ∷ 0 ∷ 1 ∷ 0 ∷ 1 ∷ 0 ∷
    0x24 ∷ 0 ∷ 1 ∷
    0x21 ∷ 0 ∷ 0x48 ∷ 1 ∷ 1 ∷ 0 ∷ 0 ∷ 1 ∷ 0 ∷ 1 ∷ 0 ∷
    0x3F ∷
    0x3F ∷ []

-- what it says: its cells, the place of its root, and the root; a section's step and count are above 0
module _ (one : 0 < 1) (three : 0 < 3) where
  -- the cell of the foreach's index
  abbrev pub own_cell : SectionPattern
  own_cell = record { hole = Some (record { number = 1; scale = 1 }); offset = 0; step = 1; count = 1; moves = one; some = one }

  abbrev pub all_cells : SectionPattern
  all_cells = record { hole = None; offset = 0; step = 1; count = 3; moves = one; some = three }

  abbrev pub instance : Block SectionPattern
  instance = block 42 (record { place = 42; mode = Writes; pattern = own_cell } ∷ []) (next (simple 52 (index 0 1)) (next (simple 55 (store 0 own_cell)) (stop 66)))

  abbrev pub three_cells_tree : Tree SectionPattern ℕ
  three_cells_tree = record {
    cells = 0 ∷ 1 ∷ 2 ∷ [];
    from = 30;
    root = block 30 (record { place = 30; mode = Writes; pattern = all_cells } ∷ []) (next (foreach 40 3 instance) (stop 67));
  }

pub record Examples : Type 0 where
  pub paths : WorkedPaths
  pub sections : WorkedSections
  -- on sections the file reads; it lists 3 cells, its root begins at 30, and it has 4 strands
  pub file : mapped numbered (recipe_of section_meaning three_cells) ≡ Ok (record { cells = 3; from = 30; strands = 4 })
  -- that is this tree, and the tree lies in the file
  pub tree : (one : 0 < 1) (three : 0 < 3) → recipe_of section_meaning three_cells ≡ Ok (three_cells_tree one three)
  pub lies : (one : 0 < 1) (three : 0 < 3) → WellFormed section_meaning three_cells (three_cells_tree one three)
  -- it is certified, with its 4 strands
  pub certified : verdict_of section_meaning three_cells ≡ Ok 4
  -- without the scale of the foreach's effect, strands 1 and 2 both write cell 0
  pub refused : verdict_of section_meaning (slice_set three_cells 45 0) ≡ Err (Interfering (location 42 1) (location 42 2) 0)
