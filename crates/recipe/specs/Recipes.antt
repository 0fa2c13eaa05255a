-- What a file reads as, under a theory: a recipe, or the first fault. Assumes nothing.
use Rattle.std.specs.Prelude.{ℕ, cond, List, [], length, Ok, Err, Result, ◌==◌, nat_le}
use Rattle.theory.specs.Meaning.{Meaning}
use Rattle.recipe.specs.declared.fault.Fault.{Fault}
use Rattle.recipe.specs.declared.fault.Fault.TheVariants.{TooLong, Spare, TooManyStrands}
use Rattle.recipe.specs.Blocks.{block_at, most_forks}
use Rattle.recipe.specs.Cells.{cells, most_cells}
use Rattle.recipe.specs.Extents.{most_strands}
use Rattle.recipe.specs.Records.{then}
use Rattle.recipe.specs.Tree.{Block, size}

abbrev pub longest_file : ℕ
longest_file = 16384

-- the listed cells in order, the place of the root block, and the root block
pub record Tree (P X : Type 0) : Type 0 where
  pub cells : List X
  pub from : ℕ
  pub root : Block P

module _ {P R C : Type 0} (m : Meaning P R C) (file : List ℕ) where
  -- nothing may follow the root, and it may not have too many strands
  abbrev pub whole_file : List m.Point × ℕ → Block P × ℕ → Result (Tree P m.Point) Fault
  whole_file (xs, from) (b, after) =
      cond (after == length file)
      (cond (nat_le (size b) most_strands) (Ok (record { cells = xs; from = from; root = b })) (Err TooManyStrands))
      (Err (Spare after))

  -- the cell list, then the root block, in which all forks may still be nested and which no foreach encloses
  unfoldable pub recipe_of : Result (Tree P m.Point) Fault
  recipe_of =
      cond (nat_le (length file) longest_file)
      (then (cells m file most_cells [] 0) (λ xs. then (block_at m file most_forks 0 xs.1) (whole_file xs)))
      (Err TooLong)
