use Rattle.std.proofs.Common.{◌≡◌, ◌-◌, ◌≤◌, [], length}
use Rattle.recipe.specs.Cells.{cells}
use Rattle.recipe.specs.Listed.{listed}
use Rattle.recipe.proofs.CellLaws.{Walks}
use Rattle.recipe.proofs.cells.read_cells.Given as goal

abbrev pub invariant-loop-count : goal.invariant-loop-count
invariant-loop-count g l =
    (cells g.T.Theory.meaning l.file (128 - l.count) (listed g.T.Theory.meaning l.file l.count 0) l.at ≡ cells g.T.Theory.meaning l.file 128 [] 0)
    × Walks g.T.Theory.meaning l.file l.count 0 l.at × (l.at ≤ length l.file)
