use Rattle.std.proofs.Common.{◌≡◌, ◌-◌}
use Rattle.recipe.specs.Cells.{position}
use Rattle.recipe.specs.Listed.{listed}
use Rattle.recipe.proofs.CellLaws.{shifted}
use Rattle.recipe.proofs.cells.find_cell.Given as goal

abbrev pub invariant-loop-k : goal.invariant-loop-k
invariant-loop-k g l =
    shifted l.k (position g.T.Theory.meaning (g.T.Theory.meaning.point l.cell) (listed g.T.Theory.meaning l.file (l.count - l.k) l.at))
    ≡ position g.T.Theory.meaning (g.T.Theory.meaning.point l.cell) (listed g.T.Theory.meaning l.file l.count 0)
