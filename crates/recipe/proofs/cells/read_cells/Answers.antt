use Rattle.std.proofs.Common.{is_some, sym, ap, ◌∙◌, arith}
use Rattle.recipe.proofs.CellLaws as law
use Rattle.recipe.proofs.cells.read_cells.Goals as goal

pub loop-count-preserved : goal.loop-count-preserved
loop-count-preserved g c =
    let w = c.in_ok-cell.ensures.whole in
    let on = law.cells_on g.T.Theory.meaning c.args.file.now c.loop-count.count c.loop-count.at c.in_ok-cell.end _ (sym c.if-not-begins.ensures) (omega arith) c.in_ok-cell.ensures.is (ap is_some (sym c.find_cell.ensures) ∙ sym c.is_some.ensures ∙ c.if-is_some.false) c.loop-count.invariant.1 in
    (on.0 ∙ c.loop-count.invariant.0, on.1, omega arith)
