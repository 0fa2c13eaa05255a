use Rattle.std.proofs.Common.{◌≡◌, ◌+◌, ◌-◌, sym, ◌∙◌, arith}
use Rattle.recipe.proofs.CellLaws as law
use Rattle.recipe.proofs.cells.find_cell.Goals as goal

pub loop-k-preserved : goal.loop-k-preserved
loop-k-preserved g c =
    let e : c.args.count - c.loop-k.k - 1 ≡ c.args.count - (c.loop-k.k + 1) = omega arith in
    rw (← e) (sym (law.found_later g.T.Theory.meaning c.args.file.now (g.T.Theory.meaning.point c.args.cell.now) c.loop-k.k (c.args.count - c.loop-k.k) c.loop-k.at c.in_ok-other.end _ (omega arith) (law.cell_got g.T.Theory.meaning c.args.file.now c.read_cell.result _ _ _ c.in_ok-other.ensures.value c.read_cell.ensures.is) (sym c.if-same.ensures)) ∙ c.loop-k.invariant)
