use Rattle.std.proofs.Common.{◌+◌, ◌-◌, vec_items, arith}
use Rattle.certifier.proofs.Listing.{list_all, list_bad, list_more}
use Rattle.certifier.proofs.access.read_listed.Goals as goal

pub returns-in_default : goal.returns-in_default
returns-in_default g c =
    list_bad g.T.Theory.meaning c.args.recipe.now.file.now (vec_items c.loop.cells) (c.cells-end.result - c.loop.counter) c.loop.at _ _ c.file-file.ensures c.loop.invariant c.in_default.field-0 c.in_default.ensures.is

pub loop-preserved : goal.loop-preserved
loop-preserved g c =
    list_more g.T.Theory.meaning c.args.recipe.now.file.now (vec_items c.loop.cells) (c.cells-end.result - c.loop.counter) c.loop.at _ _ c.file-file.ensures c.loop.invariant
    (c.cells-end.result - (c.loop.counter + 1)) (omega arith) c.in-Ok.cell c.in-Ok.end c.in-Ok.ensures.is _ c.in_ok-push.ensures.items

pub returns : goal.returns
returns g c = list_all g.T.Theory.meaning c.args.recipe.now.file.now (vec_items c.loop.cells) (c.cells-end.result - c.loop.counter) c.loop.at _ _ c.file-file.ensures c.loop.invariant (omega arith)
