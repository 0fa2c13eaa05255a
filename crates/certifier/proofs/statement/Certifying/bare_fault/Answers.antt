use Rattle.std.proofs.Common.{map}
use Rattle.std.proofs.lemmas.Result.{IfOk-weaker}
use Rattle.recipe.specs.Said.{said}
use Rattle.certifier.proofs.Judged.{found_fork}
use Rattle.certifier.proofs.statement.Certifying.bare_fault.Goals as goal

pub returns-in-Fork : goal.returns-in-Fork
returns-in-Fork g c =
    let m = g.T.Theory.meaning in
    let s = c.args.self.now in
    IfOk-weaker c.fork_fault.result _ _
    (λ r. found_fork m s.recipe.now (map m.point s.cells.now) s.own.now s.strand.number s.strand.site s.strand.indices c.args.spot c.args.at c.args.child (said c.in-Ok.entry) c.in-Ok.field-0-1
    _ c.file.ensures c.in-Ok.ensures.is c.in-Fork.fork c.in-Fork.ensures c.count_children.result c.count_children.ensures r)
    c.fork_fault.ensures
