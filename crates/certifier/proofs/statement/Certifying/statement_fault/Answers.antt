use Rattle.std.proofs.Common.{map, None}
use Rattle.std.proofs.lemmas.Result.{IfOk-weaker}
use Rattle.certifier.proofs.Judged.{whole_guarded, whole_nothing}
use Rattle.certifier.proofs.statement.Certifying.statement_fault.Goals as goal

pub returns-in-When : goal.returns-in-When
returns-in-When g c =
    let m = g.T.Theory.meaning in
    let s = c.args.self.now in
    IfOk-weaker c.bare_fault.result _ _
    (λ r. whole_guarded m s.recipe.now (map m.point s.cells.now) s.own.now s.strand.number s.strand.site s.strand.indices c.args.at c.args.child
    c.in-Ok.outline c.in-Ok.end _ c.file.ensures c.in-When.is c.in-Ok.ensures.is r)
    c.bare_fault.ensures

pub returns-in_default : goal.returns-in_default
returns-in_default g c =
    let m = g.T.Theory.meaning in
    let s = c.args.self.now in
    whole_nothing m s.recipe.now (map m.point s.cells.now) s.own.now s.strand.number s.strand.site s.strand.indices c.args.at c.args.child c.in_default.field-0 _ c.file.ensures c.in_default.ensures.is None
