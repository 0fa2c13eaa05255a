use Rattle.std.proofs.Common.{map, rules}
use Rattle.certifier.proofs.Stepping.{walk_found, walk_more, walk_none, walk_over}
use Rattle.certifier.proofs.statement.Certifying.statements_fault.Goals as goal
use Rattle.certifier.proofs.statement.Certifying.statements_fault.Goals.{in_default, in_default-2}

pub loop-strands-init : goal.loop-strands-init
loop-strands-init g c =
    let m = g.T.Theory.meaning in
    let s = c.args.self.now in
    walk_none m g.met.T.Theory.kept s.recipe.now (map m.point s.cells.now) s.own.now s.strand.number s.strand.site s.strand.indices c.args.place c.saturating_add-child.result c.saturating_add-child.ensures

pub returns-in-Some : goal.returns-in-Some
returns-in-Some g c =
    let m = g.T.Theory.meaning in
    let s = c.args.self.now in
    walk_found m g.met.T.Theory.kept s.recipe.now (map m.point s.cells.now) s.own.now s.strand.number s.strand.site s.strand.indices c.args.place c.loop-strands.at c.loop-strands.child c.loop-strands.invariant
    _ c.file-file.ensures c.in-Ok-Some-default.strands c.in-Ok-Some-default.end c.in-Ok-Some-default.field-0-0 c.in-Ok-Some-default.field-0-0-is c.in-Ok-Some-default.ensures.is c.in_ok-refusal.field-0 c.in_ok-refusal.ensures c.in-Some.refusal c.in-Some.is

pub loop-strands-preserved : goal.loop-strands-preserved
loop-strands-preserved g c =
    let m = g.T.Theory.meaning in
    let s = c.args.self.now in
    walk_more m g.met.T.Theory.kept s.recipe.now (map m.point s.cells.now) s.own.now s.strand.number s.strand.site s.strand.indices c.args.place c.loop-strands.at c.loop-strands.child c.loop-strands.invariant
    _ c.file-file.ensures c.in-Ok-Some-default.strands c.in-Ok-Some-default.end c.in-Ok-Some-default.field-0-0 c.in-Ok-Some-default.field-0-0-is c.in-Ok-Some-default.ensures.is c.in_ok-refusal.field-0 c.in_ok-refusal.ensures c.in_default-2.is
    c.saturating_add-child-in-Ok-Some-default.result c.saturating_add-child-in-Ok-Some-default.ensures

pub returns : goal.returns
returns g c =
    let m = g.T.Theory.meaning in
    let s = c.args.self.now in
    walk_over m g.met.T.Theory.kept s.recipe.now (map m.point s.cells.now) s.own.now s.strand.number s.strand.site s.strand.indices c.args.place c.loop-strands.at c.loop-strands.child c.loop-strands.invariant
    _ c.file-file.ensures c.read_statement.result c.read_statement.ensures.is
    (λ strands end h. elim c.match-read_statement.branch [ in_default w ↦ search rules | in_default-2 w ↦ search rules ])
