use Rattle.std.proofs.Common.{◌-◌, map, length}
use Rattle.certifier.proofs.Stepping.{Walked}
use Rattle.certifier.proofs.statement.Certifying.statements_fault.Given as goal

abbrev pub invariant-loop-strands : goal.invariant-loop-strands
invariant-loop-strands g l =
    let m = g.T.Theory.meaning in
    Walked m g.met.T.Theory.kept l.self.recipe.now (map m.point l.self.cells.now) l.self.own.now l.self.strand.number l.self.strand.site l.self.strand.indices l.place l.at l.child

abbrev pub decreases-loop-strands : goal.decreases-loop-strands
decreases-loop-strands g l = length l.file - l.at
