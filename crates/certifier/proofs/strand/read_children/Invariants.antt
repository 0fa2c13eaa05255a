use Rattle.std.proofs.Common.{◌-◌, vec_items}
use Rattle.certifier.proofs.Families.{Gathering}
use Rattle.certifier.proofs.strand.read_children.Given as goal

abbrev pub invariant-loop : goal.invariant-loop
invariant-loop g l = Gathering g.T.Theory.meaning l.recipe l.count l.first (l.count - l.counter) l.number (vec_items l.children)
