use Rattle.std.proofs.Common.{rules}
use Rattle.theory.proofs.Holes.{no_index}
use Rattle.theory.proofs.indices.index_of.Goals as goal

pub returns-in_default : goal.returns-in_default
returns-in_default c = no_index c.args.indices.now c.args.hole (search rules) (search rules) (search rules) (search rules)
