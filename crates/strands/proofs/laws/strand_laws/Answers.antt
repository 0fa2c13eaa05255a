use Rattle.strands.proofs.Numbering.{laws}
use Rattle.strands.proofs.laws.strand_laws.Goals as goal

pub returns : goal.returns
returns g c = laws _
