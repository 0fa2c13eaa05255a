use Rattle.sections.proofs.Lawful.{laws}
use Rattle.sections.proofs.laws.section_laws.Goals as goal

pub returns : goal.returns
returns c = laws
