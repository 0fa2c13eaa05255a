use Rattle.sections.proofs.Lawful.{worked}
use Rattle.sections.proofs.laws.worked_sections.Goals as goal

pub returns : goal.returns
returns c = worked
