use Rattle.std.proofs.Common.{rules}
use Rattle.sections.proofs.Sharing.{least_swap}
use Rattle.sections.proofs.section.Section.least_shared.Goals as goal

pub returns-else-self-other : goal.returns-else-self-other
returns-else-self-other c = search (rules, least_swap)
