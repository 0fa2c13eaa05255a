use Rattle.theory.specs.Telling.{tells_same}
use Rattle.sections.specs.Cells.{In}
use Rattle.sections.specs.Listed.{has_tells}
use Rattle.sections.proofs.sections.SectionsTheory.has.Goals as goal

pub returns : goal.returns
returns c = tells_same _ _ (In c.args.region.now c.args.cell.now) c.holds.ensures (has_tells c.args.region.now c.args.cell.now)
