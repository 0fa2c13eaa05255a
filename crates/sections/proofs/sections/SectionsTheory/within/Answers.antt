use Rattle.theory.specs.Telling.{tells_same}
use Rattle.sections.specs.Listed.{within_tells}
use Rattle.sections.proofs.sections.SectionsTheory.within.Goals as goal

pub returns : goal.returns
returns c = tells_same _ _ _ c.lies_within.ensures (within_tells c.args.a.now c.args.b.now)
