-- Regions that a program holds: their elements are few and fit. Assumes nothing.
use Rattle.std.proofs.Common.{◌≡◌, false, arith}
use Rattle.rpl.specs.Sharing.{AtMost}
use Rattle.rpl.proofs.Inclusion as inclusion
use Rattle.rpl.proofs.Shared.{common_short}
use Rattle.paths.specs.Filling.{Region}
use Rattle.paths.specs.PathLaws.{Held, Witness}
use Rattle.paths.specs.PathsMeaning.{paths_meaning}

pub shown_short : (a b : Region) → Held a → Held b → AtMost 22 (paths_meaning.shown a b)
shown_short a b h k = common_short a.items b.items 22 (omega arith) (omega arith) (omega arith)

pub refused : (a b : Region) → Held a → Held b → paths_meaning.within a b ≡ false → Witness a b
refused a b h k e = inclusion.refused a.items b.items h.1 (omega arith) e
