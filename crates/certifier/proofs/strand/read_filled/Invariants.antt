use Rattle.std.proofs.Common.{◌-◌, length, vec_items}
use Rattle.certifier.proofs.Collecting.{Collected}
use Rattle.certifier.proofs.strand.read_filled.Given as goal

abbrev pub invariant-loop-effect : goal.invariant-loop-effect
invariant-loop-effect g l = Collected g.T.Theory.meaning l.file l.strand.indices l.strand.site.depth l.strand.site.place l.at (vec_items l.filled)

abbrev pub decreases-loop-effect : goal.decreases-loop-effect
decreases-loop-effect g l = length l.file - l.at
