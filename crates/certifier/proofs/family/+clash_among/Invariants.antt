use Rattle.std.proofs.Common.{length}
use Rattle.certifier.proofs.family.+clash_among.Given as goal

abbrev pub decreases-clash_among : goal.decreases-clash_among
decreases-clash_among g l = length l.children.now
