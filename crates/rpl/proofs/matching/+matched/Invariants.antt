use Rattle.std.proofs.Common.{◌+◌, length}
use Rattle.rpl.proofs.matching.+matched.Given as goal

abbrev pub decreases-matched : goal.decreases-matched
decreases-matched g l = length l.path.now + length l.word.now
