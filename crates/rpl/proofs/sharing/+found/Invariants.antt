use Rattle.std.proofs.Common.{◌+◌, length}
use Rattle.rpl.proofs.sharing.+found.Given as goal

abbrev pub decreases-found : goal.decreases-found
decreases-found l = length l.p.now + length l.q.now
