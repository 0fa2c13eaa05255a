use Rattle.std.proofs.Common.{length}
use Rattle.rpl.proofs.sharing.+first_row.Given as goal

abbrev pub decreases-first_row : goal.decreases-first_row
decreases-first_row l = length l.q.now
