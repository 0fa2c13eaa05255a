use Rattle.std.proofs.Common.{length}
use Rattle.rpl.proofs.sharing.+next_row.Given as goal

abbrev pub decreases-next_row : goal.decreases-next_row
decreases-next_row l = length l.q.now
