use Rattle.std.proofs.Common.{length}
use Rattle.rpl.proofs.sharing.+fill_table.Given as goal

abbrev pub decreases-fill_table : goal.decreases-fill_table
decreases-fill_table l = length l.p.now
