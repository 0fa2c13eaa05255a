use Rattle.std.proofs.Common.{arith}
use Rattle.rpl.proofs.Greedy.{has_exact}
use Rattle.rpl.proofs.Inclusion.{refused, within_exact}
use Rattle.rpl.proofs.Shared.{common_short, common_shows}
use Rattle.rpl.proofs.Sole.{a_cell_in, same_exact, single_exact}
use Rattle.rpl.proofs.exact.answers_exact.Goals as goal

pub returns : goal.returns
returns c = record {
  same = same_exact;
  has = has_exact;
  within = within_exact;
  outside = refused;
  shows = common_shows;
  short = λ p q h k. common_short p q 22 (omega arith) (omega arith) (omega arith);
  some = a_cell_in;
  single = single_exact;
}
