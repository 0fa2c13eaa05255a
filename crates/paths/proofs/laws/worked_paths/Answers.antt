use Rattle.std.proofs.Common.{refl}
use Rattle.rpl.specs.Paths.{done, one, skip}
use Rattle.paths.proofs.laws.worked_paths.Goals as goal

pub returns : goal.returns
returns c = record {
  other_ends = refl;
  empty_star = one refl (skip done);
  other_sorts = refl;
  used_once = refl;
  crossed = refl;
}
