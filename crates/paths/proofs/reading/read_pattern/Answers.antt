use Rattle.std.proofs.Common.{◌∙◌, refl, arith}
use Rattle.paths.proofs.ReadSteps.{not_full, read_next}
use Rattle.paths.proofs.reading.read_pattern.Goals as goal

pub loop-record-preserved : goal.loop-record-preserved
loop-record-preserved c = record {
  few = omega (arith, c.push.ensures.len, not_full _ c.loop-record.invariant.few (c.if-is_full.ensures.is));
  on = read_next _ _ _ _ _ _ _ _ _ refl (not_full _ c.loop-record.invariant.few (c.if-is_full.ensures.is)) c.in-Some.is c.in_ok-record.ensures c.push.ensures.items ∙ c.loop-record.invariant.on;
}
