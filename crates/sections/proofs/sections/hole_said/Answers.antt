use Rattle.std.proofs.Common.{arith}
use Rattle.sections.proofs.Built.{hole_some}
use Rattle.sections.proofs.sections.hole_said.Goals as goal

pub returns-in-1-to-3 : goal.returns-in-1-to-3
returns-in-1-to-3 c = hole_some c.args.depth c.args.number c.args.scale (omega arith) (omega (arith, c.if-number-depth.true)) (omega arith)
