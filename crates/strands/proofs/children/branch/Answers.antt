use Rattle.std.proofs.Common.{◌+◌, ◌-◌, sym, ◌∙◌, arith}
use Rattle.strands.proofs.ChildLaws as law
use Rattle.strands.proofs.Answered.{got, lost}
use Rattle.strands.proofs.children.branch.Goals as goal

pub loop-preserved : goal.loop-preserved
loop-preserved g c = (
  c.loop.invariant.0
      ∙ law.branch_again g.T.Theory.meaning c.args.file.now c.args.site (c.args.nth - c.loop.counter) (c.args.nth - (c.loop.counter + 1)) c.loop.number c.loop.at c.in_ok-extent.extent _ (omega arith) (got _ _ _ c.in_ok-extent.ensures.value c.read_block.ensures.is) c.counted-number.ensures,
  omega (arith, c.counted-number.ensures),
)

pub returns : goal.returns
returns g c = sym (c.loop.invariant.0 ∙ law.branch_done g.T.Theory.meaning c.args.file.now c.args.site (c.args.nth - c.loop.counter) c.loop.number c.loop.at (omega arith))

pub returns-in_err-extent : goal.returns-in_err-extent
returns-in_err-extent g c =
    let e = lost _ _ c.in_err-extent.ensures.value c.read_block.ensures.is in
    c.from_residual.ensures ∙ sym (c.loop.invariant.0 ∙ law.branch_bad g.T.Theory.meaning c.args.file.now c.args.site (c.args.nth - c.loop.counter) c.loop.number c.loop.at e.0 (omega arith) e.1)
