use Rattle.std.proofs.Common.{◌∙◌}
use Rattle.strands.proofs.Left as law
use Rattle.strands.proofs.Answered.{got, lost}
use Rattle.strands.proofs.finding.locate.Goals as goal

pub returns-in_err-extent : goal.returns-in_err-extent
returns-in_err-extent g c =
    let e = lost _ _ c.in_err-extent.ensures.value c.read_block.ensures.is in
    c.from_residual.ensures ∙ law.moved g.T.Theory.meaning c.file-file.result.now _ c.root.result _ c.args.number _ c.file-file.ensures c.root.ensures (law.root_bad g.T.Theory.meaning c.file-file.result.now c.root.result c.args.number e.0 e.1)

pub returns-then-extent-gt-MOST_STRANDS : goal.returns-then-extent-gt-MOST_STRANDS
returns-then-extent-gt-MOST_STRANDS g c =
    law.moved g.T.Theory.meaning c.file-file.result.now _ c.root.result _ c.args.number _ c.file-file.ensures c.root.ensures
    (law.root_large g.T.Theory.meaning c.file-file.result.now c.root.result c.args.number c.in_ok-extent.extent (got _ _ _ c.in_ok-extent.ensures.value c.read_block.ensures.is) c.if-extent-gt-MOST_STRANDS.true)

pub returns-then-number-extent : goal.returns-then-number-extent
returns-then-number-extent g c =
    law.moved g.T.Theory.meaning c.file-file.result.now _ c.root.result _ c.args.number _ c.file-file.ensures c.root.ensures
    (law.root_past g.T.Theory.meaning c.file-file.result.now c.root.result c.args.number c.in_ok-extent.extent (got _ _ _ c.in_ok-extent.ensures.value c.read_block.ensures.is) c.if-extent-gt-MOST_STRANDS.false c.if-number-extent.true)

pub returns : goal.returns
returns g c =
    law.moved g.T.Theory.meaning c.file-file.result.now _ c.root.result _ c.args.number _ c.file-file.ensures c.root.ensures
    (law.root_found g.T.Theory.meaning c.file-file.result.now c.root.result c.args.number c.in_ok-extent.extent (got _ _ _ c.in_ok-extent.ensures.value c.read_block.ensures.is) c.find_in_block.result c.if-extent-gt-MOST_STRANDS.false c.if-number-extent.false c.find_in_block.ensures)
