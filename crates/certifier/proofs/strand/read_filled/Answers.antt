use Rattle.std.proofs.Common.{vec_items}
use Rattle.certifier.proofs.Collecting.{collect_all, collect_more}
use Rattle.certifier.proofs.strand.read_filled.Goals as goal

pub loop-effect-preserved : goal.loop-effect-preserved
loop-effect-preserved g c =
    let s = c.args.strand.now in
    collect_more g.T.Theory.meaning c.args.file.now s.indices s.site.depth s.site.place c.loop-effect.at (vec_items c.loop-effect.filled) c.loop-effect.invariant c.in-Some.effect c.in-Some.end c.in-Some.ensures.is _ c.in_ok-push.ensures.items

pub returns : goal.returns
returns g c =
    let s = c.args.strand.now in
    collect_all g.T.Theory.meaning c.args.file.now s.indices s.site.depth s.site.place c.loop-effect.at (vec_items c.loop-effect.filled) c.loop-effect.invariant c.in_default.ensures.is
