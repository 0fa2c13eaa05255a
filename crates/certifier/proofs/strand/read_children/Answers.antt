use Rattle.std.proofs.Common.{ℕ, ◌-◌, List, vec_items, subst, arith}
use Rattle.certifier.specs.Walks.{ChildRead}
use Rattle.certifier.proofs.Families.{gather_all, gather_more, gather_stopped}
use Rattle.certifier.proofs.strand.read_children.Goals as goal

pub returns-in_default : goal.returns-in_default
returns-in_default g c =
    gather_stopped g.T.Theory.meaning c.args.recipe.now c.args.count c.args.first g.met.T.Theory.kept (c.args.count - c.loop.counter) c.loop.number (vec_items c.loop.children) c.loop.invariant (omega arith) c.in_default.ensures

pub loop-preserved : goal.loop-preserved
loop-preserved g c =
    gather_more g.T.Theory.meaning c.args.recipe.now c.args.count c.args.first g.met.T.Theory.kept (c.args.count - c.loop.counter) c.loop.number (vec_items c.loop.children) c.loop.invariant (omega arith)
    c.in-Some.found.0 c.in-Some.found.1 c.in_ok-child.child c.saturating_add-number.result _ c.in-Some.ensures
    (subst (λ (file : List ℕ). ChildRead g.T.Theory.meaning file c.loop.number c.in-Some.found.0 c.in-Some.found.1 c.in_ok-child.child) c.file.ensures c.in_ok-child.ensures)
    c.saturating_add-number.ensures (omega arith) _ c.in_ok-push.ensures.items

pub returns : goal.returns
returns g c = gather_all g.T.Theory.meaning c.args.recipe.now c.args.count c.args.first (c.args.count - c.loop.counter) c.loop.number (vec_items c.loop.children) c.loop.invariant (omega arith)
