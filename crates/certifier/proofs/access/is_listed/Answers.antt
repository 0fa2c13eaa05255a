use Rattle.std.proofs.Common.{rules, tests, sym, ◌∙◌}
use Rattle.std.proofs.lemmas.Iterator.{YieldsList-from_slice}
use Rattle.std.proofs.lemmas.Iterator.Search.{any_from_yields_List}
use Rattle.certifier.proofs.Listing.{listed_any}
use Rattle.certifier.proofs.access.is_listed.Goals as goal

pub returns : goal.returns
returns g c =
    let m = g.T.Theory.meaning in
    any_from_yields_List (λ d. m.same (m.point c.args.cell.now) (m.point d)) _ _ _ c.any.ensures.ran (YieldsList-from_slice c.args.cells.now cc) (λ x b q k. search (rules, tests))
    ∙ sym (listed_any m (m.point c.args.cell.now) c.args.cells.now)
