use Rattle.std.proofs.Common.{rules, tests, sym, ap, ◌∙◌}
use Rattle.std.proofs.lemmas.Iterator.{YieldsList-from_slice}
use Rattle.certifier.specs.Families.{child_of}
use Rattle.certifier.specs.Faults.{pair_faults}
use Rattle.certifier.specs.Lists.{first}
use Rattle.certifier.specs.Refusals.{refusal_of}
use Rattle.certifier.proofs.Scanning.{first_from_find_map, gather_map}
use Rattle.certifier.proofs.family.clash_with_rest.Goals as goal

pub returns : goal.returns
returns g c =
    let m = g.T.Theory.meaning in
    first_from_find_map _ (λ y. y.now) _ (λ d. pair_faults m (child_of c.args.child.now) (child_of d)) (refusal_of m) _ (λ x r q k. search (rules, tests)) _ c.args.rest.now (YieldsList-from_slice c.args.rest.now cc) _ c.find_map.ensures.runs
    ∙ ap first (sym (gather_map (pair_faults m (child_of c.args.child.now)) child_of c.args.rest.now))
