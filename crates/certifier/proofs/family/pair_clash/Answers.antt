use Rattle.std.proofs.Common.{rules, tests, vec_items}
use Rattle.std.proofs.lemmas.Iterator.{YieldsList-from_slice}
use Rattle.certifier.specs.Faults.{overlaps}
use Rattle.certifier.specs.Lists.{gather}
use Rattle.certifier.specs.Refusals.{refusal_of}
use Rattle.certifier.proofs.Scanning.{first_from_find_map}
use Rattle.certifier.proofs.family.pair_clash.Goals as goal

pub returns : goal.returns
returns g c =
    let m = g.T.Theory.meaning in
    first_from_find_map _ (λ y. y.now) _ (λ e. gather (overlaps m c.args.child.now.number c.args.other.now.number e) (vec_items c.args.other.now.effects)) (refusal_of m) _ (λ x r q k. search (rules, tests)) _ _ (YieldsList-from_slice _ cc) _ c.find_map.ensures.runs
