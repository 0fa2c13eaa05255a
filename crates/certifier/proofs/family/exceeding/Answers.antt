use Rattle.std.proofs.Common.{rules, tests}
use Rattle.std.proofs.lemmas.Iterator.{YieldsList-from_slice}
use Rattle.certifier.specs.Faults.{effect_faults}
use Rattle.certifier.specs.Refusals.{refusal_of}
use Rattle.certifier.proofs.Scanning.{first_from_find_map}
use Rattle.certifier.proofs.family.exceeding.Goals as goal

pub returns : goal.returns
returns g c =
    let m = g.T.Theory.meaning in
    first_from_find_map _ (λ y. y.now) _ (effect_faults m c.args.own.now c.args.child.now.number) (refusal_of m) _ (λ x r q k. search (rules, tests)) _ _ (YieldsList-from_slice _ cc) _ c.find_map.ensures.runs
