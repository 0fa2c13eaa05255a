use Rattle.std.proofs.Common.{rules, tests}
use Rattle.std.proofs.lemmas.Iterator.{YieldsList-from_slice}
use Rattle.std.proofs.lemmas.Iterator.Search.{any_from_yields_List}
use Rattle.certifier.specs.Effects.{covers}
use Rattle.certifier.proofs.effect.effect_covered.Goals as goal

pub returns : goal.returns
returns g c =
    any_from_yields_List (λ by. covers g.T.Theory.meaning by c.args.effect.now) _ _ _ c.any.ensures.ran (YieldsList-from_slice c.args.own.now cc) (λ x b q k. search (rules, tests))
