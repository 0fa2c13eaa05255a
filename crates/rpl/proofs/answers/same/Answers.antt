use Rattle.std.proofs.Common.{◌≡◌, ◌∙◌, refl}
use Rattle.rpl.specs.contracts.element.KeyPartialEq.TheImpl.{ghosts}
use Rattle.rpl.specs.declared.element.Key.{Key}
use Rattle.rpl.specs.declared.element.Key.TheVariants.{Named, Indexed}
use Rattle.rpl.specs.Paths.{same_key}
use Rattle.rpl.proofs.Steps.{cells_same}
use Rattle.rpl.proofs.answers.same.Goals as goal

keys_same : (a b : Key) → ghosts.eq a b ≡ same_key a b
keys_same (Named a) (Named b) = refl
keys_same (Named a) (Indexed b) = refl
keys_same (Indexed a) (Named b) = refl
keys_same (Indexed a) (Indexed b) = refl

pub returns : goal.returns
returns c = c.eq.ensures ∙ cells_same ghosts.eq keys_same c.args.a.now c.args.b.now
