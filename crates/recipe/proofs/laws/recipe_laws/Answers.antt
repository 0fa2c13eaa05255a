use Rattle.recipe.proofs.Accepted.{laws}
use Rattle.recipe.proofs.laws.recipe_laws.Goals as goal

pub returns : goal.returns
returns g c = laws g.T.Theory.meaning g.met.T.Theory.kept
