use Rattle.certifier.proofs.Lawful.{laws}
use Rattle.certifier.proofs.laws.certifier_laws.Goals as goal

pub returns : goal.returns
returns g c = laws g.T.Theory.meaning g.met.T.Theory.kept
