use Rattle.paths.proofs.HeldLaws.{refused, shown_short}
use Rattle.paths.proofs.ReadHeld.{read_held}
use Rattle.paths.proofs.laws.path_laws.Goals as goal

pub returns : goal.returns
returns c = record { read_held = read_held; short = shown_short; refused = refused }
