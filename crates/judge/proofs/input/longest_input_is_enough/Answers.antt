use Rattle.judge.proofs.Long.{enough}
use Rattle.judge.proofs.input.longest_input_is_enough.Goals as goal

pub returns : goal.returns
returns c = enough
