use Rattle.std.proofs.Common.{sym, rules}
use Rattle.recipe.specs.Kinds.{body_length}
use Rattle.recipe.proofs.Table.{beyond, table_at}
use Rattle.recipe.proofs.kinds.body_length.Goals as goal

pub returns-then-byte-ge73 : goal.returns-then-byte-ge73
returns-then-byte-ge73 c = sym (beyond c.args.byte (search rules))

pub returns : goal.returns
unfolding body_length
returns c = table_at body_length 73 c.args.byte (search rules)
