use Rattle.std.proofs.Common.{mod-lt, rules}
use Rattle.euclid.proofs.Stepping.{moves, still_meets, no_steps, more_steps, more_below}
use Rattle.euclid.proofs.+steps_along.Goals as goal

pub nonzero_rem-modulus : goal.nonzero_rem-modulus
nonzero_rem-modulus t c = search (rules, moves)

pub steps_along-requires : goal.steps_along-requires
steps_along-requires t c = search (rules, moves, mod-lt, still_meets)

pub returns-then-over-eq0 : goal.returns-then-over-eq0
returns-then-over-eq0 t c = search (rules, no_steps)

pub returns-else-over-eq0 : goal.returns-else-over-eq0
returns-else-over-eq0 t c = search (rules, moves, more_steps, more_below)
