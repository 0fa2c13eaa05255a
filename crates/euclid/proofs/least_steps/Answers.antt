use Rattle.std.proofs.Common.{rules}
use Rattle.euclid.proofs.Stepping.{at_nothing, never_nothing, fewest}
use native.Mathlib.Nat.{pos_of_dvd_of_pos}
use Rattle.euclid.proofs.least_steps.Goals as goal

pub returns-then-modulus-eq0 : goal.returns-then-modulus-eq0
returns-then-modulus-eq0 c = search (rules, at_nothing, never_nothing)

pub nonzero_rem-start : goal.nonzero_rem-start
nonzero_rem-start c = search (rules, pos_of_dvd_of_pos)

pub returns : goal.returns
returns c = search (rules, fewest)
