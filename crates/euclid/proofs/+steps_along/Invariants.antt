use Rattle.euclid.proofs.+steps_along.Given as goal

abbrev pub decreases-steps_along : goal.decreases-steps_along
decreases-steps_along l = l.step
