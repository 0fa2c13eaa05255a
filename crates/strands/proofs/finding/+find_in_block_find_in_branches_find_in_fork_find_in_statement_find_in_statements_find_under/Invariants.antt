use Rattle.std.proofs.Common.{◌+◌, ◌-◌, ◌*◌, length}
use Rattle.strands.proofs.Left.{LeftBeside, LeftIn}
use Rattle.strands.proofs.finding.+find_in_block_find_in_branches_find_in_fork_find_in_statement_find_in_statements_find_under.Given as goal

abbrev pub decreases-find_in_branches : goal.decreases-find_in_branches
decreases-find_in_branches g l = 6 * l.site.forks + 6

abbrev pub decreases-find_in_block : goal.decreases-find_in_block
decreases-find_in_block g l = 6 * l.site.forks + 5

abbrev pub decreases-find_in_statements : goal.decreases-find_in_statements
decreases-find_in_statements g l = 6 * l.site.forks + 4

abbrev pub decreases-find_in_statement : goal.decreases-find_in_statement
decreases-find_in_statement g l = 6 * l.site.forks + 3

abbrev pub decreases-find_under : goal.decreases-find_under
decreases-find_under g l = 6 * l.site.forks + 2

abbrev pub decreases-find_in_fork : goal.decreases-find_in_fork
decreases-find_in_fork g l = 6 * l.site.forks + 1

-- what is left to search holds the strand under what is left of its number
abbrev pub invariant-find_in_branches-loop : goal.invariant-find_in_branches-loop
invariant-find_in_branches-loop g l = LeftBeside g.T.Theory.meaning l.file l.site l.indices l.count l.number (l.count - l.counter) l.at l.left

abbrev pub invariant-find_in_statements-loop-strands : goal.invariant-find_in_statements-loop-strands
invariant-find_in_statements-loop-strands g l = LeftIn g.T.Theory.meaning l.file l.site l.indices l.number l.at l.left

abbrev pub decreases-find_in_statements-loop-strands : goal.decreases-find_in_statements-loop-strands
decreases-find_in_statements-loop-strands g l = length l.file - l.at
