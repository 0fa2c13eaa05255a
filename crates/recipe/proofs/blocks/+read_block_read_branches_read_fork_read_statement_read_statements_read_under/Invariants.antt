use Rattle.std.proofs.Common.{◌≡◌, ℕ, suc, ◌+◌, ◌-◌, ◌*◌, ◌<◌, ◌≤◌, length}
use Rattle.recipe.specs.Blocks.{block_at, branches, inner, statements}
use Rattle.recipe.specs.Records.{mapped}
use Rattle.recipe.specs.Extents.{EndsFrom, extent, one_after}
use Rattle.recipe.specs.Tree.{branched, sizes}
use Rattle.recipe.proofs.blocks.+read_block_read_branches_read_fork_read_statement_read_statements_read_under.Given as goal

abbrev pub decreases-read_branches : goal.decreases-read_branches
decreases-read_branches g l = 6 * l.site.forks + 6

abbrev pub decreases-read_block : goal.decreases-read_block
decreases-read_block g l = 6 * l.site.forks + 5

abbrev pub decreases-read_statements : goal.decreases-read_statements
decreases-read_statements g l = 6 * l.site.forks + 4

abbrev pub decreases-read_statement : goal.decreases-read_statement
decreases-read_statement g l = 6 * l.site.forks + 3

abbrev pub decreases-read_under : goal.decreases-read_under
decreases-read_under g l = 6 * l.site.forks + 2

abbrev pub decreases-read_fork : goal.decreases-read_fork
decreases-read_fork g l = 6 * l.site.forks + 1

abbrev pub invariant-read_branches-loop : goal.invariant-read_branches-loop
invariant-read_branches-loop g l =
    (mapped (one_after l.read) (mapped (extent branched) (branches g.T.Theory.meaning l.file (block_at g.T.Theory.meaning l.file l.site.forks) (l.count - l.counter) l.site.depth l.read.end))
    ≡ mapped (extent branched) (branches g.T.Theory.meaning l.file (block_at g.T.Theory.meaning l.file l.site.forks) l.count l.site.depth l.site.place))
    × (l.read.strands ≤ 1025) × EndsFrom l.file l.site.place l.read.end

abbrev pub invariant-read_statements-loop-found : goal.invariant-read_statements-loop-found
invariant-read_statements-loop-found g l =
    ((fuel : ℕ) × ((0 < fuel) × (length l.file < l.read.end + fuel))
    × (mapped (one_after l.read) (mapped (extent sizes) (statements g.T.Theory.meaning l.file (inner g.T.Theory.meaning l.file l.site.forks) l.site.forks l.site.depth fuel l.read.end))
    ≡ mapped (extent sizes) (statements g.T.Theory.meaning l.file (inner g.T.Theory.meaning l.file l.site.forks) l.site.forks l.site.depth (suc (length l.file)) l.site.place)))
    × (l.read.strands ≤ 1025) × (l.site.place ≤ l.read.end)

abbrev pub decreases-read_statements-loop-found : goal.decreases-read_statements-loop-found
decreases-read_statements-loop-found g l = length l.file - l.read.end
