use Rattle.std.proofs.Common.{◌≡◌, suc, ◌+◌, ◌-◌, length, ◌∙◌, arith}
use Rattle.recipe.specs.Blocks.{block_at, inner}
use Rattle.recipe.specs.Tree.{sizes}
use Rattle.recipe.proofs.Results.{passed_on}
use Rattle.recipe.proofs.RingLaws as law
use Rattle.recipe.proofs.blocks.+read_block_read_branches_read_fork_read_statement_read_statements_read_under.Goals as goal

pub read_branches-returns-in_err-block-clause-is : goal.read_branches-returns-in_err-block-clause-is
read_branches-returns-in_err-block-clause-is g t c =
    rw (passed_on _ _ c.from_residual.ensures.1, ← c.loop.invariant.0, law.branches_fault g.T.Theory.meaning c.args.file.now (block_at g.T.Theory.meaning c.args.file.now c.args.site.forks) c.args.site.depth (c.args.count - c.loop.counter) c.loop.read.end _ (omega arith) c.in_err-block.ensures.is)

pub read_branches-loop-preserved : goal.read_branches-loop-preserved
read_branches-loop-preserved g t c =
    let w = c.in_ok-block.ensures.whole in
    let less : c.args.count - c.loop.counter - 1 ≡ c.args.count - (c.loop.counter + 1) = omega arith in
    rw c.then-read.ensures (
      rw (← less) (law.branches_on g.T.Theory.meaning c.args.file.now (block_at g.T.Theory.meaning c.args.file.now c.args.site.forks) c.args.site.depth (c.args.count - c.loop.counter) c.loop.read c.in_ok-block.block (omega arith) c.in_ok-block.ensures.is ∙ c.loop.invariant.0),
      omega arith,
      (omega arith, omega arith),
    )

pub read_statements-loop-found-init : goal.read_statements-loop-found-init
read_statements-loop-found-init g t c =
    ((suc (length c.args.file.now), (omega arith, omega arith), law.after_none sizes c.args.site.place _), omega arith, omega arith)

pub read_statements-loop-found-preserved : goal.read_statements-loop-found-preserved
read_statements-loop-found-preserved g t c =
    let w = c.in_ok-found.ensures.whole in
    let (fuel, some, makes) = c.loop-found.invariant.0 in
    rw c.then-read.ensures (
      (fuel - 1, (omega arith, omega arith), law.statements_on g.T.Theory.meaning c.args.file.now (inner g.T.Theory.meaning c.args.file.now c.args.site.forks) c.args.site.forks c.args.site.depth fuel c.loop-found.read _ _ _ some.0 c.in-Some.is c.in_ok-found.ensures.is ∙ makes),
      omega arith,
      omega arith,
    )
