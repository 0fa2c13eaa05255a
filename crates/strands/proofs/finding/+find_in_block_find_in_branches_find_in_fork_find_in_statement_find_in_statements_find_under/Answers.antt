use Rattle.std.proofs.Common.{◌+◌, ◌-◌, ◌%◌, List, ℕ, None, rules, subst, arith}
use Rattle.strands.specs.Finding.{FoundInBlock}
use Rattle.strands.proofs.Answered.{got, lost}
use Rattle.strands.proofs.Left as law
use Rattle.strands.proofs.finding.+find_in_block_find_in_branches_find_in_fork_find_in_statement_find_in_statements_find_under.Goals as goal

pub find_in_block-returns-then-number-eq0 : goal.find_in_block-returns-then-number-eq0
find_in_block-returns-then-number-eq0 g t c =
    law.block_itself g.T.Theory.meaning c.args.file.now c.args.site c.args.indices c.args.number c.if-number-eq0.true

pub find_in_block-returns : goal.find_in_block-returns
find_in_block-returns g t c =
    law.block_inside g.T.Theory.meaning c.args.file.now c.args.site c.args.indices c.args.number c.in_ok-end.end c.find_in_statements.result c.if-number-eq0.false (got _ _ _ c.in_ok-end.ensures.value c.read_effects.ensures.is) c.find_in_statements.ensures

pub find_in_branches-returns-then-left-extent : goal.find_in_branches-returns-then-left-extent
find_in_branches-returns-then-left-extent g t c =
    law.branches_here g.T.Theory.meaning c.args.file.now c.args.site c.args.indices c.args.number c.args.count (c.args.count - c.loop.counter) c.loop.at c.loop.left c.loop.invariant c.in_ok-extent.extent (got _ _ _ c.in_ok-extent.ensures.value c.read_block.ensures.is) c.find_in_block.result c.if-left-extent.true c.find_in_block.ensures

pub find_in_branches-loop-preserved : goal.find_in_branches-loop-preserved
find_in_branches-loop-preserved g t c =
    law.branches_again g.T.Theory.meaning c.args.file.now c.args.site c.args.indices c.args.number c.args.count (c.args.count - c.loop.counter) c.loop.at c.loop.left c.loop.invariant c.in_ok-extent.extent (got _ _ _ c.in_ok-extent.ensures.value c.read_block.ensures.is) (c.args.count - (c.loop.counter + 1)) (omega arith) c.if-left-extent.false

pub find_in_branches-returns : goal.find_in_branches-returns
find_in_branches-returns g t c =
    law.branches_end g.T.Theory.meaning c.args.file.now c.args.site c.args.indices c.args.number c.args.count (c.args.count - c.loop.counter) c.loop.at c.loop.left c.loop.invariant (omega arith) None

pub find_in_fork-returns-in-Cobegin : goal.find_in_fork-returns-in-Cobegin
find_in_fork-returns-in-Cobegin g t c =
    law.fork_cobegin g.T.Theory.meaning c.args.file.now c.args.site c.args.indices c.args.number c.args.fork c.requires c.in-Cobegin.count c.find_in_branches.result c.in-Cobegin.is c.find_in_branches.ensures

pub find_in_fork-returns-then-extent-eq0 : goal.find_in_fork-returns-then-extent-eq0
find_in_fork-returns-then-extent-eq0 g t c =
    law.fork_empty g.T.Theory.meaning c.args.file.now c.args.site c.args.indices c.args.number c.args.fork c.requires c.in-Foreach.count c.in-Foreach.is c.in_ok-extent-in-Foreach.extent (got _ _ _ c.in_ok-extent-in-Foreach.ensures.value c.read_block.ensures.is) c.if-extent-eq0.true None

pub find_in_fork-returns-then-index-count : goal.find_in_fork-returns-then-index-count
find_in_fork-returns-then-index-count g t c =
    law.fork_past g.T.Theory.meaning c.args.file.now c.args.site c.args.indices c.args.number c.args.fork c.requires c.in-Foreach.count c.in-Foreach.is c.in_ok-extent-in-Foreach.extent (got _ _ _ c.in_ok-extent-in-Foreach.ensures.value c.read_block.ensures.is) c.if-index-count.true None

pub find_in_fork-returns-else-index-count : goal.find_in_fork-returns-else-index-count
find_in_fork-returns-else-index-count g t c =
    law.fork_foreach g.T.Theory.meaning c.args.file.now c.args.site c.args.indices c.args.number c.args.fork c.requires c.in-Foreach.count c.in-Foreach.is c.in_ok-extent-in-Foreach.extent (got _ _ _ c.in_ok-extent-in-Foreach.ensures.value c.read_block.ensures.is) c.find_in_block.result c.if-extent-eq0.false
    (subst (λ (l : List ℕ). FoundInBlock g.T.Theory.meaning c.args.file.now (record { place = c.args.site.place; forks = c.args.site.forks - 1; depth = c.args.site.depth + 1 }) l (c.args.number % c.in_ok-extent-in-Foreach.extent.strands) c.find_in_block.result) c.inside-filled.ensures c.find_in_block.ensures)

pub find_in_statements-returns-then-left-strands : goal.find_in_statements-returns-then-left-strands
find_in_statements-returns-then-left-strands g t c =
    law.statements_here g.T.Theory.meaning c.args.file.now c.args.site c.args.indices c.args.number c.loop-strands.at c.loop-strands.left c.loop-strands.invariant
    c.in-Ok-Some-default.strands c.in-Ok-Some-default.end c.in-Ok-Some-default.field-0-0 c.in-Ok-Some-default.field-0-0-is c.in-Ok-Some-default.ensures.is c.find_in_statement.result c.if-left-strands.true c.find_in_statement.ensures

pub find_in_statements-loop-strands-preserved : goal.find_in_statements-loop-strands-preserved
find_in_statements-loop-strands-preserved g t c =
    law.statements_again g.T.Theory.meaning c.args.file.now c.args.site c.args.indices c.args.number c.loop-strands.at c.loop-strands.left c.loop-strands.invariant
    c.in-Ok-Some-default.strands c.in-Ok-Some-default.end c.in-Ok-Some-default.field-0-0 c.in-Ok-Some-default.field-0-0-is c.in-Ok-Some-default.ensures.is c.if-left-strands.false

pub find_in_statements-returns-in_default : goal.find_in_statements-returns-in_default
find_in_statements-returns-in_default g t c =
    law.statements_over g.T.Theory.meaning c.args.file.now c.args.site c.args.indices c.args.number c.loop-strands.at c.loop-strands.left c.loop-strands.invariant c.read_statement.result c.read_statement.ensures.is (λ n q e. search rules) None

pub find_in_statements-returns-in_default-2 : goal.find_in_statements-returns-in_default-2
find_in_statements-returns-in_default-2 g t c =
    law.statements_over g.T.Theory.meaning c.args.file.now c.args.site c.args.indices c.args.number c.loop-strands.at c.loop-strands.left c.loop-strands.invariant c.read_statement.result c.read_statement.ensures.is (λ n q e. search rules) None

pub find_under-returns-in-Fork : goal.find_under-returns-in-Fork
find_under-returns-in-Fork g t c =
    law.under_fork g.T.Theory.meaning c.args.file.now c.args.site c.args.indices c.args.number c.in_ok-outline.outline c.in_ok-outline.end c.in-Fork.fork c.find_in_fork.result c.in-Fork.is (got _ _ _ c.in_ok-outline.ensures.value c.read_outline.ensures.is) c.find_in_fork.ensures

pub find_under-returns-in_default : goal.find_under-returns-in_default
find_under-returns-in_default g t c =
    law.under_none g.T.Theory.meaning c.args.file.now c.args.site c.args.indices c.args.number c.in_ok-outline.outline c.in_ok-outline.end c.in_default.not-Fork (got _ _ _ c.in_ok-outline.ensures.value c.read_outline.ensures.is) None

pub find_in_statement-returns-in-When : goal.find_in_statement-returns-in-When
find_in_statement-returns-in-When g t c =
    law.statement_when g.T.Theory.meaning c.args.file.now c.args.site c.args.indices c.args.number c.in_ok-outline.outline c.in_ok-outline.end c.find_under.result c.in-When.is (got _ _ _ c.in_ok-outline.ensures.value c.read_outline.ensures.is) c.find_under.ensures

pub find_in_statement-returns-in-Fork : goal.find_in_statement-returns-in-Fork
find_in_statement-returns-in-Fork g t c =
    law.statement_fork g.T.Theory.meaning c.args.file.now c.args.site c.args.indices c.args.number c.in_ok-outline.outline c.in_ok-outline.end c.in-Fork.fork c.find_in_fork.result c.in-Fork.is (got _ _ _ c.in_ok-outline.ensures.value c.read_outline.ensures.is) c.find_in_fork.ensures

pub find_in_statement-returns-in_default : goal.find_in_statement-returns-in_default
find_in_statement-returns-in_default g t c =
    law.statement_none g.T.Theory.meaning c.args.file.now c.args.site c.args.indices c.args.number c.in_ok-outline.outline c.in_ok-outline.end c.in_default.not-When c.in_default.not-Fork (got _ _ _ c.in_ok-outline.ensures.value c.read_outline.ensures.is) None

pub find_in_block-returns-in_err-end : goal.find_in_block-returns-in_err-end
find_in_block-returns-in_err-end g t c =
    let e = lost _ _ c.in_err-end.ensures.value c.read_effects.ensures.is in
    law.block_bad g.T.Theory.meaning c.args.file.now c.args.site c.args.indices c.args.number e.0 e.1 _

pub find_in_branches-returns-in_err-extent : goal.find_in_branches-returns-in_err-extent
find_in_branches-returns-in_err-extent g t c =
    let e = lost _ _ c.in_err-extent.ensures.value c.read_block.ensures.is in
    law.branches_bad g.T.Theory.meaning c.args.file.now c.args.site c.args.indices c.args.number c.args.count (c.args.count - c.loop.counter) c.loop.at c.loop.left c.loop.invariant e.0 e.1 _

pub find_in_fork-returns-in_err-extent-in-Foreach : goal.find_in_fork-returns-in_err-extent-in-Foreach
find_in_fork-returns-in_err-extent-in-Foreach g t c =
    let e = lost _ _ c.in_err-extent-in-Foreach.ensures.value c.read_block.ensures.is in
    law.fork_bad g.T.Theory.meaning c.args.file.now c.args.site c.args.indices c.args.number c.args.fork c.requires c.in-Foreach.count c.in-Foreach.is e.0 e.1 _

pub find_under-returns-in_err-outline : goal.find_under-returns-in_err-outline
find_under-returns-in_err-outline g t c =
    let e = lost _ _ c.in_err-outline.ensures.value c.read_outline.ensures.is in
    law.under_bad g.T.Theory.meaning c.args.file.now c.args.site c.args.indices c.args.number e.0 e.1 _

pub find_in_statement-returns-in_err-outline : goal.find_in_statement-returns-in_err-outline
find_in_statement-returns-in_err-outline g t c =
    let e = lost _ _ c.in_err-outline.ensures.value c.read_outline.ensures.is in
    law.statement_bad g.T.Theory.meaning c.args.file.now c.args.site c.args.indices c.args.number e.0 e.1 _
