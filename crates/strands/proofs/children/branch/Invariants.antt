use Rattle.std.proofs.Common.{◌≡◌, ◌-◌, ◌≤◌}
use Rattle.strands.specs.ChildAt.{branch_at}
use Rattle.strands.proofs.children.branch.Given as goal

-- the block is so many further on, and its number is no larger than a number can be
abbrev pub invariant-loop : goal.invariant-loop
invariant-loop g l =
    (branch_at g.T.Theory.meaning l.file l.site l.nth l.first l.site.place ≡ branch_at g.T.Theory.meaning l.file l.site (l.nth - l.counter) l.number l.at)
    × (l.number ≤ 65535)
