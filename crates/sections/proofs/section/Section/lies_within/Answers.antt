use Rattle.std.proofs.Common.{◌<◌, ◌≡◌, true, arith}
use Rattle.theory.specs.Telling.{tells_eqb, told_yes, yes_told}
use Rattle.sections.specs.Cells.{In, last_cell}
use Rattle.sections.specs.Cell.{every_by_step, step_divides, first_in, last_in}
use Rattle.sections.proofs.section.Section.lies_within.Goals as goal
use Rattle.sections.proofs.section.Section.lies_within.Goals.{then-holds, else-holds}

pub returns-else-self-eq1 : goal.returns-else-self-eq1
returns-else-self-eq1 c =
    let a = c.args.self.now in
    let b = c.args.other.now in
    let more : 1 < a.count = let p = a.some in let n = c.if-self-eq1.false in omega arith in
    elim c.if-holds.branch [
      | then-holds w ↦
          let e : w.holds-then-holds.result ≡ true = cc in
          let l = told_yes _ (In b w.last.result) w.holds-then-holds.ensures e in
          tells_eqb _ _
          (λ e. every_by_step _ _ _ _ _ _ b.moves e w.if-holds.ensures (rw w.last.ensures at l))
          (step_divides _ _ _ _ _ _ b.moves more)
      | else-holds w ↦ absurd cc
    ]

pub returns-else-holds-2 : goal.returns-else-holds-2
returns-else-holds-2 c =
    let a = c.args.self.now in
    let b = c.args.other.now in
    rw c.if-holds-2.false
    (λ h. elim c.if-holds.branch [
      | then-holds w ↦
          let l : In b w.last.result = rw w.last.ensures (h (last_cell a) (last_in _ _ _ a.some)) in
          let e = yes_told _ (In b w.last.result) w.holds-then-holds.ensures l in
          absurd cc
      | else-holds w ↦ w.if-holds.ensures (h a.first (first_in _ _ _ a.some))
    ])
