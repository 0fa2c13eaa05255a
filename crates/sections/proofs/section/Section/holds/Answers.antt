use Rattle.std.proofs.Common.{◌-◌, ◌%◌, ◌≡◌, arith}
use Rattle.theory.specs.Telling.{tells_ltb}
use Rattle.std.proofs.lemmas.Bool.Decides.{nat_tests}
use Rattle.sections.specs.Cell.{in_from, in_even, in_high}
use Rattle.sections.proofs.section.Section.holds.Goals as goal
use Rattle.sections.proofs.section.Section.holds.Goals.{then-cell-first, else-cell-first}

pub returns-then-cell-first-eq0 : goal.returns-then-cell-first-eq0
returns-then-cell-first-eq0 c =
    let s = c.args.self.now in
    let x = c.args.cell in
    elim c.if-cell-first.branch [
      | then-cell-first w ↦
          let e : (x - s.first) % s.step ≡ 0 = grind (arith, nat_tests) in
          tells_ltb _ _ (in_from _ _ _ _ w.if-cell-first.true e) (in_high _ _ _ _ s.moves)
      | else-cell-first w ↦ absurd (grind (arith, nat_tests))
    ]

pub returns-else-cell-first-eq0 : goal.returns-else-cell-first-eq0
returns-else-cell-first-eq0 c =
    let s = c.args.self.now in
    rw c.if-cell-first-eq0.false
    (λ h. let e = in_even _ _ _ _ h in
    elim c.if-cell-first.branch [ then-cell-first w ↦ grind (arith, nat_tests) | else-cell-first w ↦ omega arith ])
