use Rattle.sections.proofs.Sharing.{none_ever, none_second, found}
use Rattle.sections.proofs.section.Section.least_shared_ahead.Goals as goal

pub returns-in_err-taken : goal.returns-in_err-taken
returns-in_err-taken c =
    rw c.from_residual.ensures (none_ever _ _ _ _ _ _ c.requires c.in_err-taken.ensures)

pub returns-then-taken-other : goal.returns-then-taken-other
returns-then-taken-other c =
    none_second _ _ _ _ _ _ c.requires _ c.in_ok-taken.ensures c.if-taken-other.true

pub returns : goal.returns
returns c =
    rw c.then_some.ensures (found _ _ _ _ _ _ c.requires _ c.in_ok-taken.ensures c.args.self.now.moves c.if-taken-other.false)
