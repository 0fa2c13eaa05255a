use Rattle.rpl.proofs.Pushing.{pushed, slot_left}
use Rattle.rpl.proofs.short_list.ShortList.push.Goals as goal

pub invariant_of-self : goal.invariant_of-self
invariant_of-self g c = pushed _ _ _ _ _ c.self.invariant (slot_left _ _ _ _ _ c.self.invariant c.self.view_is c.requires)
