use Rattle.std.proofs.Common.{◌+◌, ◌∷◌, take, slice_set, ap, ◌∙◌}
use Rattle.rpl.proofs.Pushing.{fronted, fronted_items, slot_left}
use Rattle.rpl.proofs.short_list.ShortList.push_front.Goals as goal

pub invariant_of-self : goal.invariant_of-self
invariant_of-self g c =
    rw c.rotate_right.ensures.after (fronted _ _ _ _ _ c.self.invariant (slot_left _ _ _ _ _ c.self.invariant c.self.view_is c.requires))

pub returns : goal.returns
returns g c =
    ap (λ slots. take (c.self.inside.len + 1) (slice_set slots 0 c.args.item)) c.rotate_right.ensures.after
    ∙ fronted_items _ _ _ _ _ c.self.invariant (slot_left _ _ _ _ _ c.self.invariant c.self.view_is c.requires)
    ∙ ap (λ v. c.args.item ∷ v.items) c.self.view_is
