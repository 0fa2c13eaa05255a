use Rattle.std.proofs.Common.{◌≡◌, take}
use Rattle.rpl.proofs.short_list.ShortList.first_of.Given as goal

abbrev pub invariant-loop-slot : goal.invariant-loop-slot
invariant-loop-slot g l = l.list.items ≡ take l.slot l.items
