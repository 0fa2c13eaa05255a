-- The keys that an answer of the program shows. Assumes nothing.
use Rattle.std.specs.Prelude.{List, Some, None, Option}
use Rattle.rpl.specs.declared.element.Key.{Key}
use Rattle.rpl.specs.ShortList.{ShortList}

abbrev pub told : Option (ShortList Key) → Option (List Key)
told None = None
told (Some c) = Some c.items
