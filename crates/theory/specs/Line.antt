-- The printed line of a fault. Assumes nothing.
use Rattle.std.specs.Prelude.{ℕ, List, ◌++◌, codes, decimal}
use Rattle.theory.specs.declared.told.Told.{Told}

abbrev pub told_line : Told → List ℕ
told_line t = codes "refused " ++ (decimal t.number ++ (codes " at " ++ (decimal t.place ++ (codes " strand " ++ decimal t.strand))))
