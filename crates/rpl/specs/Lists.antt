-- A list without its first element, as the pattern [x, rest @ ..] reads it. Assumes nothing.
use Rattle.std.specs.Prelude.{◌-◌, List, length, take, drop}

abbrev pub rest : {X : Type 0} → List X → List X
rest xs = take (length xs - 1) (drop 1 xs)
