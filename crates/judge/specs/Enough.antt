-- How many bytes of an input decide what is said of it. Assumes nothing.
use Rattle.std.specs.Prelude.{◌≡◌, ℕ, List, take}
use Rattle.judge.specs.Judged.{judged}

-- the first n bytes of an input decide what is said of it
abbrev pub Enough : ℕ → Type 0
Enough n = (input : List ℕ) → judged (take n input) ≡ judged input
