-- What is told of an input that is refused. Assumes nothing.
use Rattle.std.specs.Prelude.{ℕ, List}
use Rattle.theory.specs.declared.told.Layer.TheVariants.{Machine}
use Rattle.theory.specs.declared.told.Told.{Told}
use Rattle.theory.specs.Line.{told_line}
use Rattle.recipe.specs.Fault.{fault_told}
use Rattle.judge.specs.declared.refusal.Refusal.{Refusal}
use Rattle.judge.specs.declared.refusal.Refusal.TheVariants.{UnknownTheory, Unread}

-- an unknown theory is told by the program
abbrev pub refusal_told : Refusal → Told
refusal_told UnknownTheory = record { number = 20; layer = Machine; place = 0; strand = 0 }
refusal_told (Unread f) = fault_told f

-- the printed line
abbrev pub refusal_line : Refusal → List ℕ
refusal_line r = told_line (refusal_told r)
