-- What the program's values for listed cells stand for. Assumes nothing.
use Rattle.std.specs.Prelude.{ℕ, zero, suc, List, [], ◌∷◌, length, Ok, Err, Result}
use Rattle.theory.specs.Meaning.{Meaning}
use Rattle.recipe.specs.declared.fault.Fault.{Fault}
use Rattle.recipe.specs.Cells.{cell_at}

module _ {P R C : Type 0} (m : Meaning P R C) where
  abbrev pub pointed_at : Result (C × ℕ) Fault → Result (m.Point × ℕ) Fault
  pointed_at (Ok (c, after)) = Ok (m.point c, after)
  pointed_at (Err f) = Err f

  -- how many cells were listed, and where their list ends
  abbrev pub counted : List m.Point × ℕ → ℕ × ℕ
  counted (xs, after) = (length xs, after)

  abbrev pub listed_on : (ℕ → List m.Point) → Result (m.Point × ℕ) Fault → List m.Point
  listed_on rest (Ok (x, after)) = x ∷ rest after
  listed_on rest (Err f) = []

  -- the first so many cells that are listed from a place on
  unfoldable pub listed : List ℕ → (count at : ℕ) → List m.Point
  listed file zero at = []
  listed file (suc n) at = listed_on (listed file n) (cell_at m file at)
