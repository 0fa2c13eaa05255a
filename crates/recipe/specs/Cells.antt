-- The list of cells at the head of a file, under a theory. Assumes nothing.
use Rattle.std.specs.Prelude.{ℕ, zero, suc, cond, List, [], ◌∷◌, ◌++◌, is_some, Some, None, Ok, Err, Option, Result}
use Rattle.theory.specs.declared.fault.Flaw.TheVariants.{Kind, TooMany}
use Rattle.theory.specs.Meaning.{Meaning, zeros}
use Rattle.recipe.specs.declared.fault.Fault.{Fault}
use Rattle.recipe.specs.declared.fault.Fault.TheVariants.{Record, Repeated}
use Rattle.recipe.specs.declared.head.Spot.TheVariants.{Cells}
use Rattle.recipe.specs.Heads.{begins}
use Rattle.recipe.specs.Records.{record_at, then}
use Rattle.recipe.specs.Rec.{cell_pattern, Rec}

abbrev pub most_cells : ℕ
most_cells = 128

-- no foreach encloses a Cell
abbrev pub unfilled : List ℕ
unfilled = zeros

abbrev pub later : Option ℕ → Option ℕ
later None = None
later (Some n) = Some (suc n)

-- the entry of a list at a number, counted from 0
abbrev pub at_number : {X : Type 0} → List X → ℕ → Option X
at_number [] k = None
at_number (x ∷ xs) zero = Some x
at_number (x ∷ xs) (suc k) = at_number xs k

module _ {P R C : Type 0} (m : Meaning P R C) where
  -- where a cell stands in a list, counted from 0
  unfoldable pub position : m.Point → List m.Point → Option ℕ
  position x [] = None
  position x (y ∷ ys) = cond (m.same x y) (Some 0) (later (position x ys))

  -- the cell that a pattern names, with the end of its record; only a Cell names one
  abbrev pub naming : (at after : ℕ) → Option P → Result (m.Point × ℕ) Fault
  naming at after (Some p) = Ok (m.only p unfilled, after)
  naming at after None = Err (Record Kind at)

  abbrev pub named : ℕ → Rec P × ℕ → Result (m.Point × ℕ) Fault
  named at (r, after) = naming at after (cell_pattern r)

  module _ (file : List ℕ) where
    -- the cell of the Cell at a place, with its end
    unfoldable pub cell_at : ℕ → Result (m.Point × ℕ) Fault
    cell_at at = then (record_at m file Cells 0 0 at) (named at)

    -- the cells from a place on, after those listed so far: so many more may come, and none may come twice
    abbrev pub listing : (List m.Point → ℕ → Result (List m.Point × ℕ) Fault) → List m.Point → ℕ → m.Point × ℕ → Result (List m.Point × ℕ) Fault
    listing rest seen at (x, after) = cond (is_some (position x seen)) (Err (Repeated at)) (rest (seen ++ (x ∷ [])) after)

    unfoldable pub cells : (room : ℕ) → List m.Point → ℕ → Result (List m.Point × ℕ) Fault
    cells zero seen at = cond (begins file Cells at) (Err (Record TooMany at)) (Ok (seen, at))
    cells (suc room) seen at = cond (begins file Cells at) (then (cell_at at) (listing (cells room) seen at)) (Ok (seen, at))
