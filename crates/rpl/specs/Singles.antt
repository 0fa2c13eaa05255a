-- Paths of just one cell. Assumes nothing.
use Rattle.std.specs.Prelude.{◌≡◌, Bool, true, false, ◌≢◌, List, [], ◌∷◌}
use Rattle.std.specs.List.{list_all}
use Rattle.rpl.specs.declared.element.Key.{Key}
use Rattle.rpl.specs.declared.element.Part.TheVariants.{Name, Index, AnyIndex}
use Rattle.rpl.specs.declared.element.Element.{Element}
use Rattle.rpl.specs.declared.element.Element.TheVariants.{Star, One}
use Rattle.rpl.specs.Paths.{Cells}
use Rattle.rpl.specs.Sharing.{key_of}

-- no star and no any-index
abbrev pub single_element : Element → Bool
single_element Star = false
single_element (One (Name a)) = true
single_element (One (Index a)) = true
single_element (One AnyIndex) = false

abbrev pub single_path : List Element → Bool
single_path = list_all single_element

-- a cell of any path, and the only one of a single path
abbrev pub a_cell : List Element → List Key
a_cell [] = []
a_cell (Star ∷ p) = a_cell p
a_cell (One a ∷ p) = key_of a ∷ a_cell p

-- where yes, every cell is that one; where no, some cell is another
abbrev pub OnlyOne : List Element → Bool → Type 0
OnlyOne p true = (w : List Key) → Cells p w → w ≡ a_cell p
OnlyOne p false = (w : List Key) × Cells p w × (w ≢ a_cell p)
