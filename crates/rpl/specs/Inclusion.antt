-- Inclusion of paths: greedy matching with the elements of the first path as letters. Assumes nothing.
--
-- covers   every key of the letter is a key of the part; no part covers a star
-- fits     a name has 16 bits, an index 32
use Rattle.std.specs.Prelude.{◌≤◌, Bool, true, false, List, [], ◌∷◌, ◌==◌}
use Rattle.rpl.specs.declared.element.Key.{Key}
use Rattle.rpl.specs.declared.element.Key.TheVariants.{Named, Indexed}
use Rattle.rpl.specs.declared.element.Part.{Part}
use Rattle.rpl.specs.declared.element.Part.TheVariants.{Name, Index, AnyIndex}
use Rattle.rpl.specs.declared.element.Element.{Element}
use Rattle.rpl.specs.declared.element.Element.TheVariants.{Star, One}
use Rattle.rpl.specs.Paths.{Cells}
use Rattle.rpl.specs.Greedy.{greedy, is_match}

abbrev pub covers : Part → Element → Bool
covers a Star = false
covers (Name a) (One (Name b)) = a == b
covers (Name a) (One (Index b)) = false
covers (Name a) (One AnyIndex) = false
covers (Index a) (One (Name b)) = false
covers (Index a) (One (Index b)) = a == b
covers (Index a) (One AnyIndex) = false
covers AnyIndex (One (Name b)) = false
covers AnyIndex (One (Index b)) = true
covers AnyIndex (One AnyIndex) = true

-- is every cell of p in q
abbrev pub within_path : List Element → List Element → Bool
within_path p q = is_match (greedy covers q p)

abbrev pub FitKey : Key → Type 0
FitKey (Named a) = a ≤ 65535
FitKey (Indexed a) = a ≤ 4294967295

abbrev pub FitCell : List Key → Type 0
FitCell [] = Unit {0}
FitCell (e ∷ w) = FitKey e × FitCell w

abbrev pub FitPart : Part → Type 0
FitPart (Name a) = a ≤ 65535
FitPart (Index a) = a ≤ 4294967295
FitPart AnyIndex = Unit {0}

abbrev pub FitElement : Element → Type 0
FitElement Star = Unit {0}
FitElement (One a) = FitPart a

abbrev pub FitPath : List Element → Type 0
FitPath [] = Unit {0}
FitPath (a ∷ p) = FitElement a × FitPath p

-- a cell, with numbers that fit, that is in p and not in q
abbrev pub Outside : List Element → List Element → Type 0
Outside p q = (w : List Key) × FitCell w × Cells p w × (Cells q w → ⊥)
