-- Region paths and the cells that they stand for. Assumes nothing.
--
-- key       an element of a cell: a name or an index
-- cell      a list of keys
-- part      an element of a path that stands for just one key: a name, an index, or any index
-- element   a part, or a star
-- path      a list of elements
-- letter    what a part may take: a key of a cell, or an element of another path
-- word      a list of letters
use Rattle.std.specs.Prelude.{◌≡◌, Bool, true, false, ◌&&◌, List, [], ◌∷◌, ◌==◌}
use Rattle.rpl.specs.declared.element.Key.{Key}
use Rattle.rpl.specs.declared.element.Key.TheVariants.{Named, Indexed}
use Rattle.rpl.specs.declared.element.Part.{Part}
use Rattle.rpl.specs.declared.element.Part.TheVariants.{Name, Index, AnyIndex}
use Rattle.rpl.specs.declared.element.Element.{Element}
use Rattle.rpl.specs.declared.element.Element.TheVariants.{Star, One}

-- the words of a path, where Takes says which letters a part takes: a star takes no letter, or one and then itself
pub data Matches {L : Type 0} (Takes : Part → L → Type 0) : List Element → List L → Type 0 where
  done : Matches Takes [] []
  skip : {p : List Element} {w : List L} → Matches Takes p w → Matches Takes (Star ∷ p) w
  more : {p : List Element} {e : L} {w : List L} → Matches Takes (Star ∷ p) w → Matches Takes (Star ∷ p) (e ∷ w)
  one : {a : Part} {p : List Element} {e : L} {w : List L} → Takes a e → Matches Takes p w → Matches Takes (One a ∷ p) (e ∷ w)

-- the keys that a part stands for, as a fact and as a test
abbrev pub Stands : Part → Key → Type 0
Stands (Name a) (Named b) = a ≡ b
Stands (Name a) (Indexed b) = ⊥
Stands (Index a) (Named b) = ⊥
Stands (Index a) (Indexed b) = a ≡ b
Stands AnyIndex (Named b) = ⊥
Stands AnyIndex (Indexed b) = Unit {0}

abbrev pub stands : Part → Key → Bool
stands (Name a) (Named b) = a == b
stands (Name a) (Indexed b) = false
stands (Index a) (Named b) = false
stands (Index a) (Indexed b) = a == b
stands AnyIndex (Named b) = false
stands AnyIndex (Indexed b) = true

-- the cells of a path
abbrev pub Cells : List Element → List Key → Type 0
Cells = Matches Stands

-- are two cells the same
abbrev pub same_key : Key → Key → Bool
same_key (Named a) (Named b) = a == b
same_key (Named a) (Indexed b) = false
same_key (Indexed a) (Named b) = false
same_key (Indexed a) (Indexed b) = a == b

abbrev pub same_cell : List Key → List Key → Bool
same_cell [] [] = true
same_cell [] (b ∷ v) = false
same_cell (a ∷ u) [] = false
same_cell (a ∷ u) (b ∷ v) = same_key a b && same_cell u v
