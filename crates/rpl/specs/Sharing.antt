-- A cell that two paths share. Assumes nothing.
--
-- common   a cell of both paths, or none where they share none
-- left     the answer for the first path without its first element
-- right    the answer for the second path without its first element
-- both     the answer for both paths without their first elements
use Rattle.std.specs.Prelude.{ℕ, ◌≤◌, cond, List, [], ◌∷◌, length, Some, None, Option, ◌==◌}
use Rattle.rpl.specs.declared.element.Key.{Key}
use Rattle.rpl.specs.declared.element.Key.TheVariants.{Named, Indexed}
use Rattle.rpl.specs.declared.element.Part.{Part}
use Rattle.rpl.specs.declared.element.Part.TheVariants.{Name, Index, AnyIndex}
use Rattle.rpl.specs.declared.element.Element.{Element}
use Rattle.rpl.specs.declared.element.Element.TheVariants.{Star, One}
use Rattle.rpl.specs.Paths.{Cells}

-- a key of a part, and of two parts
abbrev pub key_of : Part → Key
key_of (Name a) = Named a
key_of (Index a) = Indexed a
key_of AnyIndex = Indexed 0

abbrev pub common_key : Part → Part → Option Key
common_key (Name a) (Name b) = cond (a == b) (Some (Named a)) None
common_key (Name a) (Index b) = None
common_key (Name a) AnyIndex = None
common_key (Index a) (Name b) = None
common_key (Index a) (Index b) = cond (a == b) (Some (Indexed a)) None
common_key (Index a) AnyIndex = Some (Indexed a)
common_key AnyIndex (Name b) = None
common_key AnyIndex (Index b) = Some (Indexed b)
common_key AnyIndex AnyIndex = Some (Indexed 0)

-- the first of two answers, or else the second
abbrev pub either : {X : Type 0} → Option X → Option X → Option X
either None o = o
either (Some x) o = Some x

-- an answer with one more key in front
abbrev pub in_front : Key → Option (List Key) → Option (List Key)
in_front k None = None
in_front k (Some w) = Some (k ∷ w)

abbrev pub in_front_if : Option Key → Option (List Key) → Option (List Key)
in_front_if None o = None
in_front_if (Some k) o = in_front k o

-- two paths with these first elements: a star ends here, or takes the key of the other's first element
abbrev pub meeting : Element → Element → Option (List Key) → Option (List Key) → Option (List Key) → Option (List Key)
meeting Star Star left right both = either left right
meeting Star (One b) left right both = either left (in_front (key_of b) right)
meeting (One a) Star left right both = either right (in_front (key_of a) left)
meeting (One a) (One b) left right both = in_front_if (common_key a b) both

-- the empty path shares its one cell with stars
abbrev pub common_nil : List Element → Option (List Key)
common_nil [] = Some []
common_nil (Star ∷ q) = common_nil q
common_nil (One b ∷ q) = None

-- a first element in front of a path, given what that path shares with each
abbrev pub common_cons : Element → (List Element → Option (List Key)) → List Element → Option (List Key)
common_cons Star rest [] = rest []
common_cons (One a) rest [] = None
common_cons a rest (b ∷ q) = meeting a b (rest (b ∷ q)) (common_cons a rest q) (rest q)

abbrev pub common : List Element → List Element → Option (List Key)
common [] q = common_nil q
common (a ∷ p) q = common_cons a (common p) q

-- a cell in both, or none where there is none
abbrev pub InBoth : List Element → List Element → List Key → Type 0
InBoth p q w = Cells p w × Cells q w

abbrev pub Shows : (List Key → Type 0) → Option (List Key) → Type 0
Shows P None = (w : List Key) → P w → ⊥
Shows P (Some w) = P w

-- a shown cell has at most n keys
abbrev pub AtMost : ℕ → Option (List Key) → Type 0
AtMost n None = Unit {0}
AtMost n (Some w) = length w ≤ n
