-- The table of sharing: which suffixes of two paths share a cell. Assumes nothing.
--
-- row      what a path shares with the suffixes of another, under their lengths
-- table    the rows of the suffixes of a path, under their lengths
use Rattle.std.specs.Prelude.{◌≡◌, suc, Bool, true, false, ◌&&◌, ◌||◌, List, [], ◌∷◌, length, Some, None, Option, slice_index_or}
use Rattle.rpl.specs.declared.element.Key.{Key}
use Rattle.rpl.specs.declared.element.Element.{Element}
use Rattle.rpl.specs.declared.element.Element.TheVariants.{Star, One}
use Rattle.rpl.specs.Sharing.{common, common_key}

abbrev pub is_some : {X : Type 0} → Option X → Bool
is_some None = false
is_some (Some x) = true

-- the entry under the length of each suffix of p is as Right says
abbrev pub Entries : {X : Type 0} → X → (X → List Element → Type 0) → List X → List Element → Type 0
Entries d Right xs [] = Right (slice_index_or xs 0 d) []
Entries d Right xs (a ∷ p) = Right (slice_index_or xs (suc (length p)) d) (a ∷ p) × Entries d Right xs p

-- the bits say where f has an answer
abbrev pub RowOf : (List Element → Option (List Key)) → List Bool → List Element → Type 0
RowOf f = Entries false (λ bit q. bit ≡ is_some (f q))

-- the rows are those of the suffixes of p
abbrev pub TableOf : List Element → List (List Bool) → List Element → Type 0
TableOf q = Entries [] (λ row p. RowOf (common p) row q)

-- a bit from those of the paths without their first elements
abbrev pub meeting_bit : Element → Element → Bool → Bool → Bool → Bool
meeting_bit Star b left right both = left || right
meeting_bit (One a) Star left right both = left || right
meeting_bit (One a) (One b) left right both = is_some (common_key a b) && both
