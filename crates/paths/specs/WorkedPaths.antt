-- Worked examples of paths. Assumes nothing.
--
-- A, B   two names
use Rattle.std.specs.Prelude.{◌≡◌, ℕ, List, [], ◌∷◌, Some, None}
use Rattle.rpl.specs.declared.element.Key.TheVariants.{Named}
use Rattle.rpl.specs.declared.element.Part.TheVariants.{Name, Index, AnyIndex}
use Rattle.rpl.specs.declared.element.Element.{Element}
use Rattle.rpl.specs.declared.element.Element.TheVariants.{Star, One}
use Rattle.paths.specs.Filling.{Region}
use Rattle.paths.specs.PathsMeaning.{paths_meaning}

abbrev pub A : Element
A = One (Name 0)

abbrev pub B : Element
B = One (Name 1)

abbrev pub at : ℕ → Element
at i = One (Index i)

-- the region of a path
abbrev pub path : List Element → Region
path es = record { items = es }

pub record WorkedPaths : Type 0 where
  -- A:*:[1] and A:*:[2] share none
  pub other_ends : paths_meaning.shown (path (A ∷ Star ∷ at 1 ∷ [])) (path (A ∷ Star ∷ at 2 ∷ [])) ≡ None
  -- A:* has A
  pub empty_star : paths_meaning.In (path (A ∷ Star ∷ [])) (Named 0 ∷ [])
  -- A:[?] and A:B share none
  pub other_sorts : paths_meaning.shown (path (A ∷ One AnyIndex ∷ [])) (path (A ∷ B ∷ [])) ≡ None
  -- A:*:A and A share none
  pub used_once : paths_meaning.shown (path (A ∷ Star ∷ A ∷ [])) (path (A ∷ [])) ≡ None
  -- *:A and B:* share B:A
  pub crossed : paths_meaning.shown (path (Star ∷ A ∷ [])) (path (B ∷ Star ∷ [])) ≡ Some (Named 1 ∷ Named 0 ∷ [])
