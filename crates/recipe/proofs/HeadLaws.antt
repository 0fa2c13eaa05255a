-- Whether a record begins at a place. Assumes nothing.
use Rattle.std.proofs.Common.{◌≡◌, ℕ, ◌<◌, ◌≤◌, false, List, length, Some, None, le-ltb, lt-ltb}
use Rattle.theory.specs.Reading.{byte}
use Rattle.recipe.specs.declared.head.Spot.{Spot}
use Rattle.recipe.specs.declared.kinds.Kind.{Kind}
use Rattle.recipe.specs.Kinds.{allowed, kind_of}
use Rattle.recipe.specs.Heads.{begins}

module _ (file : List ℕ) (spot : Spot) (at : ℕ) where
  pub begins_past : length file ≤ at → false ≡ begins file spot at
  unfolding begins
  begins_past h = rw (le-ltb at (length file) h)

  pub begins_none : at < length file → kind_of (byte file at) ≡ None → false ≡ begins file spot at
  unfolding begins
  begins_none h e = rw (lt-ltb at (length file) h, e)

  pub begins_some : at < length file → (k : Kind) → kind_of (byte file at) ≡ Some k → allowed spot k ≡ begins file spot at
  unfolding begins
  begins_some h k e = rw (lt-ltb at (length file) h, e)
