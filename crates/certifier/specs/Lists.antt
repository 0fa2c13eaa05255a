-- Words for lists. Assumes nothing.
--
-- gather     what a function gives for each entry, one after another
-- first      the first entry, where there is one
-- from       the entries with their numbers, counted from a number on
-- beside     two lists, entry by entry
-- Among      an entry of a list
use Rattle.std.specs.Prelude.{◌≡◌, ℕ, suc, ◌⊎◌, List, [], ◌∷◌, ◌++◌, Some, None, Option}

module _ {X : Type 0} where
  abbrev pub gather : {Y : Type 0} → (X → List Y) → List X → List Y
  gather f [] = []
  gather f (x ∷ xs) = f x ++ gather f xs

  abbrev pub first : List X → Option X
  first [] = None
  first (x ∷ xs) = Some x

  abbrev pub from : ℕ → List X → List (ℕ × X)
  from n [] = []
  from n (x ∷ xs) = (n, x) ∷ from (suc n) xs

  abbrev pub beside : {Y : Type 0} → List X → List Y → List (X × Y)
  beside [] ys = []
  beside (x ∷ xs) [] = []
  beside (x ∷ xs) (y ∷ ys) = (x, y) ∷ beside xs ys

  abbrev pub Among : X → List X → Type 0
  Among x [] = ⊥
  Among x (y ∷ ys) = (x ≡ y) ⊎ Among x ys
