-- One step of the simple recursions, on the lists behind their slices. Assumes nothing.
use Rattle.std.proofs.Common.{◌≡◌, ℕ, zero, suc, ◌+◌, ◌<◌, Bool, List, [], ◌∷◌, ◌++◌, length, take, get_or, refl, ap, add-one, arith}
use lib.Pointwise.{pointwise}
use Rattle.rpl.specs.declared.element.Key.{Key}
use Rattle.rpl.specs.declared.element.Part.{Part}
use Rattle.rpl.specs.declared.element.Element.{Element}
use Rattle.rpl.specs.declared.element.Element.TheVariants.{Star, One}
use Rattle.rpl.specs.Paths.{same_cell, same_key}
use Rattle.rpl.specs.Sharing.{key_of}
use Rattle.rpl.specs.Singles.{a_cell}

-- sameness of keys, place by place
pub cells_same : (same : Key → Key → Bool) → ((a b : Key) → same a b ≡ same_key a b) → (u v : List Key) → pointwise same u v ≡ same_cell u v
cells_same same h [] [] = refl
cells_same same h [] (b ∷ v) = refl
cells_same same h (a ∷ u) [] = refl
cells_same same h (a ∷ u) (b ∷ v) = rw (h a b, cells_same same h u v) refl

-- a cell of the elements so far, and of one more
star : (p : List Element) (i : ℕ) → i < length p → get_or p i Star ≡ Star → a_cell (take i p) ≡ a_cell (take (suc i) p)
star [] i h e = absurd (omega arith)
star (a ∷ p) zero h e = rw e refl
star (Star ∷ p) (suc i) h e = star p i (omega arith) e
star (One a ∷ p) (suc i) h e = ap (λ w. key_of a ∷ w) (star p i (omega arith) e)

one : (p : List Element) (i : ℕ) (b : Part) → i < length p → get_or p i Star ≡ One b → a_cell (take i p) ++ key_of b ∷ [] ≡ a_cell (take (suc i) p)
one [] i b h e = absurd (omega arith)
one (a ∷ p) zero b h e = rw e refl
one (Star ∷ p) (suc i) b h e = one p i b (omega arith) e
one (One a ∷ p) (suc i) b h e = ap (λ w. key_of a ∷ w) (one p i b (omega arith) e)

pub cell_star : (p : List Element) (i : ℕ) → i < length p → get_or p i Star ≡ Star → a_cell (take i p) ≡ a_cell (take (i + 1) p)
cell_star p i h e = rw add-one (star p i h e)

pub cell_one : (p : List Element) (i : ℕ) (b : Part) (k : Key) (w : List Key) → i < length p → get_or p i Star ≡ One b → k ≡ key_of b → w ≡ a_cell (take i p) →
    w ++ k ∷ [] ≡ a_cell (take (i + 1) p)
cell_one p i b k w h e f g = rw (add-one, f, g) (one p i b h e)
