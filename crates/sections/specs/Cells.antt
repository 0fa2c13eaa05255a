-- The cells of a section. Assumes nothing.
--
-- section   cells at a fixed distance from each other: first, first + step, .. , count of them
-- cell      a number
use Rattle.std.specs.Prelude.{◌≡◌, ℕ, zero, suc, ◌+◌, ◌-◌, ◌*◌, ◌<◌, ◌≤◌, Bool, List, [], ◌∷◌, Some, None, Option, nat_eq}
use Rattle.std.specs.List.{list_any, list_all, find}
use Rattle.sections.specs.declared.section.Section.{Section}

-- x is first + step × t for some t below count
abbrev pub Among : (first step count : ℕ) → ℕ → Type 0
Among first step count x = (t : ℕ) × ((t < count) × (x ≡ first + step * t))

abbrev pub In : Section → ℕ → Type 0
In s x = Among s.first s.step s.count x

abbrev pub last_cell : Section → ℕ
last_cell s = s.first + s.step * (s.count - 1)

abbrev pub Included : Section → Section → Type 0
Included a b = (x : ℕ) → In a x → In b x

-- the least number with both properties, or none where no number has both
abbrev pub LeastBoth : (ℕ → Type 0) → (ℕ → Type 0) → Option ℕ → Type 0
LeastBoth P Q None = (x : ℕ) → P x → Q x → ⊥
LeastBoth P Q (Some x) = P x × (Q x × ((y : ℕ) → P y → Q y → x ≤ y))

abbrev pub LeastShared : Section → Section → Option ℕ → Type 0
LeastShared a b r = LeastBoth (In a) (In b) r

-- The same by going through the cells one by one.

-- that many cells from the first on
unfoldable pub cells_from : (count first step : ℕ) → List ℕ
cells_from zero first step = []
cells_from (suc n) first step = first ∷ cells_from n (first + step) step

abbrev pub cells : Section → List ℕ
cells s = cells_from s.count s.first s.step

-- whether x is one of the cells
unfoldable pub has : Section → ℕ → Bool
has s x = list_any (nat_eq x) (cells s)

-- whether each cell of a is one of b
unfoldable pub within : Section → Section → Bool
within a b = list_all (has b) (cells a)

-- the first of a's cells that is one of b: the least, since they ascend
unfoldable pub shown : Section → Section → Option ℕ
shown a b = find (has b) (cells a)
