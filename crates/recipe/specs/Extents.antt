-- Where parts of a file end, and how many strands they have. Assumes nothing.
use Rattle.std.specs.Prelude.{ℕ, ◌+◌, ◌*◌, ◌<◌, ◌≤◌, min, List, length, Some, None, Option}
use Rattle.recipe.specs.declared.extent.Extent.{Extent}
use Rattle.recipe.specs.Tree.{Statement, forked}

abbrev pub most_strands : ℕ
most_strands = 1024

-- strands are counted up to one more than is allowed
abbrev pub capped : ℕ → ℕ
capped n = min n 1025

-- the extent of what was read, by its number of strands
abbrev pub extent : {X : Type 0} → (X → ℕ) → X × ℕ → Extent
extent strands (x, end) = record { end = end; strands = capped (strands x) }

-- of a statement, or of the End of a block
abbrev pub statement_extent : {P : Type 0} → Option (Statement P) × ℕ → Option ℕ × ℕ
statement_extent (None, end) = (None, end)
statement_extent (Some s, end) = (Some (capped (forked s)), end)

abbrev pub ending : {X : Type 0} → X × ℕ → ℕ
ending (x, end) = end

-- a part and the next one, taken as one
abbrev pub one_after : Extent → Extent → Extent
one_after a b = record { end = b.end; strands = capped (a.strands + b.strands) }

-- a part with its strands so many times
abbrev pub repeated : ℕ → Extent → Extent
repeated n x = record { end = x.end; strands = capped (n * x.strands) }

-- what stands at a place ends behind it, within the file
abbrev pub EndsBehind : List ℕ → (place end : ℕ) → Type 0
EndsBehind file place end = (place < end) × (end ≤ length file)

-- the same of what may be empty: it ends at the place or behind it, within the file where the place is
abbrev pub EndsFrom : List ℕ → (place end : ℕ) → Type 0
EndsFrom file place end = (place ≤ end) × (place ≤ length file → end ≤ length file)
