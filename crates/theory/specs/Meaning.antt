-- The meaning of a region theory, and when a theory keeps it. Assumes nothing.
--
-- pattern   what stands in a file; it may have holes, one for each enclosing foreach
-- filling   the indices of the enclosing foreach, put into the holes of a pattern
-- region    what a filling gives: a set of cells
-- cell      what an image has a value for; a theory's own type for it is Point, and point tells which
--           cell a value of the program stands for
use Rattle.std.specs.Prelude.{◌≡◌, ℕ, zero, suc, ◌<◌, ◌≤◌, Bool, true, false, List, [], ◌∷◌, length, Some, None, Ok, Err, Option, Result, slice_index}
use Rattle.theory.specs.declared.fault.PatternFault.{PatternFault}
use Rattle.theory.specs.declared.told.Told.{Told}
use Rattle.theory.specs.Fault.{pattern_told}

-- the largest index of a foreach, and how many foreach may enclose a pattern
abbrev pub largest_index : ℕ
largest_index = 63

abbrev pub hole_count : ℕ
hole_count = 3

-- an index for each hole, the outermost foreach first
abbrev pub Filling : List ℕ → Type 0
Filling is = (length is ≡ hole_count) × ((k : ℕ) → slice_index is k ≤ largest_index)

-- the filling whose every index is 0
abbrev pub zeros : List ℕ
zeros = 0 ∷ 0 ∷ 0 ∷ []

-- the index that fills a hole: holes count from 1, and hole 0, which is none, has index 0
abbrev pub index_of : List ℕ → ℕ → ℕ
index_of is zero = 0
index_of is (suc k) = slice_index is k

-- the answer says yes exactly when the fact holds
abbrev pub Tells : Bool → Type 0 → Type 0
Tells true P = P
Tells false P = P → ⊥

pub record Meaning (P R C : Type 0) : Type 1 where
  -- the pattern that the bytes at a place read as, with its end, under a number of enclosing foreach
  pub reads : List ℕ → ℕ → ℕ → Result (P × ℕ) PatternFault
  -- the region of a filling
  pub filled : P → List ℕ → R
  -- the cells, and which of them a value of the program stands for
  pub Point : Type 0
  pub point : C → Point
  -- are two cells the same
  pub same : Point → Point → Bool
  -- has each filling just one cell, and which
  pub single : P → Bool
  pub only : P → List ℕ → Point
  -- the cells of a region, as a fact and as a test
  pub In : R → Point → Type 0
  pub has : R → Point → Bool
  -- is every cell of the first region in the second
  pub within : R → R → Bool
  -- the cell that is shown to be in both regions
  pub shown : R → R → Option Point

-- a fault inside a pattern has a number from 2 to 5, and lies from the pattern's place to the end of the file
abbrev pub Faulty : List ℕ → ℕ → Told → Type 0
Faulty file at t = (2 ≤ t.number) × (t.number ≤ 5) × (at ≤ t.place) × (t.place ≤ length file)

-- what reading a pattern at a place may give
abbrev pub Inside : {P : Type 0} → List ℕ → ℕ → Result (P × ℕ) PatternFault → Type 0
Inside file at (Ok (p, end)) = (at < end) × (end ≤ length file)
Inside file at (Err f) = Faulty file at (pattern_told f)

module _ {P R C : Type 0} (m : Meaning P R C) where
  -- every cell of a is in b
  abbrev pub Included : R → R → Type 0
  Included a b = (x : m.Point) → m.In a x → m.In b x

  -- no cell is in both
  abbrev pub Apart : R → R → Type 0
  Apart a b = (x : m.Point) → m.In a x → m.In b x → ⊥

  -- none exactly when the regions are apart, otherwise a cell in both
  abbrev pub Shared : R → R → Option m.Point → Type 0
  Shared a b None = Apart a b
  Shared a b (Some x) = m.In a x × m.In b x

  -- x is the one cell of r
  abbrev pub Sole : R → m.Point → Type 0
  Sole r x = m.In r x × ((y : m.Point) → m.In r y → y ≡ x)

  -- each filling has just one cell
  abbrev pub Single : P → Type 0
  Single p = (is : List ℕ) → Filling is → (x : m.Point) × Sole (m.filled p is) x

  -- the cell that a value of the program stands for, where there is one
  abbrev pub pointed : Option C → Option m.Point
  pointed None = None
  pointed (Some c) = Some (m.point c)

  -- the answers are exact
  pub record Kept : Type 0 where
    -- a pattern ends after its place and within the file, and a fault lies there too
    pub inside : (file : List ℕ) (at depth : ℕ) → at ≤ length file → Inside file at (m.reads file at depth)
    -- same says yes exactly of equal cells
    pub alike : (x y : m.Point) → Tells (m.same x y) (x ≡ y)
    -- single says yes exactly of patterns whose every filling has just one cell, and only is that cell
    pub lone : (p : P) → Tells (m.single p) (Single p)
    pub named : (p : P) → Single p → (is : List ℕ) → Filling is → m.In (m.filled p is) (m.only p is)
    -- every region has a cell
    pub some : (r : R) → (x : m.Point) × m.In r x
    -- has says yes exactly of the cells of the region
    pub member : (r : R) (x : m.Point) → Tells (m.has r x) (m.In r x)
    -- within says yes exactly where every cell of the first is in the second
    pub part : (a b : R) → Tells (m.within a b) (Included a b)
    -- shown is none exactly where no cell is in both, and otherwise a cell in both
    pub shows : (a b : R) → Shared a b (m.shown a b)
