-- What a well-formed file is: which tree lies in which bytes. One record is what the reader's definition of a record has at
-- its place, which is what Layout says of its bytes (a law); of all above a record, this says where it lies and not how it is
-- read. Assumes nothing.
--
-- stands   a record stands at a place, at a spot, if the bytes from there to its end are that record's
-- lies     a part of a tree lies from a place to an end, if its records stand there one behind another, each at its place
-- forks    how many more forks may be nested
-- depth    how many foreach enclose
-- rising   numbers that grow from each to the next
use Rattle.std.specs.Prelude.{◌≡◌, ℕ, suc, ◌+◌, ◌-◌, ◌≤◌, List, [], ◌∷◌, ◌++◌, length, Some, Ok}
use Rattle.theory.specs.Meaning.{Meaning}
use Rattle.recipe.specs.declared.head.Spot.{Spot}
use Rattle.recipe.specs.declared.head.Spot.TheVariants.{Cells, Effects, Statements as InBlock, Guarded}
use Rattle.recipe.specs.declared.record.Fork.TheVariants.{Cobegin, Foreach}
use Rattle.recipe.specs.Rec.{Rec, cell, effect, operation, when, fork, end}
use Rattle.recipe.specs.Records.{record_at}
use Rattle.recipe.specs.Cells.{at_number, unfilled}
use Rattle.recipe.specs.Recipes.{Tree}
use Rattle.recipe.specs.Tree.{Effect, Block, block, Statements, stop, next, Statement, simple, guarded, cobegin, foreach, Blocks, none, more, size}

-- how many blocks
abbrev pub block_count : {P : Type 0} → Blocks P → ℕ
block_count none = 0
block_count (more b bs) = suc (block_count bs)

-- no entry of a list stands in it twice
abbrev pub Distinct : {X : Type 0} → List X → Type 0
Distinct {X} xs = (j k : ℕ) (x : X) → at_number xs j ≡ Some x → at_number xs k ≡ Some x → j ≡ k

module _ {P R C : Type 0} (m : Meaning P R C) (file : List ℕ) where
  -- this record stands at the place and has this end
  abbrev pub Stands : Spot → (forks depth at : ℕ) → Rec P → ℕ → Type 0
  Stands spot forks depth at r e = record_at m file spot forks depth at ≡ Ok (r, e)

  -- Cells one behind another, each with the one cell of its pattern
  abbrev pub CellsLie : List m.Point → (at e : ℕ) → Type 0
  CellsLie [] at e = at ≡ e
  CellsLie (x ∷ xs) at e = (p : P) × (after : ℕ) × Stands Cells 0 0 at (cell p) after × (x ≡ m.only p unfilled) × CellsLie xs after e

  -- effects one behind another
  abbrev pub EffectsLie : List (Effect P) → (depth at e : ℕ) → Type 0
  EffectsLie [] depth at e = at ≡ e
  EffectsLie (x ∷ xs) depth at e = (after : ℕ) × (x.place ≡ at) × Stands Effects 0 depth at (effect x.mode x.pattern) after × EffectsLie xs depth after e

  abbrev mutual
    -- a block: at most 16 effects, then its statements
    pub BlockLies : Block P → (forks depth at e : ℕ) → Type 0
    BlockLies (block place es ss) forks depth at e = (from : ℕ) × (place ≡ at) × (length es ≤ 16) × EffectsLie es depth at from × StatementsLie ss forks depth from e

    -- statements one behind another, and an End
    pub StatementsLie : Statements P → (forks depth at e : ℕ) → Type 0
    StatementsLie (stop place) forks depth at e = (place ≡ at) × Stands InBlock forks depth at end e
    StatementsLie (next s ss) forks depth at e = (after : ℕ) × StatementLies s InBlock forks depth at after × StatementsLie ss forks depth after e

    -- a statement of a block, or under a When: an operation; a When and its statement; a fork and its blocks, in which one
    -- fork less may be nested, and which a Foreach encloses too
    pub StatementLies : Statement P → Spot → (forks depth at e : ℕ) → Type 0
    StatementLies (simple place o) spot forks depth at e = (place ≡ at) × Stands spot forks depth at (operation o) e
    StatementLies (guarded place r s) spot forks depth at e =
        (after : ℕ) × (place ≡ at) × Stands spot forks depth at (when r) after × StatementLies s Guarded forks depth after e
    StatementLies (cobegin place bs) spot forks depth at e =
        (after : ℕ) × (place ≡ at) × Stands spot forks depth at (fork (Cobegin (block_count bs))) after × BlocksLie bs (forks - 1) depth after e
    StatementLies (foreach place n b) spot forks depth at e =
        (after : ℕ) × (place ≡ at) × Stands spot forks depth at (fork (Foreach n)) after × BlockLies b (forks - 1) (depth + 1) after e

    -- blocks one behind another
    pub BlocksLie : Blocks P → (forks depth at e : ℕ) → Type 0
    BlocksLie none forks depth at e = at ≡ e
    BlocksLie (more b bs) forks depth at e = (after : ℕ) × BlockLies b forks depth at after × BlocksLie bs forks depth after e

  -- the file is this recipe: at most 128 cells, none listed twice, and the root block, which ends with the file
  pub record WellFormed (t : Tree P m.Point) : Type 0 where
    pub short : length file ≤ 16384
    pub few_cells : length t.cells ≤ 128
    pub few_strands : size t.root ≤ 1024
    pub once : Distinct t.cells
    pub cells_lie : CellsLie t.cells 0 t.from
    pub root_lies : BlockLies t.root 6 0 t.from (length file)

-- the places of the records of a block, in the order of the tree
abbrev pub effect_places : {P : Type 0} → List (Effect P) → List ℕ
effect_places [] = []
effect_places (x ∷ xs) = x.place ∷ effect_places xs

abbrev mutual
  pub places : {P : Type 0} → Block P → List ℕ
  places (block at es ss) = effect_places es ++ places_in ss

  pub places_in : {P : Type 0} → Statements P → List ℕ
  places_in (stop at) = at ∷ []
  places_in (next s ss) = places_under s ++ places_in ss

  pub places_under : {P : Type 0} → Statement P → List ℕ
  places_under (simple at o) = at ∷ []
  places_under (guarded at r s) = at ∷ places_under s
  places_under (cobegin at bs) = at ∷ places_beside bs
  places_under (foreach at n b) = at ∷ places b

  pub places_beside : {P : Type 0} → Blocks P → List ℕ
  places_beside none = []
  places_beside (more b bs) = places b ++ places_beside bs

-- each number is above the one before it, the first is not below the start, and all are below the end
abbrev pub Rising : List ℕ → (from to : ℕ) → Type 0
Rising [] from to = from ≤ to
Rising (p ∷ ps) from to = (from ≤ p) × Rising ps (suc p) to
