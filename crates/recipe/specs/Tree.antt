-- A recipe as a tree: its records, each with its place, in the order of the file. Assumes nothing.
--
-- effect      Reads or Writes, and a pattern
-- fork        a Cobegin and its branches, or a Foreach and its block
-- guarded     a statement under a When
-- size        the number of strands of a block: its own, and those of the forks in it
use Rattle.std.specs.Prelude.{ℕ, suc, ◌+◌, ◌*◌, List}
use Rattle.recipe.specs.declared.record.Mode.{Mode}
use Rattle.recipe.specs.Rec.{Operation}

pub record Effect (P : Type 0) : Type 0 where
  pub place : ℕ
  pub mode : Mode
  pub pattern : P

mutual
  -- place, effects, statements
  pub data Block (P : Type 0) : Type 0 where
    block : ℕ → List (Effect P) → Statements P → Block P

  pub data Statements (P : Type 0) : Type 0 where
    stop : ℕ → Statements P
    next : Statement P → Statements P → Statements P

  pub data Statement (P : Type 0) : Type 0 where
    simple : ℕ → Operation P → Statement P
    guarded : ℕ → ℕ → Statement P → Statement P
    cobegin : ℕ → Blocks P → Statement P
    foreach : ℕ → ℕ → Block P → Statement P

  pub data Blocks (P : Type 0) : Type 0 where
    none : Blocks P
    more : Block P → Blocks P → Blocks P

abbrev mutual
  pub size : {P : Type 0} → Block P → ℕ
  size (block at es ss) = suc (sizes ss)

  pub sizes : {P : Type 0} → Statements P → ℕ
  sizes (stop at) = 0
  sizes (next s ss) = forked s + sizes ss

  pub forked : {P : Type 0} → Statement P → ℕ
  forked (simple at o) = 0
  forked (guarded at r s) = forked s
  forked (cobegin at bs) = branched bs
  forked (foreach at n b) = n * size b

  pub branched : {P : Type 0} → Blocks P → ℕ
  branched none = 0
  branched (more b bs) = size b + branched bs
