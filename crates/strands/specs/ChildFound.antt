-- What the number of a child of a fork is, where the fork's blocks lie in the file. Assumes nothing.
--
-- site     the place of the fork's first block, and how many more forks may be nested and how many foreach enclose in it
-- first    the number of the fork's first child
use Rattle.std.specs.Prelude.{◌≡◌, ℕ, ◌+◌, ◌≤◌, List, Option}
use Rattle.theory.specs.Meaning.{Meaning}
use Rattle.recipe.specs.declared.record.Fork.{Fork}
use Rattle.recipe.specs.declared.record.Fork.TheVariants.{Cobegin, Foreach}
use Rattle.recipe.specs.Cells.{at_number}
use Rattle.recipe.specs.Tree.{Statement, simple, guarded, cobegin, foreach, forked}
use Rattle.recipe.specs.WellFormed.{BlockLies, BlocksLie, block_count}
use Rattle.strands.specs.Children.{children}
use Rattle.recipe.specs.declared.site.Site.{Site}

module _ {P R C : Type 0} (m : Meaning P R C) (file : List ℕ) (fork : Fork) (site : Site) where
  -- the statement is the fork, and its blocks lie from the site on, up to an end
  abbrev pub ForkLies : Statement P → ℕ → Type 0
  ForkLies (simple at o) e = ⊥
  ForkLies (guarded at r s) e = ⊥
  ForkLies (cobegin at bs) e = (fork ≡ Cobegin (block_count bs)) × BlocksLie m file bs site.forks site.depth site.place e
  ForkLies (foreach at n b) e = (fork ≡ Foreach n) × BlockLies m file b site.forks site.depth site.place e

  -- the answer is the number of the child of the fork, or none where it has no such child
  abbrev pub ChildFound : (first nth : ℕ) → Option ℕ → Type 0
  ChildFound first nth r = (s : Statement P) (e : ℕ) → ForkLies s e → first + forked s ≤ 1024 → r ≡ at_number (children s first) nth
