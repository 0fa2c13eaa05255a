-- What the search for a strand finds in each part of a block that was read. Assumes nothing.
use Rattle.std.specs.Prelude.{◌≡◌, ℕ, ◌<◌, ◌≤◌, List, Some, Ok, Option}
use Rattle.std.specs.Option.{option_map}
use Rattle.theory.specs.Meaning.{Meaning}
use Rattle.recipe.specs.declared.record.Fork.{Fork}
use Rattle.recipe.specs.Blocks.{block_at, branches, forking, inner, statement, statements, under}
use Rattle.recipe.specs.Tree.{Block, Blocks, Statement, Statements, branched, forked, size, sizes}
use Rattle.recipe.specs.declared.site.Site.{Site}
use Rattle.strands.specs.Located.{located}
use Rattle.recipe.specs.Cells.{at_number}
use Rattle.strands.specs.Strands.{strands_beside, strands_in, strands_of, strands_under}

module _ {P R C : Type 0} (m : Meaning P R C) (file : List ℕ) (site : Site) (is : List ℕ) (number : ℕ) (r : Option (Site × List ℕ)) where
  -- in the block at the site
  abbrev pub FoundInBlock : Type 0
  FoundInBlock = (b : Block P) (e : ℕ) → block_at m file site.forks site.depth site.place ≡ Ok (b, e) → size b ≤ 1024 → number < size b →
      r ≡ option_map located (at_number (strands_of b site.forks site.depth is) number)

  -- in the statements from the site on
  abbrev pub FoundInStatements : Type 0
  FoundInStatements = (ss : Statements P) (fuel e : ℕ) → statements m file (inner m file site.forks) site.forks site.depth fuel site.place ≡ Ok (ss, e) → sizes ss ≤ 1024 → number < sizes ss →
      r ≡ option_map located (at_number (strands_in ss site.forks site.depth is) number)

  -- in the statement at the site
  abbrev pub FoundInStatement : Type 0
  FoundInStatement = (s : Statement P) (e : ℕ) → statement m file (inner m file site.forks) site.forks site.depth site.place ≡ Ok (Some s, e) → forked s ≤ 1024 → number < forked s →
      r ≡ option_map located (at_number (strands_under s site.forks site.depth is) number)

  -- in the statement at the site, under a When
  abbrev pub FoundUnder : Type 0
  FoundUnder = (s : Statement P) (e : ℕ) → under m file (inner m file site.forks) site.forks site.depth site.place ≡ Ok (s, e) → forked s ≤ 1024 → number < forked s →
      r ≡ option_map located (at_number (strands_under s site.forks site.depth is) number)

  -- in the blocks of a fork, whose first stands at the site
  abbrev pub FoundInFork : Fork → Type 0
  FoundInFork fork = (s : Statement P) (at e : ℕ) → forking m file (inner m file site.forks) site.depth at fork site.place ≡ Ok (s, e) → forked s ≤ 1024 → number < forked s →
      r ≡ option_map located (at_number (strands_under s site.forks site.depth is) number)

  -- in so many blocks one after another
  abbrev pub FoundInBranches : ℕ → Type 0
  FoundInBranches count = (bs : Blocks P) (e : ℕ) → branches m file (block_at m file site.forks) count site.depth site.place ≡ Ok (bs, e) → branched bs ≤ 1024 → number < branched bs →
      r ≡ option_map located (at_number (strands_beside bs site.forks site.depth is) number)
