-- The number of a child of a fork, from the places of the fork's blocks. Assumes nothing.
use Rattle.std.specs.Prelude.{ℕ, zero, suc, ◌+◌, ◌*◌, cond, List, Some, None, Ok, Err, Option, Result, nat_lt}
use Rattle.theory.specs.Meaning.{Meaning}
use Rattle.recipe.specs.declared.extent.Extent.{Extent}
use Rattle.recipe.specs.declared.fault.Fault.{Fault}
use Rattle.recipe.specs.declared.record.Fork.{Fork}
use Rattle.recipe.specs.declared.record.Fork.TheVariants.{Cobegin, Foreach}
use Rattle.recipe.specs.Blocks.{block_at}
use Rattle.recipe.specs.Records.{mapped}
use Rattle.recipe.specs.Extents.{capped, extent}
use Rattle.recipe.specs.Tree.{size}
use Rattle.recipe.specs.declared.site.Site.{Site}

-- what follows a block that was read; none where it does not read
abbrev pub past : (ℕ → ℕ → Option ℕ) → ℕ → Result Extent Fault → Option ℕ
past later number (Ok y) = later (capped (number + y.strands)) y.end
past later number (Err f) = None

abbrev pub repeated : (first nth : ℕ) → Result Extent Fault → Option ℕ
repeated first nth (Ok y) = Some (capped (first + nth * y.strands))
repeated first nth (Err f) = None

module _ {P R C : Type 0} (m : Meaning P R C) (file : List ℕ) (site : Site) where
  -- the block at a place, measured
  abbrev pub measured : ℕ → Result Extent Fault
  measured at = mapped (extent size) (block_at m file site.forks site.depth at)

  -- the number of the block after so many others, of which the first has this number and place
  unfoldable pub branch_at : (nth number at : ℕ) → Option ℕ
  branch_at zero number at = Some number
  branch_at (suc k) number at = past (branch_at k) number (measured at)

  -- the number of a child, counted from 0, of a fork whose first block stands at the site and whose first child has this number
  unfoldable pub child_at : (first nth : ℕ) → Fork → Option ℕ
  child_at first nth (Cobegin count) = cond (nat_lt nth count) (branch_at nth first site.place) None
  child_at first nth (Foreach count) = cond (nat_lt nth count) (repeated first nth (measured site.place)) None
