-- From a strand's number to the place of its block and its indices. Assumes nothing.
use Rattle.std.specs.Prelude.{ℕ, cond, List, None, Ok, Err, Option, Result, nat_le}
use Rattle.std.specs.Option.{option_map}
use Rattle.theory.specs.Meaning.{Meaning}
use Rattle.recipe.specs.declared.fault.Fault.{Fault}
use Rattle.recipe.specs.Blocks.{block_at, most_forks}
use Rattle.recipe.specs.Cells.{unfilled, at_number}
use Rattle.recipe.specs.Extents.{most_strands}
use Rattle.recipe.specs.Tree.{Block, block, size}
use Rattle.recipe.specs.declared.site.Site.{Site}
use Rattle.strands.specs.Strands.{Strand, strands_of}

-- the place of a block
abbrev pub place_of : {P : Type 0} → Block P → ℕ
place_of (block at es ss) = at

abbrev pub located : {P : Type 0} → Strand P → Site × List ℕ
located s = (record { place = place_of s.body; forks = s.forks; depth = s.depth }, s.indices)

-- the strand of a number in the root block; none where the block does not read or has too many strands
abbrev pub found_in : {P : Type 0} → ℕ → Result (Block P × ℕ) Fault → Option (Site × List ℕ)
found_in number (Ok (b, after)) = cond (nat_le (size b) most_strands) (option_map located (at_number (strands_of b most_forks 0 unfilled) number)) None
found_in number (Err f) = None

unfoldable pub strand_at : {P R C : Type 0} → Meaning P R C → List ℕ → (root number : ℕ) → Option (Site × List ℕ)
strand_at m file root number = found_in number (block_at m file most_forks 0 root)
