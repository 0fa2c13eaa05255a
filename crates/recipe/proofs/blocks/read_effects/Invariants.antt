use Rattle.std.proofs.Common.{◌≡◌, ◌-◌, ◌≤◌}
use Rattle.recipe.specs.Blocks.{effects}
use Rattle.recipe.specs.Records.{mapped}
use Rattle.recipe.specs.Extents.{ending}
use Rattle.recipe.proofs.blocks.read_effects.Given as goal

abbrev pub invariant-loop : goal.invariant-loop
invariant-loop g l =
    (mapped ending (effects g.T.Theory.meaning l.file (16 - l.counter) l.site.depth l.at) ≡ mapped ending (effects g.T.Theory.meaning l.file 16 l.site.depth l.site.place))
    × (l.site.place ≤ l.at)
