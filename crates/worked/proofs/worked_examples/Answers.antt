use Rattle.std.proofs.Common.{◌≡◌, ◌<◌, Ok, refl, ap}
use native.Mathlib.Bridge.{le_prop}
use native.Mathlib.Decide.{dec_lt}
use Rattle.recipe.specs.Blocks.{block_at, branches, effects, inner, statement, statements, under}
use Rattle.recipe.specs.Cells.{cell_at, cells, position}
use Rattle.recipe.specs.Heads.{begins, head}
use Rattle.recipe.specs.Kinds.{kind_of}
use Rattle.recipe.specs.Records.{record_at}
use Rattle.recipe.specs.Recipes.{recipe_of}
use Rattle.sections.specs.SectionMeaning.{section_meaning}
use Rattle.sections.specs.Cells.{cells_from, has, shown, within}
use Rattle.strands.specs.Strands.{strands_of, strands_in, strands_under, strands_beside}
use Rattle.certifier.specs.Faults.{recipe_faults}
use Rattle.certifier.specs.Verdicts.{verdict_of}
use Rattle.worked.specs.Examples.{three_cells, three_cells_tree}
use Rattle.worked.proofs.worked_examples.Goals as goal

same : (a b : 0 < 1) (c d : 0 < 3) → three_cells_tree a c ≡ three_cells_tree b d
same a b c d = λ i. three_cells_tree (le_prop a b i) (le_prop c d i)

reads : (one : 0 < 1) (three : 0 < 3) → recipe_of section_meaning three_cells ≡ Ok (three_cells_tree one three)
unfolding begins block_at branches effects inner statement statements under cell_at cells position head kind_of record_at recipe_of strands_of strands_in strands_under strands_beside recipe_faults verdict_of cells_from has shown within dec_lt
reads one three = ap Ok (same _ one _ three)

pub returns : goal.returns
unfolding begins block_at branches effects inner statement statements under cell_at cells position head kind_of record_at recipe_of strands_of strands_in strands_under strands_beside recipe_faults verdict_of cells_from has shown within dec_lt
returns c = record {
  paths = c.worked_paths.ensures;
  sections = c.worked_sections.ensures;
  file = refl;
  tree = reads;
  lies = λ one three. c.recipe_laws.ensures.sound three_cells (three_cells_tree one three) (reads one three);
  certified = refl;
  refused = refl;
}
