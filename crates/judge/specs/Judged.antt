-- What is said of an input: a theory byte, then a file. Assumes nothing.
use Rattle.std.specs.Prelude.{ℕ, List, [], ◌∷◌, ◌++◌, Some, None, Ok, Err, codes, decimal, Option, Result}
use Rattle.theory.specs.Meaning.{Meaning}
use Rattle.theory.specs.ProductMeaning.{product_meaning}
use Rattle.sections.specs.SectionMeaning.{section_meaning}
use Rattle.paths.specs.PathsMeaning.{paths_meaning}
use Rattle.recipe.specs.declared.fault.Fault.{Fault}
use Rattle.recipe.specs.Records.{mapped}
use Rattle.recipe.specs.Numbers.{Numbers, numbered}
use Rattle.recipe.specs.Recipes.{recipe_of}
use Rattle.judge.specs.declared.judgement.Judgement.{Judgement}
use Rattle.judge.specs.declared.refusal.Refusal.{Refusal}
use Rattle.judge.specs.declared.refusal.Refusal.TheVariants.{UnknownTheory, Unread}
use Rattle.judge.specs.declared.theories.TheoryName.{TheoryName}
use Rattle.judge.specs.declared.theories.TheoryName.TheVariants.{Paths, Sections, PathsSections, SectionsSections}
use Rattle.judge.specs.Named.{theory_named}
use Rattle.judge.specs.Refusals.{refusal_line}

-- what reading gave
abbrev pub said_of : Result Numbers Fault → Result Judgement Refusal
said_of (Ok n) = Ok (record { cells = n.cells; strands = n.strands })
said_of (Err f) = Err (Unread f)

unfoldable pub read_by : {P R C : Type 0} → Meaning P R C → List ℕ → Result Judgement Refusal
read_by m file = said_of (mapped numbered (recipe_of m file))

unfoldable pub judged_named : TheoryName → List ℕ → Result Judgement Refusal
judged_named Paths file = read_by paths_meaning file
judged_named Sections file = read_by section_meaning file
judged_named PathsSections file = read_by (product_meaning paths_meaning section_meaning) file
judged_named SectionsSections file = read_by (product_meaning section_meaning section_meaning) file

abbrev pub judged_by : List ℕ → Option TheoryName → Result Judgement Refusal
judged_by file None = Err UnknownTheory
judged_by file (Some name) = judged_named name file

-- a missing theory byte counts as 0, which stands for no theory
abbrev pub judged : List ℕ → Result Judgement Refusal
judged [] = judged_by [] (theory_named 0)
judged (byte ∷ file) = judged_by file (theory_named byte)

-- the printed line of an input that reads
abbrev pub judgement_line : Judgement → List ℕ
judgement_line j =
    codes "read: " ++ (decimal j.cells ++ (codes " cells, " ++ (decimal j.strands ++ codes " strands; certifying is not built yet")))

-- the printed line of an input, read or refused
abbrev pub line : Result Judgement Refusal → List ℕ
line (Ok j) = judgement_line j
line (Err r) = refusal_line r
