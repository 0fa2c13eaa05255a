use Rattle.std.proofs.Common.{◌≡◌, ℕ, Some, None, Option, refl, ◌∙◌}
use Rattle.theory.specs.Meaning.{pointed}
use Rattle.sections.specs.Cells.{In, shown}
use Rattle.sections.specs.SectionMeaning.{section_meaning}
use Rattle.sections.specs.Listed.{shown_least}
use Rattle.sections.proofs.Sharing.{least_one}
use Rattle.sections.proofs.sections.SectionsTheory.share.Goals as goal

-- a program's number stands for itself
itself : (r : Option ℕ) → pointed section_meaning r ≡ r
itself None = refl
itself (Some x) = refl

pub returns : goal.returns
returns c =
    let a = c.args.a.now in
    let b = c.args.b.now in
    itself _ ∙ least_one (In a) (In b) _ (shown a b) c.least_shared.ensures (shown_least a b)
