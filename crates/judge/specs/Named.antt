-- The theory that a byte stands for. Assumes nothing.
use Rattle.std.specs.Prelude.{◌≡◌, ℕ, cond, Some, None, Option, Result, MatchResult, ◌==◌}
use Rattle.judge.specs.declared.theories.TheoryName.{TheoryName}
use Rattle.judge.specs.declared.theories.TheoryName.TheVariants.{Paths, Sections, PathsSections, SectionsSections}
use Rattle.judge.specs.declared.theories.UnknownTheory.{UnknownTheory}

abbrev pub theory_named : ℕ → Option TheoryName
theory_named b =
    cond (b == 1) (Some Paths)
    (cond (b == 2) (Some Sections)
    (cond (b == 3) (Some PathsSections)
    (cond (b == 4) (Some SectionsSections) None)))

-- the theory that the byte stands for, or an error with that byte where it stands for none
abbrev pub Names : ℕ → Result TheoryName UnknownTheory → Type 0
Names b r = MatchResult r (λ name. theory_named b ≡ Some name) (λ e. (e.0 ≡ b) × (theory_named b ≡ None))
