-- Worked sections, as (first, step, count). Assumes nothing.
use Rattle.std.specs.Prelude.{◌≡◌, ℕ, ◌<◌, true, Some, None}
use Rattle.std.proofs.Common.{arith}
use Rattle.sections.specs.declared.section.Section.{Section}
use Rattle.sections.specs.SectionMeaning.{section_meaning}

abbrev pub section : (first step count : ℕ) → 0 < step → 0 < count → Section
section first step count m s = record { first = first; step = step; count = count; moves = m; some = s }

abbrev pub sixes : Section
sixes = section 0 6 10 (omega arith) (omega arith)

abbrev pub four_sixes : Section
four_sixes = section 0 6 4 (omega arith) (omega arith)

abbrev pub tens : Section
tens = section 4 10 3 (omega arith) (omega arith)

pub record WorkedSections : Type 0 where
  -- 0, 6, .. , 54 and 4, 14, 24 meet at 24
  pub meet : section_meaning.shown sixes tens ≡ Some 24
  -- 0, 6, 12, 18 have ended by then
  pub ended : section_meaning.shown four_sixes tens ≡ None
  -- 4 alone is among 0, 2, 4
  pub inside : section_meaning.within (section 4 12 1 (omega arith) (omega arith)) (section 0 2 3 (omega arith) (omega arith)) ≡ true
