-- What holds of all sections. Assumes nothing.
use Rattle.std.specs.Prelude.{◌≡◌, ℕ, ◌+◌, ◌*◌, ◌≤◌, ◌⊎◌, ◌↔◌, List, Ok}
use Rattle.std.specs.Int.{◌∣◌}
use Rattle.theory.specs.Meaning.{Filling, largest_index}
use Rattle.theory.specs.Reading.{Bytes}
use Rattle.sections.specs.declared.section.Section.{Section}
use Rattle.sections.specs.declared.pattern.SectionPattern.{SectionPattern}
use Rattle.sections.specs.Cells.{In, Included, LeastShared, last_cell, shown}
use Rattle.sections.specs.SectionMeaning.{section_filled, section_reads}

-- the largest cell: offset, step and count are at most 65,535, a scale at most 255
abbrev pub largest_cell : ℕ
largest_cell = 65535 + 255 * largest_index + 65535 * 65534

-- both ends of a are in b, and a has no other cell or goes by a multiple of b's step
abbrev pub Fits : Section → Section → Type 0
Fits a b = In b a.first × (In b (last_cell a) × ((a.count ≡ 1) ⊎ (b.step ∣ a.step)))

pub record SectionLaws : Type 0 where
  pub least : (a b : Section) → LeastShared a b (shown a b)
  pub ends : (a b : Section) → Included a b ↔ Fits a b
  pub bound : (file : List ℕ) (at depth end : ℕ) (p : SectionPattern) → Bytes file → section_reads file at depth ≡ Ok (p, end) →
      (is : List ℕ) → Filling is → (x : ℕ) → In (section_filled p is) x → x ≤ largest_cell
  pub reach : largest_cell ≡ 4294852290
