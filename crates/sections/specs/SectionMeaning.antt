-- Sections as a theory: what bytes read as, the section of a filling, its cells. Assumes nothing.
--
-- hole     which enclosing foreach fills the pattern, if one does: 1 is the outermost
-- scale    by how much the first cell moves with each index
-- offset   the first cell at index 0
use Rattle.std.specs.Prelude.{ℕ, zero, suc, ◌+◌, ◌*◌, ◌<◌, Bool, cond, not, ◌&&◌, ◌||◌, List, length, Some, None, Option, Ok, Err, Result, ◌==◌, nat_eq, nat_le, nat_lt}
use Rattle.std.proofs.Math.Decide.{dec_lt}
use Rattle.theory.specs.declared.fault.PatternFault.{PatternFault}
use Rattle.theory.specs.declared.fault.Flaw.{Flaw}
use Rattle.theory.specs.declared.fault.Flaw.TheVariants.{Cut, Kind, Limit}
use Rattle.theory.specs.Meaning.{Meaning, hole_count, index_of}
use Rattle.theory.specs.Reading.{byte, word, provided}
use Rattle.sections.specs.declared.section.Section.{Section}
use Rattle.sections.specs.declared.pattern.SectionPattern.{SectionPattern}
use Rattle.sections.specs.declared.pattern.Hole.{Hole}
use Rattle.sections.specs.Cells.{In, has, within, shown}

-- by how much the index of the hole moves the first cell
abbrev pub moved : Option Hole → List ℕ → ℕ
moved None is = 0
moved (Some h) is = h.scale * index_of is h.number

-- the offset alone where there is no hole, else moved by the index of the hole
abbrev pub first_cell : SectionPattern → List ℕ → ℕ
first_cell p is = p.offset + moved p.hole is

abbrev pub section_filled : SectionPattern → List ℕ → Section
section_filled p is = record { first = first_cell p is; step = p.step; count = p.count; moves = p.moves; some = p.some }

-- the hole is that of an enclosing foreach, or 0, and then the scale is 0 too
abbrev pub hole_allowed : (depth hole scale : ℕ) → Bool
hole_allowed depth hole scale = nat_le hole depth && nat_le hole hole_count && (not (hole == 0) || scale == 0)

-- 0 stands for no hole
abbrev pub hole_of : (hole scale : ℕ) → Option Hole
hole_of zero scale = None
hole_of (suc n) scale = Some (record { number = suc n; scale = scale })

-- what the two bytes of a hole say, where it is allowed
abbrev pub hole_said : (depth hole scale : ℕ) → Result (Option Hole) Flaw
hole_said depth hole scale = cond (hole_allowed depth hole scale) (Ok (hole_of hole scale)) (Err Limit)

-- step and count are at least 1
abbrev pub built : (at hole scale offset step count : ℕ) → Dec (0 < step) → Dec (0 < count) → Result (SectionPattern × ℕ) PatternFault
built at hole scale offset step count (yes s) (yes c) =
    Ok (record { hole = hole_of hole scale; offset = offset; step = step; count = count; moves = s; some = c }, at + 9)
built at hole scale offset step count (yes s) (no c) = Err (record { flaw = Limit; place = at })
built at hole scale offset step count (no s) d = Err (record { flaw = Limit; place = at })

-- hole, scale, then offset, step and count of two bytes each
abbrev pub body : List ℕ → ℕ → Result (SectionPattern × ℕ) PatternFault
body file at =
    built at (byte file (at + 1)) (byte file (at + 2)) (word file (at + 3)) (word file (at + 5)) (word file (at + 7))
    (dec_lt 0 (word file (at + 5))) (dec_lt 0 (word file (at + 7)))

-- the tests in order: a missing kind byte, another kind, a cut body, numbers outside their limits
abbrev pub section_reads : List ℕ → ℕ → ℕ → Result (SectionPattern × ℕ) PatternFault
section_reads file at depth =
    provided (nat_lt at (length file)) Cut at
    (provided (byte file at == 0x48) Kind at
    (provided (nat_le (at + 9) (length file)) Cut at
    (provided (hole_allowed depth (byte file (at + 1)) (byte file (at + 2))) Limit at
    (body file at))))

abbrev pub section_meaning : Meaning SectionPattern Section ℕ
section_meaning = record {
  reads = section_reads;
  filled = section_filled;
  Point = ℕ;
  point = λ x. x;
  same = nat_eq;
  single = λ p. (p.count == 1);
  only = first_cell;
  In = In;
  has = has;
  within = within;
  shown = shown;
}
