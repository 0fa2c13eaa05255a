-- The laws of sections and the worked ones. Assumes nothing.
use Rattle.std.specs.Option.{IfSome}
use Rattle.sections.specs.declared.pattern.Hole.{Hole}
use Rattle.std.proofs.Common.{zero, suc, Option, Some, None, ◌≡◌, ℕ, ◌+◌, ◌*◌, ◌<◌, ◌≤◌, Bool, true, false, eqb, ltb, leb, ◌⊎◌, List, length, Ok, Err, Result, refl, subst, inl, inr, mul-le-mul, arith}
use Prim.Native.Nat.{◌∣◌}
use native.Mathlib.Nat.{dvd_of_mod-eq-zero, mod-eq-zero_of_dvd}
use native.Mathlib.Decide.{dec_lt}
use Rattle.theory.specs.declared.fault.Flaw.{Flaw}
use Rattle.theory.specs.declared.fault.Flaw.TheVariants.{Cut, Kind, Limit}
use Rattle.theory.specs.declared.fault.PatternFault.{PatternFault}
use Rattle.theory.specs.Meaning.{Filling, largest_index}
use Rattle.theory.specs.Reading.{Bytes, byte, word, provided}
use Rattle.theory.proofs.Holes.{index_small}
use Rattle.sections.specs.declared.section.Section.{Section}
use Rattle.sections.specs.declared.pattern.SectionPattern.{SectionPattern}
use Rattle.sections.specs.Cells.{In, Included, cells_from, has, last_cell, within, shown}
use Rattle.sections.specs.SectionMeaning.{section_filled, moved, hole_allowed, hole_of, built, body, section_reads}
use Rattle.sections.specs.SectionLaws.{Fits, SectionLaws, largest_cell}
use Rattle.sections.specs.Worked.{WorkedSections}
use Rattle.sections.specs.Cell.{first_in, last_in, every_by_step, every_one, step_divides}
use Rattle.sections.specs.Listed.{shown_least}

pub worked : WorkedSections
unfolding cells_from has within shown
worked = record { meet = refl; ended = refl; inside = refl }

-- inclusion by the ends
from_ends : (a b : Section) → Fits a b → Included a b
from_ends a b (f, (l, inl e)) = every_one _ _ _ _ _ _ b.moves e f
from_ends a b (f, (l, inr d)) =
    every_by_step _ _ _ _ _ _ b.moves (mod-eq-zero_of_dvd b.step d) f l

to_steps : (a b : Section) → Included a b → Dec (1 < a.count) → (a.count ≡ 1) ⊎ (b.step ∣ a.step)
to_steps a b h (yes p) = inr (dvd_of_mod-eq-zero b.step (step_divides _ _ _ _ _ _ b.moves p h))
to_steps a b h (no p) = inl (let s = a.some in omega arith)

to_ends : (a b : Section) → Included a b → Fits a b
to_ends a b h = (
  h a.first (first_in _ _ _ a.some),
  (h (last_cell a) (last_in _ _ _ a.some), to_steps a b h (dec_lt 1 a.count)),
)

-- the numbers of a pattern that is read
abbrev Small : SectionPattern → Type 0
Small p = (p.offset ≤ 65535) × (IfSome p.hole (λ h. h.scale ≤ 255) × ((p.step ≤ 65535) × (p.count ≤ 65535)))

abbrev SmallRead : Result (SectionPattern × ℕ) PatternFault → Type 0
SmallRead (Ok (p, end)) = Small p
SmallRead (Err f) = Unit {0}

provided_small : (t : Bool) (f : Flaw) (at : ℕ) (r : Result (SectionPattern × ℕ) PatternFault) → SmallRead r → SmallRead (provided t f at r)
provided_small true f at r h = h
provided_small false f at r h = tt

hole_small : (hole scale : ℕ) → scale ≤ 255 → IfSome (hole_of hole scale) (λ h. h.scale ≤ 255)
hole_small zero scale s = tt
hole_small (suc n) scale s = s

built_small : (at hole scale offset step count : ℕ) (d : Dec (0 < step)) (e : Dec (0 < count)) →
    offset ≤ 65535 → scale ≤ 255 → step ≤ 65535 → count ≤ 65535 → SmallRead (built at hole scale offset step count d e)
built_small at hole scale offset step count (yes a) (yes b) o s t c = (o, (hole_small hole scale s, (t, c)))
built_small at hole scale offset step count (yes a) (no b) o s t c = tt
built_small at hole scale offset step count (no a) d o s t c = tt

read_small : (file : List ℕ) (at depth : ℕ) → Bytes file → SmallRead (section_reads file at depth)
read_small file at depth b =
    provided_small (ltb at (length file)) Cut at _
    (provided_small (eqb (byte file at) 0x48) Kind at _
    (provided_small (leb (at + 9) (length file)) Cut at _
    (provided_small (hole_allowed depth (byte file (at + 1)) (byte file (at + 2))) Limit at (body file at)
    (built_small at _ _ _ _ _ (dec_lt 0 (word file (at + 5))) (dec_lt 0 (word file (at + 7)))
    (omega (arith, b (at + 3), b (at + 3 + 1))) (omega (arith, b (at + 2))) (omega (arith, b (at + 5), b (at + 5 + 1))) (omega (arith, b (at + 7), b (at + 7 + 1)))))))

moved_small : (h : Option Hole) (is : List ℕ) → IfSome h (λ h. h.scale ≤ 255) → Filling is → moved h is ≤ 255 * largest_index
moved_small None is s f = omega arith
moved_small (Some h) is s f = mul-le-mul s (index_small is h.number f)

bound : (file : List ℕ) (at depth end : ℕ) (p : SectionPattern) → Bytes file → section_reads file at depth ≡ Ok (p, end) →
    (is : List ℕ) → Filling is → (x : ℕ) → In (section_filled p is) x → x ≤ largest_cell
bound file at depth end p b e is f x (t, (l, a)) =
    let m : Small p = subst SmallRead e (read_small file at depth b) in
    let first = moved_small p.hole is m.1.0 f in
    let k : t ≤ 65534 = let c = m.1.1.1 in omega arith in
    let r : p.step * t ≤ 65535 * 65534 = mul-le-mul m.1.1.0 k in
    omega arith

pub laws : SectionLaws
laws = record { least = shown_least; ends = λ a b. (to_ends a b, from_ends a b); bound = bound; reach = refl }
