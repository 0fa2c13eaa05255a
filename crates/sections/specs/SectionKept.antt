-- Sections keep their meaning. Assumes nothing.
use Rattle.std.specs.Prelude.{◌≡◌, ℕ, ◌+◌, ◌-◌, ◌*◌, ◌<◌, ◌≤◌, List, length, Some, None, Option, ◌==◌, nat_le, nat_lt}
use Rattle.std.proofs.Common.{ap, mul-le-mul_right, arith, leb-true}
use Rattle.std.proofs.Math.Decide.{dec_lt}
use Rattle.theory.specs.declared.fault.Flaw.TheVariants.{Cut, Kind, Limit}
use Rattle.theory.specs.Meaning.{Inside, Kept, Shared, Single, zeros}
use Rattle.theory.specs.Reading.{byte, word}
use Rattle.theory.proofs.Holes.{zeros_fill}
use Rattle.theory.proofs.Inside.{provided_inside}
use Rattle.theory.specs.Telling.{tells_eqb}
use Rattle.sections.specs.declared.section.Section.{Section}
use Rattle.sections.specs.declared.pattern.SectionPattern.{SectionPattern}
use Rattle.sections.specs.Cells.{LeastShared, shown}
use Rattle.sections.specs.SectionMeaning.{first_cell, hole_allowed, built, body, section_reads, section_meaning}
use Rattle.sections.specs.Cell.{first_in, last_in}
use Rattle.sections.specs.Listed.{has_tells, within_tells, shown_least}

built_inside : (file : List ℕ) (at hole scale offset step count : ℕ) (d : Dec (0 < step)) (e : Dec (0 < count)) → at + 9 ≤ length file → Inside file at (built at hole scale offset step count d e)
built_inside file at hole scale offset step count (yes a) (yes b) h = omega arith
built_inside file at hole scale offset step count (yes a) (no b) h = omega arith
built_inside file at hole scale offset step count (no a) d h = omega arith

read_inside : (file : List ℕ) (at depth : ℕ) → at ≤ length file → Inside file at (section_reads file at depth)
read_inside file at depth h =
    provided_inside file at (nat_lt at (length file)) Cut _ h
    (λ _. provided_inside file at (byte file at == 0x48) Kind _ h
    (λ _. provided_inside file at (nat_le (at + 9) (length file)) Cut _ h
    (λ l. provided_inside file at (hole_allowed depth (byte file (at + 1)) (byte file (at + 2))) Limit (body file at) h
    (λ _. built_inside file at _ _ _ _ _ (dec_lt 0 (word file (at + 5))) (dec_lt 0 (word file (at + 7))) (leb-true _ _ l)))))

shared_from : (a b : Section) (r : Option ℕ) → LeastShared a b r → Shared section_meaning a b r
shared_from a b None h = h
shared_from a b (Some x) (p, (q, l)) = (p, q)

-- a section of one cell, and a single pattern
one_single : (p : SectionPattern) → p.count ≡ 1 → Single section_meaning p
one_single p e is f =
    (first_cell p is, (first_in _ _ _ p.some, λ y (t, (l, a)). let v : t ≡ 0 = omega arith in omega (arith, ap (λ (z : ℕ). p.step * z) v)))

single_one : (p : SectionPattern) → Single section_meaning p → p.count ≡ 1
single_one p h =
    let x = first_cell p zeros in
    let c = h zeros zeros_fill in
    let a : x ≡ c.0 = c.1.1 x (first_in _ _ _ p.some) in
    let b : x + p.step * (p.count - 1) ≡ c.0 = c.1.1 (x + p.step * (p.count - 1)) (last_in _ _ _ p.some) in
    let m = p.moves in
    let s = p.some in
    let g : 1 * (p.count - 1) ≤ p.step * (p.count - 1) = mul-le-mul_right (p.count - 1) m in
    omega arith

pub section_kept : Kept section_meaning
section_kept = record {
  inside = read_inside;
  alike = λ x y. tells_eqb x y (λ e. e) (λ e. e);
  lone = λ p. tells_eqb p.count 1 (one_single p) (single_one p);
  named = λ p s is f. first_in _ _ _ p.some;
  some = λ r. (r.first, first_in _ _ _ r.some);
  member = has_tells;
  part = within_tells;
  shows = λ a b. shared_from a b (shown a b) (shown_least a b);
}
