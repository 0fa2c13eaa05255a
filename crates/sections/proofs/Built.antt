-- Sections and patterns are equal where their numbers are, and what the bytes of a whole body read as. Assumes nothing.
use Rattle.std.proofs.Common.{Bool, true, false, cond, refl, zero, Option, Some, Err, get_or, drop, ne_eqb, ◌≡◌, ℕ, suc, ◌+◌, ◌*◌, ◌<◌, ◌≤◌, List, length, length-drop, Ok, arith, lt-ltb, eq-eqb, le-leb}
use native.Mathlib.Bridge.{le_prop}
use native.Mathlib.Decide.{dec_lt}
use Rattle.std.proofs.lemmas.List.{get_or-take, get_or-drop}
use Rattle.std.proofs.lemmas.Slice.{between_to_end}
use Rattle.std.specs.Array.{IsFirstChunk}
use Rattle.std.specs.List.{between}
use Rattle.theory.specs.declared.fault.Flaw.TheVariants.{Limit}
use Rattle.sections.specs.declared.pattern.Hole.{Hole}
use Rattle.theory.specs.Reading.{byte, word}
use Rattle.sections.specs.declared.section.Section.{Section}
use Rattle.sections.specs.declared.pattern.SectionPattern.{SectionPattern}
use Rattle.sections.specs.SectionMeaning.{first_cell, section_filled, hole_allowed, hole_of, hole_said, built, section_reads}

pub filled_same : (p : SectionPattern) (x : ℕ) (is : List ℕ) (m : 0 < p.step) (s : 0 < p.count) → x ≡ first_cell p is →
    ◌≡◌ {A = Section} (record { first = x; step = p.step; count = p.count; moves = m; some = s }) (section_filled p is)
filled_same p x is m s e = λ d. record { first = e d; step = p.step; count = p.count; moves = le_prop m p.moves d; some = le_prop s p.some d }

-- a hole that may stand there
pub hole_some : (depth number scale : ℕ) → 0 < number → number ≤ depth → number ≤ 3 → Ok (Some (record { number = number; scale = scale })) ≡ hole_said depth number scale
hole_some depth zero scale m d h = absurd (omega arith)
hole_some depth (suc n) scale m d h =
    rw (le-leb _ _ d, le-leb _ _ h, ne_eqb (suc n) 0 (λ e. omega arith)) refl

said_as : (t : Bool) (x y : Option Hole) → cond t (Ok x) (Err Limit) ≡ Ok y → (t ≡ true) × (x ≡ y)
said_as true x y e = (refl, cc)
said_as false x y e = absurd cc

module _ (at hole scale o : ℕ) where
  built_none : (s n : ℕ) → (0 < s → 0 < n → ⊥) → (d : Dec (0 < s)) (e : Dec (0 < n)) → Err (record { flaw = Limit; place = at }) ≡ built at hole scale o s n d e
  built_none s n z (yes k) (yes l) = absurd (z k l)
  built_none s n z (yes k) (no l) = refl
  built_none s n z (no k) d = refl

  built_yes : (s n : ℕ) (m : 0 < s) (k : 0 < n) (d : Dec (0 < s)) (e : Dec (0 < n)) →
      Ok (record { hole = hole_of hole scale; offset = o; step = s; count = n; moves = m; some = k }, at + 9) ≡ built at hole scale o s n d e
  built_yes s n m k (yes p) (yes q) = λ i. Ok (record { hole = hole_of hole scale; offset = o; step = s; count = n; moves = le_prop m p i; some = le_prop k q i }, at + 9)
  built_yes s n m k (yes p) (no q) = absurd (q k)
  built_yes s n m k (no p) d = absurd (p m)

-- a body behind its kind byte
module _ (file body : List ℕ) (at depth o s n : ℕ) (kind : byte file at ≡ 0x48) (chunk : IsFirstChunk (between (at + 1) (length file) file) body 8)
    (eo : o ≡ get_or body 2 0 + get_or body 3 0 * 256) (es : s ≡ get_or body 4 0 + get_or body 5 0 * 256) (en : n ≡ get_or body 6 0 + get_or body 7 0 * 256) where
  rest : between (at + 1) (length file) file ≡ drop (at + 1) file
  rest = between_to_end file (at + 1) (length file) (omega arith)

  room : at + 9 ≤ length file
  room = let l : 8 ≤ length (drop (at + 1) file) = rw rest at chunk.enough in omega (arith, length-drop (at + 1) file)

  byte_of : (k j : ℕ) → k < 8 → j ≡ at + 1 + k → get_or body k 0 ≡ byte file j
  byte_of k j h l = rw (chunk.same, rest, l, get_or-take 8 (drop (at + 1) file) k 0 h, get_or-drop (at + 1) file k 0)

  as_built : hole_allowed depth (get_or body 0 0) (get_or body 1 0) ≡ true →
      section_reads file at depth ≡ built at (get_or body 0 0) (get_or body 1 0) o s n (dec_lt 0 s) (dec_lt 0 n)
  as_built h =
      let b0 : get_or body 0 0 ≡ byte file (at + 1) = byte_of 0 (at + 1) (omega arith) (omega arith) in
      let b1 : get_or body 1 0 ≡ byte file (at + 2) = byte_of 1 (at + 2) (omega arith) (omega arith) in
      let wo : o ≡ word file (at + 3) = omega (arith, byte_of 2 (at + 3) (omega arith) (omega arith), byte_of 3 (at + 3 + 1) (omega arith) (omega arith)) in
      let ws : s ≡ word file (at + 5) = omega (arith, byte_of 4 (at + 5) (omega arith) (omega arith), byte_of 5 (at + 5 + 1) (omega arith) (omega arith)) in
      let wn : n ≡ word file (at + 7) = omega (arith, byte_of 6 (at + 7) (omega arith) (omega arith), byte_of 7 (at + 7 + 1) (omega arith) (omega arith)) in
      let l : at < length file = let r = room in omega arith in
      rw (← b0, ← b1, ← wo, ← ws, ← wn, lt-ltb _ _ l, eq-eqb _ _ kind, le-leb _ _ room, h)

  pub reads_none : (0 < s → 0 < n → ⊥) → (hole : Option Hole) → hole_said depth (get_or body 0 0) (get_or body 1 0) ≡ Ok hole → Err (record { flaw = Limit; place = at }) ≡ section_reads file at depth
  reads_none z hole h =
      let e = said_as _ _ _ h in
      rw (as_built e.0) (built_none _ _ _ _ _ _ z (dec_lt 0 s) (dec_lt 0 n))

  pub reads_well : (hole : Option Hole) → hole_said depth (get_or body 0 0) (get_or body 1 0) ≡ Ok hole → (m : 0 < s) (k : 0 < n) →
      Ok (record { hole = hole; offset = o; step = s; count = n; moves = m; some = k }, at + 1 + 8) ≡ section_reads file at depth
  reads_well hole h m k =
      let end : at + 1 + 8 ≡ at + 9 = omega arith in
      let e = said_as _ _ _ h in
      rw (as_built e.0, ← e.1, end) (built_yes _ _ _ _ _ _ m k (dec_lt 0 s) (dec_lt 0 n))
