-- Reading a path pattern from bytes. Assumes nothing.
--
-- place    the number of bytes before
-- depth    the number of enclosing foreach
-- record   a kind byte, then a body: the next element of the path, or none at its end
use Rattle.std.specs.Prelude.{ℕ, zero, suc, ◌+◌, Bool, ◌&&◌, List, [], ◌∷◌, ◌++◌, length, Some, None, Option, Ok, Err, Result, nat_le, nat_lt}
use Rattle.theory.specs.declared.fault.Flaw.{Flaw}
use Rattle.theory.specs.declared.fault.Flaw.TheVariants.{Cut, Limit, TooMany}
use Rattle.theory.specs.declared.fault.PatternFault.{PatternFault}
use Rattle.theory.specs.Meaning.{hole_count}
use Rattle.theory.specs.Reading.{byte, flawed, four_bytes, provided, word}
use Rattle.rpl.specs.declared.element.Part.TheVariants.{Name, Index, AnyIndex}
use Rattle.rpl.specs.declared.element.Element.TheVariants.{Star, One}
use Rattle.paths.specs.declared.pattern.Piece.{Piece}
use Rattle.paths.specs.declared.pattern.Piece.TheVariants.{Fixed, Filled}
use Rattle.paths.specs.declared.kind.Kind.{Kind}
use Rattle.paths.specs.declared.kind.Kind.TheVariants as kind
use Rattle.paths.specs.Filling.{Pattern}
use Rattle.paths.specs.Kinds.{kind_of}

-- a record with a body of n bytes, unless the file ends before
abbrev pub whole : List ℕ → ℕ → ℕ → Result (Option Piece × ℕ) PatternFault → Result (Option Piece × ℕ) PatternFault
whole file at n r = provided (nat_le (at + 1 + n) (length file)) Cut at r

abbrev pub name_at : List ℕ → ℕ → Result (Option Piece × ℕ) PatternFault
name_at file at = whole file at 2 (Ok (Some (Fixed (One (Name (word file (at + 1))))), at + 3))

abbrev pub index_at : List ℕ → ℕ → Result (Option Piece × ℕ) PatternFault
index_at file at = whole file at 4 (Ok (Some (Fixed (One (Index (four_bytes file (at + 1))))), at + 5))

-- a hole is from 1 to the number of enclosing foreach, of which there are at most 3
abbrev pub allowed_hole : ℕ → ℕ → Bool
allowed_hole depth hole = nat_le 1 hole && nat_le hole depth && nat_le hole hole_count

abbrev pub filled_at : List ℕ → ℕ → ℕ → Result (Option Piece × ℕ) PatternFault
filled_at file depth at =
    whole file at 4
    (provided (allowed_hole depth (byte file (at + 1))) Limit at
    (Ok (Some (Filled (record { hole = byte file (at + 1); scale = byte file (at + 2); offset = word file (at + 3) })), at + 5)))

-- the record of this kind at a place
abbrev pub of_kind : Result Kind Flaw → List ℕ → ℕ → ℕ → Result (Option Piece × ℕ) PatternFault
of_kind (Ok kind.End) file depth at = Ok (None, at + 1)
of_kind (Ok kind.Name) file depth at = name_at file at
of_kind (Ok kind.Index) file depth at = index_at file at
of_kind (Ok kind.Star) file depth at = Ok (Some (Fixed Star), at + 1)
of_kind (Ok kind.AnyIndex) file depth at = Ok (Some (Fixed (One AnyIndex)), at + 1)
of_kind (Ok kind.FilledIndex) file depth at = filled_at file depth at
of_kind (Err flaw) file depth at = Err (flawed flaw at)

abbrev pub record_at : List ℕ → ℕ → ℕ → Result (Option Piece × ℕ) PatternFault
record_at file depth at = provided (nat_lt at (length file)) Cut at (of_kind (kind_of (byte file at)) file depth at)

-- a pattern of no element, and a pattern with one more
abbrev pub blank : Pattern
blank = record { items = [] }

abbrev pub added : Pattern → Piece → Pattern
added p x = record { items = p.items ++ x ∷ [] }

-- after a record: the pattern at its end, or more of it
abbrev pub after : Pattern → (Piece → ℕ → Result (Pattern × ℕ) PatternFault) → Result (Option Piece × ℕ) PatternFault → Result (Pattern × ℕ) PatternFault
after p more (Ok (None, next)) = Ok (p, next)
after p more (Ok (Some x, next)) = more x next
after p more (Err f) = Err f

-- reading goes on behind a pattern that may have some elements more
abbrev pub read_on : ℕ → List ℕ → ℕ → Pattern → ℕ → Result (Pattern × ℕ) PatternFault
read_on zero file depth p at = after p (λ x next. Err (flawed TooMany at)) (record_at file depth at)
read_on (suc left) file depth p at = after p (λ x next. read_on left file depth (added p x) next) (record_at file depth at)

unfoldable pub path_reads : List ℕ → ℕ → ℕ → Result (Pattern × ℕ) PatternFault
path_reads file at depth = read_on 12 file depth blank at
