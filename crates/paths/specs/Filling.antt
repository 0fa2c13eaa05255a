-- Filling a path pattern. Assumes nothing.
--
-- pattern   the list of its pieces
-- region    the path that it is: the list of its elements
use Rattle.std.specs.Prelude.{ℕ, ◌+◌, ◌*◌, List, map}
use Rattle.theory.specs.Meaning.{index_of}
use Rattle.rpl.specs.declared.element.Part.TheVariants.{Index}
use Rattle.rpl.specs.declared.element.Element.{Element}
use Rattle.rpl.specs.declared.element.Element.TheVariants.{One}
use Rattle.rpl.specs.ShortList.{ShortList}
use Rattle.paths.specs.declared.pattern.Piece.{Piece}
use Rattle.paths.specs.declared.pattern.Piece.TheVariants.{Fixed, Filled}

abbrev pub Pattern : Type 0
Pattern = ShortList Piece

abbrev pub Region : Type 0
Region = ShortList Element

-- a filled index is scale × the index of its hole + offset
abbrev pub piece_filled : List ℕ → Piece → Element
piece_filled is (Fixed a) = a
piece_filled is (Filled f) = One (Index (f.scale * index_of is f.hole + f.offset))

abbrev pub path_filled : Pattern → List ℕ → Region
path_filled p is = record { items = map (piece_filled is) p.items }
