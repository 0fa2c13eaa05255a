-- What is exact about the answers on paths. Assumes nothing.
use Rattle.std.specs.Prelude.{◌≡◌, ◌≤◌, false, List, length}
use Rattle.theory.specs.Meaning.{Tells}
use Rattle.rpl.specs.declared.element.Key.{Key}
use Rattle.rpl.specs.declared.element.Element.{Element}
use Rattle.rpl.specs.Paths.{Cells, same_cell}
use Rattle.rpl.specs.Greedy.{has_cell}
use Rattle.rpl.specs.Inclusion.{FitPath, Outside, within_path}
use Rattle.rpl.specs.Sharing.{AtMost, InBoth, Shows, common}
use Rattle.rpl.specs.Singles.{OnlyOne, a_cell, single_path}

pub record Exact : Type 0 where
  -- yes exactly of equal cells, of the cells of the path, and of paths whose every cell is in the other
  pub same : (u v : List Key) → Tells (same_cell u v) (u ≡ v)
  pub has : (p : List Element) (w : List Key) → Tells (has_cell p w) (Cells p w)
  pub within : (p q : List Element) → Tells (within_path p q) ((w : List Key) → Cells p w → Cells q w)
  -- a refused inclusion has a cell to show for it, with numbers that fit
  pub outside : (p q : List Element) → FitPath p → length q ≤ 65535 → within_path p q ≡ false → Outside p q
  -- a cell in both, or none where there is none; of two paths of at most 12 elements it has at most 22
  pub shows : (p q : List Element) → Shows (InBoth p q) (common p q)
  pub short : (p q : List Element) → length p ≤ 12 → length q ≤ 12 → AtMost 22 (common p q)
  -- every path has a cell, and just one exactly where it is single
  pub some : (p : List Element) → Cells p (a_cell p)
  pub single : (p : List Element) → OnlyOne p (single_path p)
