-- The meaning of paths as a region theory. Assumes nothing.
--
-- region   a path, which stands for cells
-- cell     a list of keys, each a name or an index
use Rattle.std.specs.Prelude.{List}
use Rattle.theory.specs.Meaning.{Meaning, zeros}
use Rattle.rpl.specs.declared.element.Key.{Key}
use Rattle.rpl.specs.Greedy.{has_cell}
use Rattle.rpl.specs.Inclusion.{within_path}
use Rattle.rpl.specs.Paths.{Cells, same_cell}
use Rattle.rpl.specs.ShortList.{ShortList}
use Rattle.rpl.specs.Sharing.{common}
use Rattle.rpl.specs.Singles.{a_cell, single_path}
use Rattle.paths.specs.Filling.{Pattern, Region, path_filled}
use Rattle.paths.specs.Reading.{path_reads}

-- whether a pattern is single does not hang on the filling: that of zeros tells
abbrev pub paths_meaning : Meaning Pattern Region (ShortList Key)
paths_meaning = record {
  reads = path_reads;
  filled = path_filled;
  Point = List Key;
  point = λ c. c.items;
  same = same_cell;
  single = λ p. single_path (path_filled p zeros).items;
  only = λ p is. a_cell (path_filled p is).items;
  In = λ r x. Cells r.items x;
  has = λ r x. has_cell r.items x;
  within = λ a b. within_path a.items b.items;
  shown = λ a b. common a.items b.items;
}
