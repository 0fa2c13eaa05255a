use Rattle.std.proofs.Common.{◌≡◌, ◌-◌, ◌≤◌, length}
use Rattle.paths.specs.Reading.{path_reads, read_on}
use Rattle.paths.proofs.reading.read_pattern.Given as goal

-- what is read from here on, behind the pattern so far, is what is read in all
abbrev pub invariant-loop-record : goal.invariant-loop-record
invariant-loop-record l = record {
  few : length l.pattern.items ≤ 12;
  on : read_on (12 - length l.pattern.items) l.file l.depth l.pattern l.place ≡ path_reads l.fn.file l.fn.place l.fn.depth;
}

abbrev pub decreases-loop-record : goal.decreases-loop-record
decreases-loop-record l = 12 - length l.pattern.items
