use Rattle.std.proofs.Common.{◌≡◌, ◌≤◌, length, take}
use Rattle.rpl.specs.Singles.{a_cell}
use Rattle.rpl.proofs.singles.only.Given as goal

abbrev pub invariant-loop-element : goal.invariant-loop-element
invariant-loop-element l = record { keys : l.cell.items ≡ a_cell (take l.element-index l.path); few : length l.cell.items ≤ l.element-index }
